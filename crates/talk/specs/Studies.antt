-- A study over lines: what each line gets, by what it commands.
use Rattle.std.specs.Prelude.{◌≡◌, ℕ, Bool, true, false, nat_lt, [], Result, Ok, Err}
use Rattle.evac_law.specs.declared.code.Code.TheVariants.{NoPeriod}
use Rattle.evac_law.specs.declared.model.Model.{Model}
use Rattle.evac_law.specs.Certificates.{IsClearable}
use Rattle.model_text.specs.declared.study.StudyCommand.{StudyCommand}
use Rattle.model_text.specs.declared.study.StudyCommand.TheVariants.{Blank, Exits, Least as LeastOf, Quit}
use Rattle.model_text.specs.declared.fault.TextFault.{TextFault}
use Rattle.model_text.specs.Codes.{text_fault_code}
use Rattle.model_text.specs.StudyCommands.{study_command_of}
use Rattle.building_table.specs.Built.{name_code}
use Rattle.building_table.specs.declared.faults.NameFault.{NameFault}
use Rattle.building_table.specs.EditNames.{named_arc}
use Rattle.building_table.specs.Names.{NameTable}
use Rattle.exit_study.specs.declared.rates.Least.{Least}
use Rattle.talk.specs.StudyTexts.{SaysExits, SaysLeast}
use Rattle.talk.specs.Short.{OpensShort}
use Rattle.talk.specs.Talks.{Reply, Talk, WantsNone, refuses, says}

-- ---- the opening

-- a model that can be cleared is opened without a word
pub record OpensStudy (m : Model) (r : Reply (Unit {0})) : Type 0 where
  pub clearable : IsClearable m
  pub silent : r.text ≡ []

-- ---- the replies; nothing changes between them, and their steps are free

-- the least rate of an arc for a moment, where there is that moment
abbrev pub LeastReply : Model → ℕ → ℕ → ℕ → Bool → Reply (Unit {0}) → Type 0
LeastReply m line a k true r = r ≡ refuses tt NoPeriod line
LeastReply m line a k false r = (least : Least) × SaysLeast m a k least r.text

-- the least rate of a named arc
abbrev pub AsksLeast : Model → ℕ → ℕ → Result ℕ NameFault → Reply (Unit {0}) → Type 0
AsksLeast m line k (Err fault) r = r ≡ refuses tt (name_code fault) line
AsksLeast m line k (Ok a) r = LeastReply m line a k (nat_lt m.horizon k) r

-- what a line gets, by what it commands; a line that quits gets nothing
abbrev pub StudyReplies : NameTable → Model → ℕ → Result StudyCommand TextFault → Reply (Unit {0}) → Type 0
StudyReplies names m line (Err fault) r = r ≡ refuses tt (text_fault_code fault) line
StudyReplies names m line (Ok Blank) r = r ≡ says tt []
StudyReplies names m line (Ok Exits) r = SaysExits m r.text
StudyReplies names m line (Ok (LeastOf from to k)) r = AsksLeast m line k (named_arc names from to) r
StudyReplies names m line (Ok Quit) r = ⊥

-- ---- runs

-- a study of a model, whose commands name by these names
abbrev pub study : NameTable → Model → Talk (Unit {0})
study names m = record {
  Opens = OpensStudy m;
  Refuses = OpensShort m;
  Gets = λ line s text r. StudyReplies names m line (study_command_of text) r;
  Quits = λ text. study_command_of text ≡ Ok Quit;
  Wants = WantsNone;
}
