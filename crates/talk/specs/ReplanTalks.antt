-- A replan over lines: what each line gets, by what it asks for. The rows of a session come after those of a replan.
use Rattle.std.specs.Prelude.{◌≡◌, ◌≢◌, ℕ, ◌+◌, ◌<◌, ◌≤◌, Bool, true, false, ◌&&◌, nat_lt, List, [], ◌∷◌, ◌++◌, length, slice_index, codes, decimal, Result, Ok, Err, IsFalse}
use Rattle.std.specs.List.{flat_map}
use Rattle.std.specs.Str.{bytes_eq}
use Rattle.evac_law.specs.declared.code.Code.TheVariants.{BadMoment, Committed}
use Rattle.evac_law.specs.declared.edit.Edit.{Edit}
use Rattle.evac_law.specs.declared.model.Model.{Model}
use Rattle.evac_law.specs.Sums.{moments_to}
use Rattle.line_io.specs.Text.{line_text}
use Rattle.model_text.specs.declared.command.Command.{Command}
use Rattle.model_text.specs.declared.command.Command.TheVariants as commands
use Rattle.model_text.specs.declared.fault.TextFault.{TextFault}
use Rattle.model_text.specs.Codes.{text_fault_code}
use Rattle.model_text.specs.Commands.{command_of}
use Rattle.model_text.specs.Fields.{behind_field, fields_of}
use Rattle.model_text.specs.Grammar.{◌>>=◌, number_field, one_field}
use Rattle.building_table.specs.declared.faults.NameFault.{NameFault}
use Rattle.building_table.specs.EditNames.{edit_named}
use Rattle.building_table.specs.Names.{NameTable}
use Rattle.certificate_text.specs.BlockText.{end_line}
use Rattle.edit_session.specs.Sessions.{Begins}
use Rattle.report_text.specs.ReportText.{number_line}
use Rattle.replan.specs.Committed.{gone_by}
use Rattle.replan.specs.Replans.{is_bad_moment, is_of_people, nobody_gone}
use Rattle.replan.specs.Rest.{rest}
use Rattle.replan.specs.RestLaws.{IsBestFrom}
use Rattle.talk.specs.Sessions.{IsAnswerText, Opens, Replies, State}
use Rattle.talk.specs.declared.replans.request.Request.{Request}
use Rattle.talk.specs.declared.replans.request.Request.TheVariants.{Advance, Session}
use Rattle.talk.specs.Short.{OpensShort}
use Rattle.talk.specs.Talks.{Reply, Talk, refuses}

-- where a replan is between two lines: where its session is, the moment up to which plans were carried out, and who is out by each moment by that
pub record Replanned : Type 0 where
  pub session : State
  pub moment : ℕ
  pub gone : List ℕ

-- ---- what a line asks for

-- whether the first field of a line is the word `advance`
abbrev pub is_advance_word : List (List ℕ) → Bool
is_advance_word [] = false
is_advance_word (word ∷ fields) = bytes_eq word (codes "advance")

abbrev pub asks_advance : List ℕ → Bool
asks_advance line = is_advance_word (fields_of line)

-- the moment that it names, or the first fault of the line
abbrev pub moment_of : List (List ℕ) → Result ℕ TextFault
moment_of fields = one_field fields >>= λ f. number_field f

abbrev pub asked_moment : List ℕ → Result ℕ TextFault
asked_moment line = moment_of (fields_of (behind_field line))

-- what a line asks for: to carry the plan out, or what a line of a session commands
abbrev pub request_by : Bool → List ℕ → Result Request TextFault
request_by true line = asked_moment line >>= λ p. Ok (Advance p)
request_by false line = command_of line >>= λ c. Ok (Session c)

abbrev pub request_of : List ℕ → Result Request TextFault
request_of line = request_by (asks_advance line) line

-- whether a command names an edit of people, and all its names are there
abbrev pub is_named_of_people : Result Edit NameFault → Bool
is_named_of_people (Ok e) = is_of_people e
is_named_of_people (Err fault) = false

abbrev pub asks_of_people : NameTable → Command → Bool
asks_of_people names (commands.Edit edit) = is_named_of_people (edit_named names edit)
asks_of_people names other = false

-- ---- texts

-- up to where a plan was carried out
abbrev pub advance_line : ℕ → List ℕ
advance_line p = number_line (codes "advance") p

-- how many are out by a moment by what was carried out
abbrev pub gone_line : List ℕ → ℕ → List ℕ
gone_line gone k = line_text (codes "gone" ∷ decimal k ∷ decimal (slice_index gone k) ∷ [])

-- the last of them are out by a moment, the first by which as many are out as by the horizon
pub record IsLastGone (gone : List ℕ) (horizon k : ℕ) : Type 0 where
  pub within : k ≤ horizon
  pub all : slice_index gone k ≡ slice_index gone horizon
  pub fewer : (j : ℕ) → j < k → slice_index gone j ≢ slice_index gone horizon

-- who is out by what was carried out, up to the last of them
abbrev pub gone_text : ℕ → List ℕ → ℕ → List ℕ
gone_text p gone last = advance_line p ++ flat_map (gone_line gone) (moments_to last) ++ end_line

-- ---- replies

-- whether a plan can't be carried out up to a moment: to 0, past the horizon, or to before where it was carried out to
abbrev pub bars_moment : Replanned → ℕ → Bool
bars_moment s p = is_bad_moment p s.session.standing.model.horizon s.moment

-- the plan is carried out up to a moment, who is gone is said, and the next block is the best plan of what is left
pub record CarriesOut (s : Replanned) (p : ℕ) (r : Reply Replanned) : Type 0 where
  pub begins : Begins (rest s.session.standing.model s.session.standing.plan p) r.after.session.standing
  pub best : IsBestFrom s.session.standing.model s.session.standing.plan p r.after.session.standing.plan
  pub next : r.after.session.index ≡ s.session.index + 1
  pub moment : r.after.moment ≡ p
  pub moments : length r.after.gone ≡ length s.gone
  pub gone : (k : ℕ) → k ≤ s.session.standing.model.horizon
      → slice_index r.after.gone k ≡ slice_index s.gone k + gone_by s.session.standing.model s.session.standing.plan p k
  pub last : ℕ
  pub last_gone : IsLastGone r.after.gone s.session.standing.model.horizon last
  pub block : List ℕ
  pub answer : IsAnswerText r.after.session block
  pub text : r.text ≡ gone_text p r.after.gone last ++ block
  pub counted : r.steps ≡ r.after.session.standing.work.pushes

-- a moment, by whether it is barred
abbrev pub AdvancesTo : ℕ → Replanned → ℕ → Bool → Reply Replanned → Type 0
AdvancesTo line s p true r = r ≡ refuses s BadMoment line
AdvancesTo line s p false r = CarriesOut s p r

-- what a session says, with all that was carried out as before
abbrev pub carried_on : Replanned → Reply State → Reply Replanned
carried_on s r = record { text = r.text; after = record s { session = r.after }; steps = r.steps }

-- a command, by whether it is an edit of people that comes too late: it gets what a session says
abbrev pub AsksSession : NameTable → ℕ → Replanned → Command → Bool → Reply Replanned → Type 0
AsksSession names line s command true r = r ≡ refuses s Committed line
AsksSession names line s command false r = (q : Reply State) × Replies names line s.session (Ok command) q × (r ≡ carried_on s q)

abbrev pub SessionRow : NameTable → ℕ → Replanned → Command → Reply Replanned → Type 0
SessionRow names line s command r = AsksSession names line s command (nat_lt 0 s.moment && asks_of_people names command) r

-- a line, by what it asks for
abbrev pub RowOf : NameTable → ℕ → Replanned → Result Request TextFault → Reply Replanned → Type 0
RowOf names line s (Err fault) r = r ≡ refuses s (text_fault_code fault) line
RowOf names line s (Ok (Advance p)) r = AdvancesTo line s p (bars_moment s p) r
RowOf names line s (Ok (Session command)) r = SessionRow names line s command r

abbrev pub ReplanReplies : NameTable → ℕ → Replanned → List ℕ → Reply Replanned → Type 0
ReplanReplies names line s text r = RowOf names line s (request_of text) r

-- ---- runs

-- where a replan is that is opened as a session is: nothing was carried out
abbrev pub opened_on : Model → State → Replanned
opened_on m s = record { session = s; moment = 0; gone = nobody_gone m }

-- a model is opened as in a session
abbrev pub ReplanOpens : Model → Reply Replanned → Type 0
ReplanOpens m r = (q : Reply State) × Opens m q × (r ≡ record { text = q.text; after = opened_on m q.after; steps = q.steps })

-- a line at which memory may be wanting: it asks to carry the plan out up to a moment that isn't barred
pub record WantsMemory (s : Replanned) (text : List ℕ) : Type 0 where
  pub moment : ℕ
  pub asks : request_of text ≡ Ok (Advance moment)
  pub free : IsFalse (bars_moment s moment)

-- a replan on a model, whose commands name by these names
abbrev pub replan : NameTable → Model → Talk Replanned
replan names m = record {
  Opens = ReplanOpens m;
  Refuses = OpensShort m;
  Gets = λ line s text r. ReplanReplies names line s text r;
  Quits = λ text. command_of text ≡ Ok commands.Quit;
  Wants = λ line s text. WantsMemory s text;
}
