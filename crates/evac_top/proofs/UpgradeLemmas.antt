-- A building that was read is written as a text that describes it again.
use Rattle.std.proofs.Common.{◌≡◌, ℕ, ◌≤◌, List, Ok, Err, Some, None, refl, sym, ap, subst, ◌∙◌, arith}
use Rattle.std.specs.declared.option.Option.{Option}
use Rattle.evac_law.specs.declared.code.Code.{Code}
use Rattle.line_io.specs.Line.{Line, lines_of}
use Rattle.building_table.specs.declared.building.Building.{Building}
use Rattle.building_table.specs.declared.faults.ModelFault.{ModelFault}
use Rattle.building_table.specs.declared.faults.ModelFault.TheVariants.{Named, ReadFault, Memory}
use Rattle.model_text.specs.Readings.{Described, Reading, Refused, model_of}
use Rattle.model_writer.specs.Laws.{DescribesAgain}
use Rattle.model_writer.proofs.AgainLemmas.{texts-again}
use Rattle.model_writer.proofs.TextLemmas.{text-is}
use Rattle.evac_top.specs.Accounts.{Account}
use Rattle.evac_top.specs.Answers.{runs_of}
use Rattle.evac_top.specs.Inputs.{Asked, input_by, input_of, tail_fault, unless_fault}
use Rattle.evac_top.specs.Reads.{InputIs}
use Rattle.evac_top.specs.Upgrade.{IsUpgraded, Upgrades}
use Rattle.evac_top.specs.declared.read.Input.{Input}
use Rattle.evac_top.specs.declared.words.Mode.TheVariants.{Upgrade}
use Rattle.evac_top.proofs.TellLemmas.{FaultIs}

-- the building of an input is that of its lines, and no line after it has a fault
pub building-of : (r : Reading) (asked : Asked) → input_by r ≡ Ok asked
    → (rest : List Line) × (r ≡ Described asked.building asked.last rest) × (tail_fault asked.last rest ≡ None)
building-of (Described d last rest) asked e = let is = by_tail (tail_fault last rest) refl e in (rest, is.0, is.1)
  where
    here : Asked
    here = record { building = d; last = last }

    by_tail : (fault : Option (Code × ℕ)) → tail_fault last rest ≡ fault → unless_fault fault here ≡ Ok asked
        → (Described d last rest ≡ Described asked.building asked.last rest) × (tail_fault asked.last rest ≡ None)
    by_tail None none e =
        let same : here ≡ asked = cc in
        (ap (λ (a : Asked). Described a.building a.last rest) same, ap (λ (a : Asked). tail_fault a.last rest) (sym same) ∙ none)
    by_tail (Some fault) none e = absurd (cc)
building-of (Refused code line) asked e = absurd (cc)

described-again : (bytes : List ℕ) (asked : Asked) → input_of (lines_of bytes) ≡ Ok asked → DescribesAgain asked.building
described-again bytes asked e =
    let of_lines = building-of (model_of (lines_of bytes)) asked e in texts-again bytes asked.building asked.last of_lines.0 of_lines.1

-- ---- inputs

pub said-upgraded : (input : Input) (bytes : List ℕ) → InputIs (Ok input) bytes → (x : Account) → x.taken ≡ bytes → IsUpgraded input.building x
    → (runs_of (Some Upgrade)).Answers bytes x
unfolding runs_of
said-upgraded input bytes (asked, e, is, same) x all ends =
    subst (λ (r : _). Upgrades bytes r x) (sym e) (
      all,
      record { over = ends.over; text_whole = ends.text_whole ∙ text-is input.building asked.building is; counted = ends.counted },
      described-again bytes asked e,
    )

pub upgrade-fault : (fault : ModelFault) (bytes : List ℕ) → InputIs (Err fault) bytes → FaultIs Upgrade fault bytes
unfolding runs_of
upgrade-fault (Named code line) bytes e = λ x is. subst (λ (r : _). Upgrades bytes r x) (sym e) is
upgrade-fault ReadFault bytes e = tt
upgrade-fault Memory bytes e = tt

pub upgraded-few : (building : Building) (x : Account) → IsUpgraded building x → x.status ≤ 1
upgraded-few building x h = omega (arith, h.over)
