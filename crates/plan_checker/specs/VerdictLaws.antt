-- What follows from a verdict.
use Rattle.std.specs.Prelude.{◌≡◌, ◌↔◌, ℕ, ◌<◌, ◌≤◌, List}
use Rattle.evac_law.specs.declared.model.Model.{Model}
use Rattle.evac_law.specs.declared.plan.Move.{Move}
use Rattle.evac_law.specs.Building.{IsValid, people}
use Rattle.evac_law.specs.Certificates.{IsCertified}
use Rattle.evac_law.specs.LabelTable.{LabelTable}
use Rattle.evac_law.specs.Laws.{SomeoneArrivesFrom}
use Rattle.evac_law.specs.Plans.{IsEarliest, IsFeasible, out_by, person_periods}
use Rattle.certificate_text.specs.declared.block.Block.{Block}
use Rattle.certificate_text.specs.Block.{IsBlockOf}
use Rattle.plan_checker.specs.declared.verdict.Verdict.{Verdict}
use Rattle.plan_checker.specs.declared.verdict.Verdict.TheVariants.{Yes}
use Rattle.plan_checker.specs.Verdicts.{IsRight, IsVerdict}

-- yes is the verdict exactly of the blocks that are right
abbrev pub YesIsCertified : Type 0
YesIsCertified = (m : Model) (b : Block) → IsValid m → IsBlockOf m b → IsVerdict m b Yes ↔ IsRight m b

-- of a block one verdict alone is true
abbrev pub OneVerdict : Type 0
OneVerdict = (m : Model) (b : Block) (v w : Verdict) → IsVerdict m b v → IsVerdict m b w → v ≡ w

-- no feasible plan has more people out by any moment; of those that take everybody out none is over before c or has fewer person-periods;
-- and every certified plan clears at c with the same curve
pub record IsOptimal (m : Model) (p : List Move) (c : ℕ) : Type 0 where
  pub best : IsEarliest m p
  pub quickest : (q : List Move) → IsFeasible m q m.horizon → out_by m q m.horizon ≡ people m
      → (0 < c → SomeoneArrivesFrom m q c) × (person_periods m p ≤ person_periods m q)
  pub alike : (q : List Move) (l : LabelTable) (d : ℕ) → IsCertified m q l d → (d ≡ c) × ((k : ℕ) → out_by m q k ≡ out_by m p k)
