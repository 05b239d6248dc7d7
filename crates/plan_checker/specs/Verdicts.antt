-- What a checker says of a block: the first part that fails, in a fixed order, or yes.
use Rattle.std.specs.Prelude.{◌≡◌, ◌≢◌}
use Rattle.evac_law.specs.declared.model.Model.{Model}
use Rattle.evac_law.specs.Building.{people}
use Rattle.evac_law.specs.Certificates.{IsCertified}
use Rattle.certificate_text.specs.declared.block.Block.{Block}
use Rattle.plan_checker.specs.declared.verdict.Verdict.{Verdict}
use Rattle.plan_checker.specs.declared.verdict.Verdict.TheVariants.{Yes, PeopleWrong, RateBroken, HeldBroken, NotAllOut, OutWrong, CutWrong}
use Rattle.plan_checker.specs.Parts.{RatesKept, IsFirstRate, HoldsKept, IsFirstHold, IsAllOut, OutsRight, IsFirstOut, CutsRight, IsFirstCut}

-- the block's number of people is the model's
abbrev pub PeopleRight : Model → Block → Type 0
PeopleRight m b = b.people ≡ people m

-- the people are right, and rates and holds are kept
abbrev pub PlanKept : Model → Block → Type 0
PlanKept m b = PeopleRight m b × RatesKept m b.moves b.cleared × HoldsKept m b.moves b.cleared

-- that, and everybody is out at the stated moment
abbrev pub PlanClears : Model → Block → Type 0
PlanClears m b = PlanKept m b × IsAllOut m b.moves b.cleared

-- that, and the curve is right
abbrev pub CurveRight : Model → Block → Type 0
CurveRight m b = PlanClears m b × OutsRight m b.moves b.cleared b.outs

-- the verdict names the first part that fails and its place, where all parts before it hold; yes where none fails
abbrev pub IsVerdict : Model → Block → Verdict → Type 0
IsVerdict m b PeopleWrong = b.people ≢ people m
IsVerdict m b (RateBroken t a) = PeopleRight m b × IsFirstRate m b.moves b.cleared t a
IsVerdict m b (HeldBroken t n) = PeopleRight m b × RatesKept m b.moves b.cleared × IsFirstHold m b.moves b.cleared t n
IsVerdict m b NotAllOut = PlanKept m b × (¬ (IsAllOut m b.moves b.cleared))
IsVerdict m b (OutWrong k) = PlanClears m b × IsFirstOut m b.moves b.cleared b.outs k
IsVerdict m b (CutWrong k) = CurveRight m b × IsFirstCut m b.moves b.cleared b.labels k
IsVerdict m b Yes = CurveRight m b × CutsRight m b.moves b.cleared b.labels

-- a block has the model's people and the curve of its plan, and its labels certify the plan
pub record IsRight (m : Model) (b : Block) : Type 0 where
  pub people : PeopleRight m b
  pub outs : OutsRight m b.moves b.cleared b.outs
  pub certified : IsCertified m b.moves b.labels b.cleared
