-- What it changes that people leave a room before it begins, come into one, or go from one to another.
use Rattle.std.specs.Prelude.{◌≡◌, ℕ, ◌+◌, ◌<◌, ◌≤◌, List, length, Ok}
use Rattle.evac_law.specs.declared.edit.Edit.{Edit}
use Rattle.evac_law.specs.declared.edit.Edit.TheVariants.{Enter, Leave, Shift}
use Rattle.evac_law.specs.declared.model.Model.{Model}
use Rattle.evac_law.specs.declared.plan.Move.{Move}
use Rattle.evac_law.specs.Building.{IsValid, people}
use Rattle.evac_law.specs.Certificates.{IsClearable}
use Rattle.evac_law.specs.Edits.{IsEditOf, applied}
use Rattle.evac_law.specs.Plans.{IsFeasible, out_by}
use Rattle.building_laws.specs.Duality.{IsBestAt}

-- by each moment best plans of the second model have never more out than those of the first, at most w fewer, and all where these have all;
-- and it can be cleared where the first can
pub record HasFewer (m m' : Model) (w : ℕ) : Type 0 where
  pub never_more : (p q : List Move) (k : ℕ) → k ≤ m.horizon → IsBestAt m p k → IsFeasible m' q k → out_by m' q k ≤ out_by m p k
  pub little_fewer : (p q : List Move) (k : ℕ) → k ≤ m.horizon → IsFeasible m p k → IsBestAt m' q k → out_by m p k ≤ out_by m' q k + w
  pub no_later : (p q : List Move) (k : ℕ) → k ≤ m.horizon → IsFeasible m p k → out_by m p k ≡ people m → IsBestAt m' q k → out_by m' q k ≡ people m'
  pub clears : IsClearable m → IsClearable m'

-- so it is where w people leave a room
abbrev pub FewerAreNoLater : Type 0
FewerAreNoLater =
    (m m' : Model) (n w : ℕ) (e : Edit) → IsValid m → n < length m.nodes → applied m (Leave n w) ≡ Ok (m', e) → HasFewer m m' w

-- and the other way round where w people come into one
abbrev pub MoreAreNoSooner : Type 0
MoreAreNoSooner =
    (m m' : Model) (n w : ℕ) (e : Edit) → IsValid m → n < length m.nodes → applied m (Enter n w) ≡ Ok (m', e) → HasFewer m' m w

-- where w people go from one room to another, best plans differ by at most w people by each moment
abbrev pub ShiftedChangeLittle : Type 0
ShiftedChangeLittle =
    (m m' : Model) (a b w : ℕ) (e : Edit) → IsValid m → IsEditOf m (Shift a b w) → applied m (Shift a b w) ≡ Ok (m', e)
    → (p q : List Move) (k : ℕ) → k ≤ m.horizon → IsBestAt m p k → IsBestAt m' q k
    → (out_by m p k ≤ out_by m' q k + w) × (out_by m' q k ≤ out_by m p k + w)
