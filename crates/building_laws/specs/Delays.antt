-- What it costs at most that arcs can't be entered for some moments.
use Rattle.std.specs.Prelude.{◌≡◌, ◌≢◌, ℕ, ◌+◌, ◌-◌, ◌<◌, ◌≤◌, if◌then◌else◌, ◌==◌, List, length, Ok, IsFalse}
use Rattle.std.specs.List.{sum_by}
use Rattle.evac_law.specs.declared.edit.Edit.{Edit}
use Rattle.evac_law.specs.declared.edit.Edit.TheVariants.{Window}
use Rattle.evac_law.specs.declared.model.Model.{Model}
use Rattle.evac_law.specs.declared.plan.Move.{Move}
use Rattle.evac_law.specs.Building.{IsValid, arc_at, capacity, head, is_exit_at, people, rate, tail}
use Rattle.evac_law.specs.Certificates.{IsClearable}
use Rattle.evac_law.specs.Edits.{applied}
use Rattle.evac_law.specs.Plans.{IsFeasible, out_by}
use Rattle.evac_law.specs.Sums.{moments_to}
use Rattle.building_laws.specs.Duality.{IsBestAt}
use Rattle.building_laws.specs.Rooms.{HasRoomForEntries, HasSteadyRates}

-- a second model is the same but for the rates of its arcs
pub record DifferInRates (m m' : Model) : Type 0 where
  pub horizon : m.horizon ≡ m'.horizon
  pub nodes : m.nodes ≡ m'.nodes
  pub entrants : m.entrants ≡ m'.entrants
  pub arcs : length m.arcs ≡ length m'.arcs
  pub tails : (a : ℕ) → tail m a ≡ tail m' a
  pub heads : (a : ℕ) → head m a ≡ head m' a
  pub travels : (a : ℕ) → (arc_at m a).travel ≡ (arc_at m' a).travel

-- only the rate of one arc is another, at no more than w moments up to the horizon
pub record IsDisturbed (m m' : Model) (a w : ℕ) : Type 0 where
  pub alike : DifferInRates m m'
  pub others : (b t : ℕ) → b < length m.arcs → b ≢ a → t ≤ m.horizon → rate m b t ≡ rate m' b t
  pub seldom : sum_by (λ t. if rate m' a t == rate m a t then 0 else 1) (moments_to m.horizon) ≤ w

-- rates are others only from one moment on and before another
pub record IsClosedBetween (m m' : Model) (from until : ℕ) : Type 0 where
  pub alike : DifferInRates m m'
  pub before : (a t : ℕ) → a < length m.arcs → t ≤ m.horizon → t < from → rate m a t ≡ rate m' a t
  pub after : (a t : ℕ) → a < length m.arcs → t ≤ m.horizon → until ≤ t → rate m a t ≡ rate m' a t

-- each node but the exits has room for everybody
abbrev pub HasRoomForAll : Model → Type 0
HasRoomForAll m = (n : ℕ) → n < length m.nodes → IsFalse (is_exit_at m n) → people m ≤ capacity m n

-- w moments later a best plan of the second model has as many out as any plan of the first; and where a plan of the first has everybody out
-- w moments before the horizon, the second can be cleared
pub record DelaysBy (m m' : Model) (w : ℕ) : Type 0 where
  pub later : (p q : List Move) (k : ℕ) → k + w ≤ m.horizon → IsFeasible m p k → IsBestAt m' q (k + w) → out_by m p k ≤ out_by m' q (k + w)
  pub clears : (p : List Move) (k : ℕ) → k + w ≤ m.horizon → IsFeasible m p k → out_by m p k ≡ people m → IsClearable m'

-- where rates are steady and there is room, one arc that is disturbed at no more than w moments delays nobody by more than w
abbrev pub OneArcDelaysLittle : Type 0
OneArcDelaysLittle =
    (m m' : Model) (a w : ℕ) → IsValid m → IsValid m' → IsDisturbed m m' a w → HasSteadyRates m → HasRoomForEntries m → DelaysBy m m' w

-- so one window of an arc delays nobody by more than its length
abbrev pub WindowDelaysByItsLength : Type 0
WindowDelaysByItsLength =
    (m m' : Model) (a from until : ℕ) (e : Edit) → IsValid m → a < length m.arcs → applied m (Window a from until) ≡ Ok (m', e)
    → HasSteadyRates m → HasRoomForEntries m → DelaysBy m m' (until - from)

-- and where each node has room for everybody, so do any arcs that are closed in one common window
abbrev pub CommonWindowDelaysByItsLength : Type 0
CommonWindowDelaysByItsLength =
    (m m' : Model) (from until : ℕ) → IsValid m → IsValid m' → IsClosedBetween m m' from until → HasSteadyRates m → HasRoomForAll m
    → DelaysBy m m' (until - from)
