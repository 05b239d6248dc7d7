-- When a node, and a floor, is empty for good.
use Rattle.std.specs.Prelude.{◌≡◌, ℕ, zero, suc, Bool, nat_lt, max, if◌then◌else◌, List, [], ◌∷◌, map, slice_index_or, Option, Some, None}
use Rattle.evac_law.specs.declared.model.Model.{Model}
use Rattle.evac_law.specs.declared.plan.Move.{Move}
use Rattle.evac_law.specs.Building.{is_exit_at}
use Rattle.evac_law.specs.Plans.{inside, person_periods}
use Rattle.evac_law.specs.Sums.{places}
use Rattle.clearing_report.specs.Walks.{IsUncongested}
use Rattle.floor_index.specs.Floors.{nodes_on}

-- whether somebody is in a node at a moment, or leaves it just then
abbrev pub is_occupied : Model → List Move → ℕ → ℕ → Bool
is_occupied m p n t = nat_lt 0 (inside m p n t)

-- the last moment up to t that passes a test
unfoldable pub last_that : (ℕ → Bool) → ℕ → Option ℕ
last_that test zero = if test 0 then Some 0 else None
last_that test (suc t) = if test (suc t) then Some (suc t) else last_that test t

-- the last moment at which somebody is in a node
abbrev pub last_occupied : Model → List Move → ℕ → Option ℕ
last_occupied m p n = last_that (is_occupied m p n) m.horizon

-- the later of two moments, where there are any
abbrev pub later : Option ℕ → Option ℕ → Option ℕ
later None t = t
later (Some s) None = Some s
later (Some s) (Some t) = Some (max s t)

-- the last moment at which somebody is in a node; an exit has none
abbrev pub last_inside : Model → List Move → ℕ → Option ℕ
last_inside m p n = if is_exit_at m n then None else last_occupied m p n

-- the latest moment of some nodes
unfoldable pub latest : (ℕ → Option ℕ) → List ℕ → Option ℕ
latest last [] = None
latest last (n ∷ nodes) = later (last n) (latest last nodes)

-- the last moment at which somebody is in a node of a floor, exits passed over
abbrev pub floor_occupied : Model → List Move → ℕ → Option ℕ
floor_occupied m p floor = latest (last_inside m p) (nodes_on m floor)

-- a report on a plan: the last moment of each node, the time of those who would meet nobody, and the person-periods
pub record ClearingView : Type 0 where
  pub moments : List (Option ℕ)
  pub time : ℕ
  pub periods : ℕ

abbrev pub clearing_moment : ClearingView → ℕ → Option ℕ
clearing_moment v n = slice_index_or v.moments n None

-- the report is on this plan of this model
pub record IsReport (m : Model) (p : List Move) (v : ClearingView) : Type 0 where
  pub moments_are : v.moments ≡ map (last_inside m p) (places m.nodes)
  pub time_is : IsUncongested m (Some v.time)
  pub periods_are : v.periods ≡ person_periods m p
