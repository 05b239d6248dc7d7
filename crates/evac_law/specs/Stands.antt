-- A standing plan, and when it fits a model.
use Rattle.std.specs.Prelude.{◌≡◌, ℕ, ◌<◌, ◌≤◌, ◌⊎◌, List, length, IsTrue, IsFalse, pos}
use Rattle.std.specs.List.{All, AllPairs}
use Rattle.evac_law.specs.declared.model.Model.{Model}
use Rattle.evac_law.specs.declared.plan.Move.{Move}
use Rattle.evac_law.specs.Building.{IsValid, is_exit_at}
use Rattle.evac_law.specs.Plans.{TakesAllOut, held, last_arrival}

-- a plan as callers see it: its sizes, its moves, the people in each node at each moment, and its last moment
pub record Stand : Type 0 where
  pub nodes : ℕ
  pub arcs : ℕ
  pub horizon : ℕ
  pub plan : List Move
  pub contents : ℕ → ℕ → ℕ
  pub last : ℕ

-- one move stands before another: at an earlier moment, or at the same moment with an arc of a smaller number
abbrev pub Before : Move → Move → Type 0
Before v w = (v.moment < w.moment) ⊎ ((v.moment ≡ w.moment) × (v.arc < w.arc))

-- moves by moment and then by arc, at most one for each, in range and none of nobody
pub record IsOrdered (arcs horizon : ℕ) (p : List Move) : Type 0 where
  pub sorted : AllPairs Before p
  pub in_range : All (λ v. (v.arc < arcs) × (v.moment ≤ horizon)) p
  pub somebody : All (λ v. 0 < v.people) p

-- the three sizes are the model's, the contents are what the plan leaves in each node, and the last moment is its last arrival
pub record Fits (m : Model) (s : Stand) : Type 0 where
  pub nodes_same : s.nodes ≡ length m.nodes
  pub arcs_same : s.arcs ≡ length m.arcs
  pub horizon_same : s.horizon ≡ m.horizon
  pub ordered : IsOrdered s.arcs s.horizon s.plan
  pub inside : (n t : ℕ) → n < s.nodes → t ≤ s.horizon → IsFalse (is_exit_at m n) → pos (s.contents n t) ≡ held m s.plan n t
  pub exits_hold_none : (n t : ℕ) → n < s.nodes → t ≤ s.horizon → IsTrue (is_exit_at m n) → s.contents n t ≡ 0
  pub last_same : s.last ≡ last_arrival m s.plan

-- what stands is a plan of a valid model that takes everybody out
pub record Stands (m : Model) (s : Stand) : Type 0 where
  pub valid : IsValid m
  pub fits : Fits m s
  pub plan : TakesAllOut m s.plan
