-- Some of a building's people, with the others not there.
use Rattle.std.specs.Prelude.{◌≡◌, ℕ, ◌≤◌, List, length}
use Rattle.evac_law.specs.declared.model.Model.{Model}
use Rattle.evac_law.specs.declared.plan.Move.{Move}
use Rattle.evac_law.specs.Building.{IsValid, arc_at, capacity, entry, head, is_exit_at, people, rate, tail}
use Rattle.evac_law.specs.Certificates.{IsClearable, IsShortfall}
use Rattle.evac_law.specs.Cuts.{Cut}
use Rattle.evac_law.specs.Plans.{IsFeasible, out_by}

-- a building with some of the people of another one: nowhere do more come in at any moment, and all else that plans ask for is the same
pub record IsPart (m s : Model) : Type 0 where
  pub nodes : length s.nodes ≡ length m.nodes
  pub arcs : length s.arcs ≡ length m.arcs
  pub horizon : s.horizon ≡ m.horizon
  pub exits : (n : ℕ) → is_exit_at s n ≡ is_exit_at m n
  pub capacities : (n : ℕ) → capacity s n ≡ capacity m n
  pub heads : (a : ℕ) → head s a ≡ head m a
  pub tails : (a : ℕ) → tail s a ≡ tail m a
  pub travels : (a : ℕ) → (arc_at s a).travel ≡ (arc_at m a).travel
  pub rates : (a t : ℕ) → rate s a t ≡ rate m a t
  pub entries : (n t : ℕ) → entry s n t ≤ entry m n t

-- a plan takes out so many of the people, when the others aren't there
pub record TakesPartOut (m : Model) (p : List Move) (v : ℕ) : Type 0 where
  pub some : Model
  pub valid : IsValid some
  pub part : IsPart m some
  pub feasible : IsFeasible some p some.horizon
  pub all_out : out_by some p some.horizon ≡ people some
  pub count : people some ≡ v

-- so many of the people can get out by the horizon, when the others aren't there
abbrev pub CanGetOut : Model → ℕ → Type 0
CanGetOut m v = (p : List Move) × TakesPartOut m p v

-- so many can, and no more
pub record IsMost (m : Model) (v : ℕ) : Type 0 where
  pub reached : CanGetOut m v
  pub bound : (u : ℕ) → CanGetOut m u → u ≤ v

-- a model can't be cleared: a cut is worth `most` at the horizon, fewer than the people, and so many can get out when the others aren't there
pub record IsBarredBy (m : Model) (x : Cut) (most : ℕ) : Type 0 where
  pub shortfall : IsShortfall m x most
  pub not_clearable : ¬ IsClearable m
  pub greatest : IsMost m most
