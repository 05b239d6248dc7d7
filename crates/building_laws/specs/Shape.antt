-- Buildings with the same nodes and arcs.
use Rattle.std.specs.Prelude.{◌≡◌, ℕ, length}
use Rattle.evac_law.specs.declared.model.Model.{Model}
use Rattle.evac_law.specs.Building.{head, is_exit_at, tail}

-- two models have as many nodes, of which the same are exits, and as many arcs, with the same ends
pub record HaveSameShape (m s : Model) : Type 0 where
  pub places : length m.nodes ≡ length s.nodes
  pub exits : (n : ℕ) → is_exit_at m n ≡ is_exit_at s n
  pub arcs : length m.arcs ≡ length s.arcs
  pub tails : (a : ℕ) → tail m a ≡ tail s a
  pub heads : (a : ℕ) → head m a ≡ head s a
