-- For which models a short block that is written is theirs.
use Rattle.std.specs.Prelude.{◌≡◌, map}
use Rattle.evac_law.specs.declared.model.Model.{Model}

-- two models have the same horizon and the same names of nodes
pub record HasSameNames (m other : Model) : Type 0 where
  pub names : map (λ n. n.name) other.nodes ≡ map (λ n. n.name) m.nodes
  pub horizon : other.horizon ≡ m.horizon
