-- Models that are small enough to be summed up plainly.
use Rattle.std.specs.Prelude.{◌<◌, ◌^◌, length}
use Rattle.std.specs.List.{sum_by}
use Rattle.evac_law.specs.declared.model.Model.{Model}

-- places, moments and the people of the entrants fit their types
pub record IsSmall (m : Model) : Type 0 where
  pub nodes : length m.nodes < 2 ^ 16
  pub arcs : length m.arcs < 2 ^ 16
  pub horizon : m.horizon < 2 ^ 15
  pub entrants : sum_by (λ e. e.people) m.entrants < 2 ^ 32
