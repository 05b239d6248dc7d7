-- A model in which only those come whom a net sends.
use Rattle.std.specs.Prelude.{ℕ, suc, List, [], ◌∷◌, length}
use Rattle.evac_law.specs.Entrants.{table_entrants}
use Rattle.evac_law.specs.declared.model.Model.{Model}
use Rattle.evac_law.specs.declared.model.NodeRow.{NodeRow}
use Rattle.residual_net.specs.declared.place.Place.TheVariants.{Supply}
use Rattle.residual_net.specs.Network.{Network, flow_at}

-- the nodes with other starts
abbrev pub restart : (ℕ → ℕ) → ℕ → List NodeRow → List NodeRow
restart f i [] = []
restart f i (r ∷ rs) = record r { start = f i } ∷ restart f (suc i) rs

-- the model in which those start, and come later, whom the net sends
abbrev pub sent_model : Model → Network → Model
sent_model m w = record m {
  nodes = restart (λ n. flow_at w (Supply n 0)) 0 m.nodes;
  entrants = table_entrants (length m.nodes) m.horizon (λ n t. flow_at w (Supply n t));
}
