-- The net of a model, and the plan of a net.
use Rattle.std.specs.Prelude.{◌≡◌, ℕ, if◌then◌else◌, ◌==◌, nat_lt, max, List, [], ◌∷◌, length, map}
use Rattle.evac_law.specs.declared.model.Model.{Model}
use Rattle.evac_law.specs.declared.plan.Move.{Move}
use Rattle.evac_law.specs.Building.{arrival, rate, capacity, entry}
use Rattle.evac_law.specs.Moves.{moves_of}
use Rattle.evac_law.specs.Names.{is_exit}
use Rattle.evac_law.specs.Stands.{Stand}
use Rattle.residual_net.specs.declared.place.Place.{Place}
use Rattle.residual_net.specs.declared.place.Place.TheVariants.{Arc, Hold, Supply}
use Rattle.residual_net.specs.Site.{Site, IsPlace, arc_count, arrival_at}
use Rattle.residual_net.specs.Network.{Network, flow_at, limit_at}

-- the network of a model
abbrev pub site_of : Model → Site
site_of m = record {
  shape = record { nodes = length m.nodes; ends = map (λ a. record { from = a.from; to = a.to }) m.arcs; horizon = m.horizon };
  exits = map (λ n. is_exit n.name.kind) m.nodes;
  travels = map (λ a. a.travel) m.arcs;
}

-- the limit that a model gives a place: rate, capacity or entry, and 0 for a move that would arrive past the horizon and a hold at it
abbrev pub model_limit : Model → Place → ℕ
model_limit m (Arc a t) = if nat_lt m.horizon (arrival m a t) then 0 else rate m a t
model_limit m (Hold n t) = if t == m.horizon then 0 else capacity m n
model_limit m (Supply n t) = entry m n t

-- the net has the network and the limits of the model
pub record IsNetOf (m : Model) (w : Network) : Type 0 where
  pub site : w.site ≡ site_of m
  pub limits : (p : Place) → IsPlace w.site p → limit_at w p ≡ model_limit m p

-- the plan of a net: its moves that aren't 0
abbrev pub plan_of : Network → List Move
plan_of w = moves_of (arc_count w.site) w.site.shape.horizon (λ a t. flow_at w (Arc a t))

-- the last moment at which a move arrives, or 0
unfoldable pub last_move : Site → List Move → ℕ
last_move s [] = 0
last_move s (v ∷ p) = max (arrival_at s v.arc v.moment) (last_move s p)

-- a net as a standing plan: its plan, the flows of its holds, and the last arrival of its moves
abbrev pub stand_of : Network → Stand
stand_of w = record {
  nodes = w.site.shape.nodes;
  arcs = arc_count w.site;
  horizon = w.site.shape.horizon;
  plan = plan_of w;
  contents = λ n t. flow_at w (Hold n t);
  last = last_move w.site (plan_of w);
}
