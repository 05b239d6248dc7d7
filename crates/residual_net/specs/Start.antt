-- How a net of a model begins.
use Rattle.std.specs.Prelude.{◌≡◌, ℕ, zero, suc, ◌+◌, ◌<◌, ◌≤◌, Bool, true, false, if◌then◌else◌, List, [], ◌++◌, length, map}
use Rattle.evac_law.specs.Sums.{below}
use Rattle.evac_law.specs.declared.model.Model.{Model}
use Rattle.residual_net.specs.declared.place.Place.{Place}
use Rattle.residual_net.specs.declared.place.Place.TheVariants as places
use Rattle.residual_net.specs.declared.place.Cell.{Cell}
use Rattle.residual_net.specs.declared.start.Kind.{Kind}
use Rattle.residual_net.specs.declared.start.Opening.{Opening}
use Rattle.residual_net.specs.declared.start.Kind.TheVariants as kinds
use Rattle.residual_net.specs.Site.{IsPlace}
use Rattle.residual_net.specs.Network.{Network, IsGrid, flow_at, saved_of}
use Rattle.residual_net.specs.OfModel.{IsNetOf, model_limit}

-- the place of a kind with a number at a moment
abbrev pub place_of : Kind → ℕ → ℕ → Place
place_of kinds.Arc n t = places.Arc n t
place_of kinds.Hold n t = places.Hold n t
place_of kinds.Supply n t = places.Supply n t

-- whether a place is of a kind
abbrev pub is_kind : Kind → Place → Bool
is_kind kinds.Arc (places.Arc n t) = true
is_kind kinds.Hold (places.Hold n t) = true
is_kind kinds.Supply (places.Supply n t) = true
is_kind _ _ = false

-- the number of a place's arc or node
abbrev pub row_of : Place → ℕ
row_of (places.Arc n t) = n
row_of (places.Hold n t) = n
row_of (places.Supply n t) = n

-- the cells with no flow
abbrev pub emptied : List Cell → List Cell
emptied cells = map (λ c. record { flow = 0; limit = c.limit }) cells

-- the cells that were saved, or where none were yet the limits with no flow
abbrev pub saved_cells : Bool → List Cell → List Cell → List Cell
saved_cells is_saved cells saved = if is_saved then saved else emptied cells

-- the cell of a place of a model, with no flow
abbrev pub cell_at : Model → Kind → ℕ → ℕ → Cell
cell_at m k n t = record { flow = 0; limit = model_limit m (place_of k n t) }

-- the limit of the places at the first moments, so many of them, and none later
pub record IsOpening (m : Model) (k : Kind) (n : ℕ) (o : Opening) : Type 0 where
  pub moments : o.moments ≤ m.horizon + 1
  pub first : (t : ℕ) → t < o.moments → model_limit m (place_of k n t) ≡ o.limit
  pub later : (t : ℕ) → o.moments ≤ t → t ≤ m.horizon → model_limit m (place_of k n t) ≡ 0

-- the cells of the places of a kind with a number
abbrev pub row_cells : Model → Kind → ℕ → List Cell
row_cells m k n = map (cell_at m k n) (below (m.horizon + 1))

-- the cells of the places of a kind with the numbers below one
abbrev pub rows_cells : Model → Kind → ℕ → List Cell
rows_cells m k zero = []
rows_cells m k (suc n) = rows_cells m k n ++ row_cells m k n

-- the cells of all places: those of the arcs, the holds and the supplies
abbrev pub start_cells : Model → List Cell
start_cells m = (rows_cells m kinds.Arc (length m.arcs) ++ rows_cells m kinds.Hold (length m.nodes)) ++ rows_cells m kinds.Supply (length m.nodes)

-- no flow, the limits of a model, and saved as it is
pub record StartsAs (m : Model) (w : Network) : Type 0 where
  pub grid : IsGrid w
  pub of : IsNetOf m w
  pub flows : (p : Place) → IsPlace w.site p → flow_at w p ≡ 0
  pub saved : saved_of w ≡ w
