-- A flow with its limits.
use Rattle.std.specs.Prelude.{◌≡◌, ℕ, ◌+◌, ◌-◌, ◌<◌, ◌≤◌, false, if◌then◌else◌, List, length, slice_index_or, slice_set, Option, Some, None, IsTrue}
use Rattle.residual_net.specs.declared.place.Place.{Place}
use Rattle.residual_net.specs.declared.place.Place.TheVariants.{Supply}
use Rattle.residual_net.specs.declared.place.PathStep.{PathStep}
use Rattle.residual_net.specs.declared.place.Cell.{Cell}
use Rattle.residual_net.specs.declared.place.Transit.{Transit}
use Rattle.residual_net.specs.Limits.{supply_limit}
use Rattle.residual_net.specs.Site.{Site, IsSite, IsPlace, End_test, at, is_door, is_source, door_by, head_of, tail_of, start_of, stop_of, is_barred, sum_places, cell_of, all_cells}
use Rattle.residual_net.specs.declared.end.End.{End}
use Rattle.residual_net.specs.declared.end.End.TheVariants.{Pair, Door}

-- a net as contracts see it: its network, the flow and the limit at its places, and what was saved of these; only `flow_at` and `limit_at` look into the cells
pub record Network : Type 0 where
  pub site : Site
  pub cells : List Cell
  pub saved : List Cell

-- what stands past the last cell
abbrev pub no_cell : Cell
no_cell = record { flow = 0; limit = 0 }

-- the flow over a place
unfoldable pub flow_at : Network → Place → ℕ
flow_at w p = (slice_index_or w.cells (cell_of w.site p) no_cell).flow

-- the limit of a place
unfoldable pub limit_at : Network → Place → ℕ
limit_at w p = (slice_index_or w.cells (cell_of w.site p) no_cell).limit

-- the net with its flow and limits saved
abbrev pub with_saved : Network → Network
with_saved w = record w { saved = w.cells }

-- the net that was saved
abbrev pub saved_of : Network → Network
saved_of w = record w { cells = w.saved }

-- the people who may go over a step: forwards what the limit leaves, backwards the flow
abbrev pub residual_room : Network → PathStep → ℕ
residual_room w x = if x.back then flow_at w x.place else limit_at w x.place - flow_at w x.place

-- where a step starts and stops and the people who may go over it, or none where its place isn't the network's
abbrev pub IsTransit : Network → PathStep → Option Transit → Type 0
IsTransit w x None = IsPlace w.site x.place → ⊥
IsTransit w x (Some p) = IsPlace w.site x.place × (p ≡ record { start = start_of w.site x; stop = stop_of w.site x; room = residual_room w x })

-- the step forwards over a place
abbrev pub step_over : Place → PathStep
step_over p = record { place = p; back = false }

-- where the step over a place that leads to an end starts and the people who may go over it, or none where the place isn't the network's, leads elsewhere or has no room
abbrev pub IsLeading : Network → Place → End → Option Transit → Type 0
IsLeading w p e None = IsPlace w.site p → head_of w.site p ≡ e → residual_room w (step_over p) ≡ 0
IsLeading w p e (Some r) = IsTransit w (step_over p) (Some r) × (r.stop ≡ e) × (0 < r.room)

-- the people of a node and moment who aren't sent yet
abbrev pub unsent_at : Network → ℕ → ℕ → ℕ
unsent_at w n t = limit_at w (Supply n t) - flow_at w (Supply n t)

-- the flow above the limit of a place
abbrev pub excess_at : Network → Place → ℕ
excess_at w p = flow_at w p - limit_at w p

-- the flow over the places that lead into ends that pass a test
unfoldable pub flow_into : Network → End_test → ℕ
flow_into w e = sum_places w.site (λ p. if e (head_of w.site p) then flow_at w p else 0)

-- the flow over the places that lead out of ends that pass a test
unfoldable pub flow_out : Network → End_test → ℕ
flow_out w e = sum_places w.site (λ p. if e (tail_of w.site p) then flow_at w p else 0)

-- the people who arrive by moment k
abbrev pub arrived_by : Network → ℕ → ℕ
arrived_by w k = flow_into w (door_by k)

-- whoever comes to a node at a moment leaves it, or waits in it; and as many arrive as were sent
pub record IsConserved (w : Network) : Type 0 where
  pub pairs : (n t : ℕ) → flow_into w (at (Pair n t)) ≡ flow_out w (at (Pair n t))
  pub sent : flow_into w is_door ≡ flow_out w is_source

-- no flow is above its limit: the net isn't Over
abbrev pub IsWithinLimits : Network → Type 0
IsWithinLimits w = (p : Place) → IsPlace w.site p → flow_at w p ≤ limit_at w p

-- everybody is sent
abbrev pub IsAllSent : Network → Type 0
IsAllSent w = (n t : ℕ) → IsPlace w.site (Supply n t) → unsent_at w n t ≡ 0

-- the limits of all supplies together
unfoldable pub supply_limits : Network → ℕ
supply_limits w = sum_places w.site (λ p. if is_source (tail_of w.site p) then limit_at w p else 0)

-- what holds of every net, Over or not
pub record IsNet (w : Network) : Type 0 where
  pub site : IsSite w.site
  pub full : length w.cells ≡ all_cells w.site
  pub conserved : IsConserved w
  pub barred : (p : Place) → IsPlace w.site p → IsTrue (is_barred w.site p) → (flow_at w p ≡ 0) × (limit_at w p ≡ 0)
  pub supplies : supply_limits w ≤ supply_limit
  pub few_sent : flow_out w is_source ≤ supply_limit

-- what holds of the cells alone, whatever the flow
pub record IsGrid (w : Network) : Type 0 where
  pub site : IsSite w.site
  pub full : length w.cells ≡ all_cells w.site
  pub saved_full : length w.saved ≡ all_cells w.site

-- the net with another cell at a place
abbrev pub with_cell : Network → Place → Cell → Network
with_cell w p c = record w { cells = slice_set w.cells (cell_of w.site p) c }

-- the arrivals that are kept beside the cells: those at each moment
pub record IsStored (w : Network) (arrivals : List ℕ) : Type 0 where
  pub net : IsNet w
  pub moments : length arrivals ≡ w.site.shape.horizon + 1
  pub totals : (j : ℕ) → j ≤ w.site.shape.horizon → slice_index_or arrivals j 0 ≡ flow_into w (at (Door j))

-- what a net keeps: its arrivals and the limits of its supplies together, and those of the net that was saved
pub record IsKept (w : Network) (arrivals saved_arrivals : List ℕ) (supplies saved_supplies : ℕ) : Type 0 where
  pub stored : IsStored w arrivals
  pub saved : IsStored (saved_of w) saved_arrivals
  pub counted : supplies ≡ supply_limits w
  pub saved_counted : saved_supplies ≡ supply_limits (saved_of w)
