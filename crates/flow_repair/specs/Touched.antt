-- The places whose limits an edit may change.
use Rattle.std.specs.Prelude.{Bool, ◌&&◌, ◌||◌, ◌==◌}
use Rattle.evac_law.specs.declared.edit.Edit.{Edit}
use Rattle.evac_law.specs.declared.edit.Edit.TheVariants.{Shut, Reopen, ShutExit, ReopenExit, Rate, Room, Shift, Enter, Leave, Window, Unwindow}
use Rattle.residual_net.specs.declared.place.Place.{Place}
use Rattle.residual_net.specs.declared.start.Kind.TheVariants as kinds
use Rattle.residual_net.specs.Site.{Site}
use Rattle.residual_net.specs.Start.{is_kind, row_of}
use Rattle.time_expansion.specs.Expansion.{to_at}

-- the arc's places, those of the arcs into an exit, the node's contents, or its entries
abbrev pub touches : Site → Edit → Place → Bool
touches s (Shut a) p = is_kind kinds.Arc p && row_of p == a
touches s (Reopen a) p = is_kind kinds.Arc p && row_of p == a
touches s (Rate a r) p = is_kind kinds.Arc p && row_of p == a
touches s (Window a f u) p = is_kind kinds.Arc p && row_of p == a
touches s (Unwindow a f u) p = is_kind kinds.Arc p && row_of p == a
touches s (ShutExit n) p = is_kind kinds.Arc p && to_at s.shape (row_of p) == n
touches s (ReopenExit n) p = is_kind kinds.Arc p && to_at s.shape (row_of p) == n
touches s (Room n c) p = is_kind kinds.Hold p && row_of p == n
touches s (Enter n x) p = is_kind kinds.Supply p && row_of p == n
touches s (Leave n x) p = is_kind kinds.Supply p && row_of p == n
touches s (Shift a b x) p = (is_kind kinds.Supply p && row_of p == b) || (is_kind kinds.Supply p && row_of p == a)
