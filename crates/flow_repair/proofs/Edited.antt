-- What an edit leaves of the limits of a model.
use Rattle.std.proofs.Common.{◌≡◌, ℕ, ◌+◌, ◌-◌, Bool, true, false, cond, ◌&&◌, eqb, List, length, refl, ap, sym, ◌∙◌, arith, subst, Ok}
use Rattle.std.proofs.Math.Seq.{map-set_same}
use Rattle.std.proofs.lemmas.List.{get_or-set_other, length-set, length-map}
use Rattle.std.proofs.lemmas.Bool.{eqb-false, or_parts}
use Rattle.evac_law.specs.declared.model.NodeRow.{NodeRow}
use Rattle.evac_law.specs.declared.model.ArcRow.{ArcRow}
use Rattle.evac_law.specs.declared.model.Model.{Model}
use Rattle.evac_law.specs.declared.window.Window.{Window as ClosureWindow}
use Rattle.evac_law.specs.declared.edit.Edit.{Edit}
use Rattle.evac_law.specs.declared.edit.Edit.TheVariants.{Shut, Reopen, ShutExit, ReopenExit, Rate, Room, Shift, Enter, Leave, Window, Unwindow}
use Rattle.evac_law.specs.Building.{IsValid, arc_at, capacity, head, no_node, node_at, rate, start}
use Rattle.evac_law.specs.Windows.{window_of, with_window, without_window}
use Rattle.evac_law.specs.Edits.{IsEditOf, applied, checks, edited, inverse_of, windows_at, with_arc, with_node, with_start}
use Rattle.evac_law.proofs.EditLemmas.{at-set, unless-Ok, valid_edited}
use Rattle.time_expansion.specs.Expansion.{to_at}
use Rattle.residual_net.specs.declared.place.Place.{Place}
use Rattle.residual_net.specs.declared.place.Place.TheVariants as places
use Rattle.residual_net.specs.declared.start.Kind.TheVariants as kinds
use Rattle.residual_net.specs.Site.{Site, IsPlace}
use Rattle.residual_net.specs.OfModel.{model_limit, site_of}
use Rattle.residual_net.specs.Start.{is_kind, row_of}
use Rattle.residual_net.proofs.Begin.{joined}
use Rattle.residual_net.proofs.Held.{to_is}
use Rattle.flow_repair.specs.Touched.{touches}

-- ---- the network stays

abbrev with_parts : ℕ → List Rattle.time_expansion.specs.declared.ends.Ends.Ends → ℕ → List Bool → List ℕ → Site
with_parts n ends horizon exits travels = record { shape = record { nodes = n; ends = ends; horizon = horizon }; exits = exits; travels = travels }

site_arc : (m : Model) (a : ℕ) (row : ArcRow) → joined row ≡ joined (arc_at m a) → row.travel ≡ (arc_at m a).travel → site_of (with_arc m a row) ≡ site_of m
site_arc m a row ends travel = grind (arith, map-set_same, joined)

site_node : (m : Model) (n : ℕ) (row : NodeRow) → row.name ≡ (node_at m n).name → site_of (with_node m n row) ≡ site_of m
site_node m n row name = grind (arith, length-set, map-set_same)

-- an arc with other windows
abbrev windowed : Model → ℕ → List ClosureWindow → ArcRow
windowed m a ws = record (arc_at m a) { windows = record { items = ws } }

pub site_edited : (m : Model) (e : Edit) → site_of (edited m e) ≡ site_of m
site_edited m (Shut a) = site_arc m a (record (arc_at m a) { shut = true }) refl refl
site_edited m (Reopen a) = site_arc m a (record (arc_at m a) { shut = false }) refl refl
site_edited m (ShutExit n) = site_node m n (record (node_at m n) { shut = true }) refl
site_edited m (ReopenExit n) = site_node m n (record (node_at m n) { shut = false }) refl
site_edited m (Rate a r) = site_arc m a (record (arc_at m a) { rate = r }) refl refl
site_edited m (Room n c) = site_node m n (record (node_at m n) { capacity = c }) refl
site_edited m (Shift a b p) =
    let less = with_start m a (start m a - p) in
    site_node less b (record (node_at less b) { start = start m b + p }) refl ∙ site_node m a (record (node_at m a) { start = start m a - p }) refl
site_edited m (Enter n p) = site_node m n (record (node_at m n) { start = start m n + p }) refl
site_edited m (Leave n p) = site_node m n (record (node_at m n) { start = start m n - p }) refl
site_edited m (Window a p q) = site_arc m a (windowed m a (with_window (windows_at m a) (window_of p q))) refl refl
site_edited m (Unwindow a p q) = site_arc m a (windowed m a (without_window (windows_at m a) (window_of p q))) refl refl

-- ---- limits that stay

arc_limit_kept : (m m' : Model) (a t : ℕ) → m'.horizon ≡ m.horizon → arc_at m' a ≡ arc_at m a → (node_at m' (head m a)).shut ≡ (node_at m (head m a)).shut
    → model_limit m' (places.Arc a t) ≡ model_limit m (places.Arc a t)
arc_limit_kept m m' a t h e s = grind arith

hold_limit_kept : (m m' : Model) (n t : ℕ) → m'.horizon ≡ m.horizon → capacity m' n ≡ capacity m n → model_limit m' (places.Hold n t) ≡ model_limit m (places.Hold n t)
hold_limit_kept m m' n t h e = ap (λ z. cond (eqb t z) 0 (capacity m' n)) h ∙ ap (λ z. cond (eqb t m.horizon) 0 z) e

entry_kept : (m m' : Model) (n t : ℕ) → start m' n ≡ start m n → m'.entrants ≡ m.entrants → model_limit m' (places.Supply n t) ≡ model_limit m (places.Supply n t)
entry_kept m m' n t e f = grind arith

-- another arc at a place
after_arc : (m : Model) (a : ℕ) (row : ArcRow) (p : Place) → (is_kind kinds.Arc p && eqb (row_of p) a) ≡ false
    → model_limit (with_arc m a row) p ≡ model_limit m p
after_arc m a row (places.Arc b t) e = grind (arith, arc_limit_kept, get_or-set_other, eqb-false)
after_arc m a row _ e = refl

-- another mark at an exit
after_exit : (m : Model) (n : ℕ) (b : Bool) (p : Place) → IsPlace (site_of m) p → (is_kind kinds.Arc p && eqb (to_at (site_of m).shape (row_of p)) n) ≡ false
    → model_limit (with_node m n (record (node_at m n) { shut = b })) p ≡ model_limit m p
after_exit m n b (places.Arc a t) i e = grind (arith, length-map, joined, eqb-false, to_is, arc_limit_kept, get_or-set_other)
after_exit m n b (places.Hold k t) i e =
    let row = record (node_at m n) { shut = b } in
    hold_limit_kept m (with_node m n row) k t refl (at-set (λ (r : NodeRow). r.capacity) m.nodes n row no_node refl k)
after_exit m n b (places.Supply k t) i e =
    let row = record (node_at m n) { shut = b } in
    entry_kept m (with_node m n row) k t (at-set (λ (r : NodeRow). r.start) m.nodes n row no_node refl k) refl

-- another capacity
after_room : (m : Model) (n c : ℕ) (p : Place) → (is_kind kinds.Hold p && eqb (row_of p) n) ≡ false
    → model_limit (with_node m n (record (node_at m n) { capacity = c })) p ≡ model_limit m p
after_room m n c (places.Arc a t) e =
    let row = record (node_at m n) { capacity = c } in
    arc_limit_kept m (with_node m n row) a t refl refl (at-set (λ (r : NodeRow). r.shut) m.nodes n row no_node refl (head m a))
after_room m n c (places.Hold k t) e = grind (arith, hold_limit_kept, get_or-set_other, eqb-false)
after_room m n c (places.Supply k t) e =
    let row = record (node_at m n) { capacity = c } in
    entry_kept m (with_node m n row) k t (at-set (λ (r : NodeRow). r.start) m.nodes n row no_node refl k) refl

-- another start
after_start : (m : Model) (n s : ℕ) (p : Place) → (is_kind kinds.Supply p && eqb (row_of p) n) ≡ false → model_limit (with_start m n s) p ≡ model_limit m p
after_start m n s (places.Arc a t) e =
    let row = record (node_at m n) { start = s } in
    arc_limit_kept m (with_node m n row) a t refl refl (at-set (λ (r : NodeRow). r.shut) m.nodes n row no_node refl (head m a))
after_start m n s (places.Hold k t) e =
    let row = record (node_at m n) { start = s } in
    hold_limit_kept m (with_node m n row) k t refl (at-set (λ (r : NodeRow). r.capacity) m.nodes n row no_node refl k)
after_start m n s (places.Supply k t) e = grind (arith, entry_kept, get_or-set_other, eqb-false)

pub untouched : (m : Model) (e : Edit) (p : Place) → IsPlace (site_of m) p → touches (site_of m) e p ≡ false → model_limit (edited m e) p ≡ model_limit m p
untouched m (Shut a) p i t = after_arc m a (record (arc_at m a) { shut = true }) p t
untouched m (Reopen a) p i t = after_arc m a (record (arc_at m a) { shut = false }) p t
untouched m (ShutExit n) p i t = after_exit m n true p i t
untouched m (ReopenExit n) p i t = after_exit m n false p i t
untouched m (Rate a r) p i t = after_arc m a (record (arc_at m a) { rate = r }) p t
untouched m (Room n c) p i t = after_room m n c p t
untouched m (Shift a b x) p i t =
    let none = or_parts (is_kind kinds.Supply p && eqb (row_of p) b) (is_kind kinds.Supply p && eqb (row_of p) a) t in
    after_start (with_start m a (start m a - x)) b (start m b + x) p none.0 ∙ after_start m a (start m a - x) p none.1
untouched m (Enter n x) p i t = after_start m n (start m n + x) p t
untouched m (Leave n x) p i t = after_start m n (start m n - x) p t
untouched m (Window a f u) p i t = after_arc m a (windowed m a (with_window (windows_at m a) (window_of f u))) p t
untouched m (Unwindow a f u) p i t = after_arc m a (windowed m a (without_window (windows_at m a) (window_of f u))) p t

-- ---- places of the edit

nodes_long : (m : Model) (e : Edit) → length (edited m e).nodes ≡ length m.nodes
nodes_long m e = ap (λ (s : Site). s.shape.nodes) (site_edited m e)

arcs_long : (m : Model) (e : Edit) → length (edited m e).arcs ≡ length m.arcs
arcs_long m e =
    sym (length-map (edited m e).arcs joined) ∙ ap (λ (s : Site). length s.shape.ends) (site_edited m e) ∙ length-map m.arcs joined

pub still_edit : (m : Model) (e : Edit) → IsEditOf m e → IsEditOf (edited m e) e
still_edit m e i = grind (arith, arcs_long m e, nodes_long m e)

-- ---- an edit that is accepted

pub valid_after : {m : Model} (m' : Model) (e e' : Edit) → IsValid m → IsEditOf m e → applied m e ≡ Ok (m', e') → IsValid m'
valid_after {m} m' e e' v i h =
    let done = unless-Ok (checks m e) (edited m e, inverse_of m e) (m', e') h in
    subst IsValid (ap (λ t. t.0) done.1) (valid_edited m e v i done.0)
