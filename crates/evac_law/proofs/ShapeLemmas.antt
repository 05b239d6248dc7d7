-- An edit keeps the shape of a model.
use Rattle.std.proofs.Common.{◌≡◌, ℕ, ◌-◌, refl, ◌∙◌, subst, Result, Ok, Err, IfOk, OnOk}
use Rattle.std.proofs.Math.Seq.{map-set_same}
use Rattle.evac_law.specs.declared.edit.Edit.{Edit}
use Rattle.evac_law.specs.declared.edit.Edit.TheVariants.{Shut, Reopen, ShutExit, ReopenExit, Rate, Room, Shift, Enter, Leave, Window, Unwindow}
use Rattle.evac_law.specs.declared.edit.EditFault.{EditFault}
use Rattle.evac_law.specs.declared.model.ArcRow.{ArcRow}
use Rattle.evac_law.specs.declared.model.Model.{Model}
use Rattle.evac_law.specs.declared.model.NodeRow.{NodeRow}
use Rattle.evac_law.specs.Building.{arc_at, no_arc, no_node, node_at, start}
use Rattle.evac_law.specs.Edits.{applied, edited, with_arc, with_node, with_start}
use Rattle.evac_law.specs.Shapes.{HasSameShape, name_of_row, way_of_row}
use Rattle.evac_law.proofs.EditLemmas.{is_edited}

arc_kept : (m : Model) (a : ℕ) (row : ArcRow) → way_of_row row ≡ way_of_row (arc_at m a) → HasSameShape m (with_arc m a row)
arc_kept m a row e = record { names = refl; ways = map-set_same way_of_row m.arcs a row no_arc e; horizon = refl; seconds = refl; entrants = refl }

node_kept : (m : Model) (n : ℕ) (row : NodeRow) → name_of_row row ≡ name_of_row (node_at m n) → HasSameShape m (with_node m n row)
node_kept m n row e = record { names = map-set_same name_of_row m.nodes n row no_node e; ways = refl; horizon = refl; seconds = refl; entrants = refl }

pub same_shape-trans : (m n k : Model) → HasSameShape m n → HasSameShape n k → HasSameShape m k
same_shape-trans m n k h g =
    record {
      names = g.names ∙ h.names;
      ways = g.ways ∙ h.ways;
      horizon = g.horizon ∙ h.horizon;
      seconds = g.seconds ∙ h.seconds;
      entrants = g.entrants ∙ h.entrants;
    }

pub edited_keeps_shape : (m : Model) (e : Edit) → HasSameShape m (edited m e)
edited_keeps_shape m (Shut a) = arc_kept m a _ refl
edited_keeps_shape m (Reopen a) = arc_kept m a _ refl
edited_keeps_shape m (ShutExit n) = node_kept m n _ refl
edited_keeps_shape m (ReopenExit n) = node_kept m n _ refl
edited_keeps_shape m (Rate a r) = arc_kept m a _ refl
edited_keeps_shape m (Room n c) = node_kept m n _ refl
edited_keeps_shape m (Shift a b p) =
    let less : Model = with_start m a (start m a - p) in
    same_shape-trans m less (edited m (Shift a b p)) (node_kept m a _ refl) (node_kept less b _ refl)
edited_keeps_shape m (Enter n p) = node_kept m n _ refl
edited_keeps_shape m (Leave n p) = node_kept m n _ refl
edited_keeps_shape m (Window a p q) = arc_kept m a _ refl
edited_keeps_shape m (Unwindow a p q) = arc_kept m a _ refl

pub applied_keeps_shape : (m m' : Model) (e e' : Edit) → applied m e ≡ Ok (m', e') → HasSameShape m m'
applied_keeps_shape m m' e e' h =
    subst (HasSameShape m) (is_edited m m' e e' h) (edited_keeps_shape m e)

pub shape_kept : (m : Model) (e : Edit) (m' : Model) (r : Result Edit EditFault) → IfOk r (λ e'. applied m e ≡ Ok (m', e'))
    → OnOk r (HasSameShape m m')
shape_kept m e m' (Ok e') h = applied_keeps_shape m m' e e' h
shape_kept m e m' (Err fault) h = tt
