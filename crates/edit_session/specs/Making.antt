-- What making an edit on a model and its net comes to.
use Rattle.std.specs.Prelude.{◌≡◌, ℕ, Ok, Err, Result}
use Rattle.evac_law.specs.declared.edit.Edit.{Edit}
use Rattle.evac_law.specs.declared.model.Model.{Model}
use Rattle.evac_law.specs.Building.{IsValid, people}
use Rattle.evac_law.specs.Edits.{applied}
use Rattle.evac_law.specs.LabelTable.{LabelTable}
use Rattle.residual_net.specs.Network.{Network}
use Rattle.residual_net.specs.OfModel.{plan_of}
use Rattle.edit_session.specs.declared.faults.EditRefusal.{EditRefusal}
use Rattle.edit_session.specs.declared.faults.EditRefusal.TheVariants.{Fault, NotCleared}
use Rattle.edit_session.specs.declared.make_edit.Made.{Made}
use Rattle.edit_session.specs.Mended.{IsCarried, IsRefused}
use Rattle.edit_session.specs.Thrift.{IsCounted, IsSpent}

-- an edit of model b is made and taken back, since a cut shows that its model can't be cleared; so many steps were spent on it
pub record IsTakenBack (b m : Model) (e : Edit) (w v : Network) (cut : LabelTable) (all most steps : ℕ) : Type 0 where
  pub edited : Model
  pub inverse : Edit
  pub accepted : applied b e ≡ Ok (edited, inverse)
  pub valid : IsValid edited
  pub back : m ≡ b
  pub refused : IsRefused edited w v cut most
  pub count : all ≡ people edited
  pub spent : IsSpent b (plan_of w) edited most steps

-- an edit takes model b with net w, whose labels are `old`, to model m with net v, whose labels are l, or all stays as before but the refused cut
abbrev pub IsMade : Model → Edit → Network → LabelTable → LabelTable → Result Made EditRefusal → Model → Network → LabelTable → LabelTable → ℕ → Type 0
IsMade b e w old refused (Ok made) m v cut l steps =
    (applied b e ≡ Ok (m, made.inverse)) × IsCarried m w v old l made.work × (cut ≡ refused) × IsCounted made.work steps
IsMade b e w old refused (Err (Fault fault)) m v cut l steps =
    (applied b e ≡ Err fault) × (m ≡ b) × (v ≡ w) × (cut ≡ refused) × (steps ≡ 0)
IsMade b e w old refused (Err (NotCleared all most)) m v cut l steps = IsTakenBack b m e w v cut all most steps
