-- What a session keeps inside: the inverse edits, the latest one first, lead back to the models before.
use Rattle.std.specs.Prelude.{◌≡◌, ℕ, List, [], ◌∷◌, Ok}
use Rattle.evac_law.specs.declared.edit.Edit.{Edit}
use Rattle.evac_law.specs.declared.model.Model.{Model}
use Rattle.evac_law.specs.Edits.{IsEditOf, applied, edited, inverse_of}
use Rattle.evac_law.specs.Certificates.{IsClearable}
use Rattle.evac_law.specs.LabelTable.{LabelTable}
use Rattle.residual_net.specs.Network.{Network}
use Rattle.residual_net.specs.Labelled.{IsLabelsOf}
use Rattle.residual_net.specs.OfModel.{plan_of}
use Rattle.edit_session.specs.Mended.{IsScratchOf, IsStanding, last_arrival_of}
use Rattle.edit_session.specs.declared.scratch.Scratch.{Scratch}
use Rattle.edit_session.specs.declared.work.Work.{Work}
use Rattle.edit_session.specs.Sessions.{SessionState, SessionView, kept_limit}

-- the models that inverse edits lead back to, one after another
abbrev pub former_of : Model → List Edit → List Model
former_of m [] = []
former_of m (e ∷ es) = edited m e ∷ former_of (edited m e) es

-- each inverse edit is accepted by the model that it is kept for, and leads to a model that can be cleared
abbrev pub LeadBack : Model → List Edit → Type 0
LeadBack m [] = Unit {0}
LeadBack m (e ∷ es) =
    IsEditOf m e × (applied m e ≡ Ok (edited m e, inverse_of m e)) × IsClearable (edited m e) × LeadBack (edited m e) es

-- where a session stands, by what it keeps: the ring has the latest inverse edit first
abbrev pub state_of : Model → Network → LabelTable → List Edit → Work → SessionState
state_of m w l ring work = record {
  model = m;
  plan = plan_of w;
  labels = l;
  last = last_arrival_of w;
  work = work;
  former = former_of m ring;
}

-- a session, by what it keeps and the labels of its refused cut
abbrev pub view_of : Model → Network → LabelTable → LabelTable → List Edit → Work → SessionView
view_of m w l refused ring work = record { state = state_of m w l ring work; refused = refused }

-- what is true of every session: its net stands for its plan, its edits lead back, and what it works with has room
pub record IsSession (m : Model) (w : Network) (l refused : LabelTable) (ring : List Edit) (ring_room : ℕ) (x : Scratch) : Type 0 where
  pub standing : IsStanding m w l
  pub back : LeadBack m ring
  pub refused_labels : IsLabelsOf w.site refused
  pub room : ring_room ≡ kept_limit
  pub scratch : IsScratchOf w.site x
