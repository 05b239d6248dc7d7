-- What a repair of a plan's net starts from, works with and leaves.
use Rattle.std.specs.Prelude.{◌≡◌, ℕ, ◌+◌, ◌-◌, ◌≤◌, Ok}
use Rattle.evac_law.specs.declared.edit.Edit.{Edit}
use Rattle.evac_law.specs.declared.model.Model.{Model}
use Rattle.evac_law.specs.Building.{IsValid}
use Rattle.evac_law.specs.Certificates.{IsTableOf, label_cut}
use Rattle.evac_law.specs.Edits.{IsEditOf, applied}
use Rattle.evac_law.specs.LabelTable.{LabelTable}
use Rattle.evac_law.specs.Parts.{IsBarredBy}
use Rattle.residual_net.specs.Labelled.{IsClosedBelow, IsLabelsOf}
use Rattle.residual_net.specs.Network.{Network, IsAllSent, IsNet, IsWithinLimits, with_saved}
use Rattle.residual_net.specs.OfModel.{IsNetOf, last_move, plan_of}
use Rattle.residual_net.specs.Site.{Site}
use Rattle.terminal_augment.specs.Settled.{IsSearchOf}
use Rattle.lex_flow.specs.Outcomes.{IsCleared}
use Rattle.edit_session.specs.declared.repair.Repaired.{Repaired}
use Rattle.edit_session.specs.declared.repair.Repaired.TheVariants.{Cleared, Short}
use Rattle.edit_session.specs.declared.scratch.Scratch.{Scratch}
use Rattle.edit_session.specs.declared.work.Work.{Work}
use Rattle.edit_session.specs.Repairs.{IsRepairOf}
use Rattle.edit_session.specs.Thrift.{IsCounted, IsSpent, IsThrifty}

-- the last moment at which somebody arrives
abbrev pub last_arrival_of : Network → ℕ
last_arrival_of w = last_move w.site (plan_of w)

-- the net has the model's limits and a plan that takes everybody out, and the labels prove it best at every period
pub record IsStanding (m : Model) (w : Network) (l : LabelTable) : Type 0 where
  pub valid : IsValid m
  pub net : IsNet w
  pub of : IsNetOf m w
  pub within : IsWithinLimits w
  pub sent : IsAllSent w
  pub cleared : IsCleared m w l (last_arrival_of w)
  pub labels : IsLabelsOf w.site l
  pub closed : IsClosedBelow w l (last_arrival_of w + 1)

-- the net stands for a plan of the model from which an edit made this one
pub record IsRepairable (m : Model) (e : Edit) (w : Network) (l : LabelTable) : Type 0 where
  pub before : Model
  pub inverse : Edit
  pub in_range : IsEditOf before e
  pub edited : applied before e ≡ Ok (m, inverse)
  pub standing : IsStanding before w l

-- the scratch is for the nodes and moments of a network, and its path has room for every way through it
pub record IsScratchOf (s : Site) (x : Scratch) : Type 0 where
  pub labels : IsLabelsOf s x.labels
  pub search : IsSearchOf s x.search
  pub room : s.shape.horizon + 2 ≤ x.path.room

-- the net stands for a plan of the edited model, and came to it by a repair of the plan and the labels before, with thrifty work; what was saved is the
-- net before
pub record IsCarried (m : Model) (w v : Network) (old l : LabelTable) (work : Work) : Type 0 where
  pub site : v.site ≡ w.site
  pub saved : v.saved ≡ w.cells
  pub standing : IsStanding m v l
  pub repaired : (b : Model) → IsStanding b w old → IsRepairOf b (plan_of w) old (last_arrival_of w) m l work.cancelled
  pub thrifty : (b : Model) → IsValid b → IsNetOf b w → IsThrifty b (plan_of w) m (plan_of v) (last_arrival_of v) work

-- the labels show that not everybody gets out of the model: their cut at the horizon is worth `most`, fewer than the people, and so many can get out
-- when the others aren't there
pub record IsShown (m : Model) (cut : LabelTable) (most : ℕ) : Type 0 where
  pub table : IsTableOf m cut
  pub barred_by : IsBarredBy m (label_cut m cut m.horizon) most

-- the net is as before, and labels show that not everybody gets out
pub record IsRefused (m : Model) (w v : Network) (cut : LabelTable) (most : ℕ) : Type 0 where
  pub net : v ≡ with_saved w
  pub shown : IsShown m cut most

-- with labels that prove the new plan best, or show that not everybody gets out
abbrev pub IsMended : Model → Network → Network → LabelTable → LabelTable → Repaired → Type 0
IsMended m w v old l (Cleared work) = IsCarried m w v old l work
IsMended m w v old l (Short most) = IsRefused m w v l most

-- the steps that it took: those of its work, or what a refusal may spend
abbrev pub IsWithinWork : Model → Network → ℕ → ℕ → Repaired → Type 0
IsWithinWork m w before after (Cleared work) = (before ≤ after) × IsCounted work (after - before)
IsWithinWork m w before after (Short most) =
    (before ≤ after) × ((b : Model) → IsValid b → IsNetOf b w → IsSpent b (plan_of w) m most (after - before))
