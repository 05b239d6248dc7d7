-- What settling moment after moment comes to.
use Rattle.std.specs.Prelude.{◌≡◌, ℕ, ◌+◌, ◌<◌, ◌≤◌}
use Rattle.evac_law.specs.declared.model.Model.{Model}
use Rattle.evac_law.specs.Building.{people}
use Rattle.evac_law.specs.Certificates.{IsCertified, label_cut}
use Rattle.evac_law.specs.LabelTable.{LabelTable}
use Rattle.evac_law.specs.Parts.{IsBarredBy}
use Rattle.evac_law.specs.Stands.{Fits}
use Rattle.residual_net.specs.Network.{Network, IsAllSent, IsNet, IsWithinLimits, arrived_by}
use Rattle.residual_net.specs.OfModel.{last_move, plan_of, stand_of}
use Rattle.lex_flow.specs.declared.outcome.Outcome.{Outcome}
use Rattle.lex_flow.specs.declared.outcome.Outcome.TheVariants.{Cleared, Short}
use Rattle.terminal_augment.specs.Settled.{IsClosedBelow, KeepsLimits}
use Rattle.lex_flow.specs.Settling.{IsOver, IsRelabelled, arrivals_below}

-- the pushes that it took
abbrev pub pushes_of : Outcome → ℕ
pushes_of (Cleared moment pushes) = pushes
pushes_of (Short most pushes) = pushes

-- the last moment up to which the labels show what can arrive
abbrev pub last_settled : ℕ → Outcome → ℕ
last_settled horizon (Cleared moment pushes) = moment
last_settled horizon (Short most pushes) = horizon

-- everybody arrives, the moment is that of the last arrival, and the net stands for a plan that the labels certify
pub record IsCleared (m : Model) (w : Network) (l : LabelTable) (moment : ℕ) : Type 0 where
  pub arrived : arrived_by w m.horizon ≡ people m
  pub last : moment ≡ last_move w.site (plan_of w)
  pub fits : Fits m (stand_of w)
  pub certified : IsCertified m (plan_of w) l moment

-- everybody gets out and the plan is best at every period, or the labels show that not everybody can: `most` is how many can when the others aren't
-- there
abbrev pub IsAnswer : Model → Network → LabelTable → Outcome → Type 0
IsAnswer m w l (Cleared moment pushes) = IsCleared m w l moment
IsAnswer m w l (Short most pushes) = (arrived_by w m.horizon ≡ most) × IsBarredBy m (label_cut m l m.horizon) most

-- the pushes are at most what the arrivals by the moments settled rose by, all together
abbrev pub IsBounded : Network → Network → Outcome → Type 0
IsBounded w v o =
    pushes_of o + arrivals_below w (last_settled v.site.shape.horizon o + 1) ≤ arrivals_below v (last_settled v.site.shape.horizon o + 1)

-- moments are settled from one on: flow is conserved, limits stay and are kept, no earlier arrivals change and none fall, the pushes are bounded, and without a push,
-- or where everybody had arrived before, the net is as it was
pub record IsNetSettled (w v : Network) (from : ℕ) (o : Outcome) : Type 0 where
  pub limits : KeepsLimits w v
  pub net : IsNet v
  pub within : IsWithinLimits v
  pub earlier : (i : ℕ) → i < from → arrived_by v i ≡ arrived_by w i
  pub later : (i : ℕ) → arrived_by w i ≤ arrived_by v i
  pub idle : pushes_of o ≡ 0 → v ≡ w
  pub bounded : IsBounded w v o
  pub rests : IsOver w from → v ≡ w

-- the labels below a moment stay, the others are those of the moments settled from there on, and what they say is closed
pub record AreLabelsSettled (v : Network) (l m : LabelTable) (from : ℕ) (o : Outcome) : Type 0 where
  pub labels : IsRelabelled l m from (last_settled v.site.shape.horizon o + 1)
  pub closed : IsClosedBelow v m (last_settled v.site.shape.horizon o + 1)

-- everybody is sent and arrives by a moment, or not everybody is sent
abbrev pub IsOutcome : Network → Outcome → Type 0
IsOutcome w (Cleared moment pushes) = IsAllSent w × (moment ≡ last_move w.site (plan_of w))
IsOutcome w (Short most pushes) = (IsAllSent w → ⊥) × (most ≡ arrived_by w w.site.shape.horizon)
