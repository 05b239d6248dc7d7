-- What one entry, one hold and one arc at a moment add to the value of the cut of a period.
use Rattle.std.specs.Prelude.{◌≡◌, ℕ, ◌+◌, length, not, ◌&&◌, if◌then◌else◌, nat_le, nat_lt}
use Rattle.std.specs.List.{sum_by}
use Rattle.evac_law.specs.declared.model.Model.{Model}
use Rattle.evac_law.specs.Building.{IsValid, capacity, entry, rate}
use Rattle.evac_law.specs.Certificates.{IsTableOf, label_cut}
use Rattle.evac_law.specs.Cuts.{leaves_cut}
use Rattle.evac_law.specs.LabelTable.{LabelTable}
use Rattle.evac_law.specs.Sums.{below, moments_to}
use Rattle.cut_witness.specs.Changes.{Changes}

-- the entry of a node at a moment up to k, where it is outside the cut of k
abbrev pub entry_share : Model → LabelTable → ℕ → ℕ → ℕ → ℕ
entry_share m l k n t = if nat_le t k && not (label_cut m l k n t) then entry m n t else 0

-- the capacity of a node, where it leaves the cut of k after a moment below k
abbrev pub hold_share : Model → LabelTable → ℕ → ℕ → ℕ → ℕ
hold_share m l k n t = if nat_lt t k && (label_cut m l k n t && not (label_cut m l k n (t + 1))) then capacity m n else 0

-- the rate of an arc at a moment, where it leaves the cut of k then
abbrev pub arc_share : Model → LabelTable → ℕ → ℕ → ℕ → ℕ
arc_share m l k a t = if leaves_cut m (label_cut m l k) k t a then rate m a t else 0

-- the shares of a node or an arc at all moments
abbrev pub entry_shares : Model → LabelTable → ℕ → ℕ → ℕ
entry_shares m l k n = sum_by (entry_share m l k n) (moments_to m.horizon)

abbrev pub hold_shares : Model → LabelTable → ℕ → ℕ → ℕ
hold_shares m l k n = sum_by (hold_share m l k n) (below m.horizon)

abbrev pub arc_shares : Model → LabelTable → ℕ → ℕ → ℕ
arc_shares m l k a = sum_by (arc_share m l k a) (moments_to m.horizon)

-- what a sum of shares rests on: a valid model, labels for it, and changes at each of its periods
pub record IsSummable (m : Model) (l : LabelTable) (c : Changes) : Type 0 where
  pub valid : IsValid m
  pub table : IsTableOf m l
  pub periods : length c.rises ≡ m.horizon + 1
