-- What a checker asks of a plan, part by part, and where a part first fails.
use Rattle.std.specs.Prelude.{◌≡◌, ◌≢◌, ℕ, ◌+◌, ◌<◌, ◌≤◌, ◌⊎◌, List, length, slice_index, IsFalse, pos, ◌≤ℤ◌}
use Rattle.std.specs.List.{All}
use Rattle.evac_law.specs.declared.model.Model.{Model}
use Rattle.evac_law.specs.declared.plan.Move.{Move}
use Rattle.evac_law.specs.Building.{is_exit_at, capacity, arrival, rate, people}
use Rattle.evac_law.specs.Certificates.{label_cut}
use Rattle.evac_law.specs.Cuts.{cut_value}
use Rattle.evac_law.specs.LabelTable.{LabelTable}
use Rattle.evac_law.specs.Plans.{moved, held, out_by}

-- a moment and a number stand before others: an earlier moment, or the same and a smaller number
abbrev pub Earlier : ℕ → ℕ → ℕ → ℕ → Type 0
Earlier s i t n = (s < t) ⊎ ((s ≡ t) × (i < n))

-- ---- rates

-- up to moment c no more people enter an arc than its rate
abbrev pub RatesKept : Model → List Move → ℕ → Type 0
RatesKept m p c = (a t : ℕ) → a < length m.arcs → t ≤ c → moved p a t ≤ rate m a t

-- more people enter the arc at the moment than its rate, and nowhere do earlier
pub record IsFirstRate (m : Model) (p : List Move) (c t a : ℕ) : Type 0 where
  pub in_time : t ≤ c
  pub arc_in : a < length m.arcs
  pub broken : rate m a t < moved p a t
  pub kept : (b s : ℕ) → b < length m.arcs → Earlier s b t a → moved p b s ≤ rate m b s

-- ---- holds

-- a node holds from nobody to its capacity at a moment
abbrev pub IsHeldWell : Model → List Move → ℕ → ℕ → Type 0
IsHeldWell m p n t = (pos 0 ≤ℤ held m p n t) × (held m p n t ≤ℤ pos (capacity m n))

-- up to moment c every node that is no exit does
abbrev pub HoldsKept : Model → List Move → ℕ → Type 0
HoldsKept m p c = (n t : ℕ) → n < length m.nodes → IsFalse (is_exit_at m n) → t ≤ c → IsHeldWell m p n t

-- the node, which is no exit, doesn't at the moment, and every one does earlier
pub record IsFirstHold (m : Model) (p : List Move) (c t n : ℕ) : Type 0 where
  pub in_time : t ≤ c
  pub node_in : n < length m.nodes
  pub no_exit : IsFalse (is_exit_at m n)
  pub broken : ¬ (IsHeldWell m p n t)
  pub kept : (i s : ℕ) → i < length m.nodes → IsFalse (is_exit_at m i) → Earlier s i t n → IsHeldWell m p i s

-- ---- everybody out

-- every move arrives by moment c, no fewer than all are out by then, and fewer one period before
pub record IsAllOut (m : Model) (p : List Move) (c : ℕ) : Type 0 where
  pub arrives : All (λ v. arrival m v.arc v.moment ≤ c) p
  pub everybody : people m ≤ out_by m p c
  pub least : (b : ℕ) → b + 1 ≡ c → out_by m p b < people m

-- ---- the curve

-- the stated numbers up to period c are the people out by then
abbrev pub OutsRight : Model → List Move → ℕ → List ℕ → Type 0
OutsRight m p c outs = (k : ℕ) → k ≤ c → slice_index outs k ≡ out_by m p k

-- the number stated for the period isn't, and those of all periods before are
pub record IsFirstOut (m : Model) (p : List Move) (c : ℕ) (outs : List ℕ) (k : ℕ) : Type 0 where
  pub in_time : k ≤ c
  pub wrong : slice_index outs k ≢ out_by m p k
  pub right : (j : ℕ) → j < k → slice_index outs j ≡ out_by m p j

-- ---- the cuts

-- for every period below c the cut of the labels is worth the people out by then
abbrev pub CutsRight : Model → List Move → ℕ → LabelTable → Type 0
CutsRight m p c l = (k : ℕ) → k < c → out_by m p k ≡ cut_value m (label_cut m l k) k

-- the cut of the period isn't, and those of all periods before are
pub record IsFirstCut (m : Model) (p : List Move) (c : ℕ) (l : LabelTable) (k : ℕ) : Type 0 where
  pub in_time : k < c
  pub wrong : out_by m p k ≢ cut_value m (label_cut m l k) k
  pub right : (j : ℕ) → j < k → out_by m p j ≡ cut_value m (label_cut m l j) j
