-- Cuts of the network over time, their items and their value.
use Rattle.std.specs.Prelude.{ℕ, ◌+◌, ◌≤◌, Bool, not, ◌&&◌, ◌||◌, if◌then◌else◌, ◌==◌, nat_le, List, [], ◌∷◌, ◌++◌, IsTrue, IsFalse}
use Rattle.std.specs.List.{sum_by, flat_map}
use Rattle.evac_law.specs.declared.model.Model.{Model}
use Rattle.evac_law.specs.declared.cut.CutItem.{CutItem}
use Rattle.evac_law.specs.declared.cut.CutItem.TheVariants.{Entry, Hold, Arc}
use Rattle.evac_law.specs.Building.{is_exit_at, capacity, tail, head, arrival, rate, entry}
use Rattle.evac_law.specs.Sums.{below, moments_to, places}

-- a cut is a set of nodes at moments, given as a test
abbrev pub Cut : Type 0
Cut = ℕ → ℕ → Bool

-- no exit and no moment past the horizon is in it
pub record IsCut (m : Model) (x : Cut) : Type 0 where
  pub no_exits : (n t : ℕ) → IsTrue (x n t) → IsFalse (is_exit_at m n)
  pub in_horizon : (n t : ℕ) → IsTrue (x n t) → t ≤ m.horizon

-- whether people who enter an arc at a moment leave the cut by moment k: from inside into an exit or outside
abbrev pub leaves_cut : Model → Cut → ℕ → ℕ → ℕ → Bool
leaves_cut m x k t a =
    x (tail m a) t && (nat_le (arrival m a t) k
    && (is_exit_at m (head m a) || not (x (head m a) (arrival m a t))))

-- the entry of a node at a moment, where it is above 0 and outside the cut
abbrev pub entry_part : Model → Cut → ℕ → ℕ → List CutItem
entry_part m x n t = if x n t || (entry m n t == 0) then [] else (Entry n (entry m n t) ∷ [])

-- the capacity of a node, where it is in the cut at a moment and not at the next
abbrev pub hold_part : Model → Cut → ℕ → ℕ → List CutItem
hold_part m x n t = if x n t && not (x n (t + 1)) then (Hold n t (capacity m n) ∷ []) else []

-- the rate of an arc at a moment, where it leaves the cut
abbrev pub arc_part : Model → Cut → ℕ → ℕ → ℕ → List CutItem
arc_part m x k t a = if leaves_cut m x k t a then (Arc a t (rate m a t) ∷ []) else []

-- the items up to moment k: entries and holds by node and moment, arcs by moment and arc
abbrev pub entry_items : Model → Cut → ℕ → List CutItem
entry_items m x k = flat_map (λ n. flat_map (entry_part m x n) (moments_to k)) (places m.nodes)

abbrev pub hold_items : Model → Cut → ℕ → List CutItem
hold_items m x k = flat_map (λ n. flat_map (hold_part m x n) (below k)) (places m.nodes)

abbrev pub arc_items : Model → Cut → ℕ → List CutItem
arc_items m x k = flat_map (λ t. flat_map (arc_part m x k t) (places m.arcs)) (moments_to k)

-- all items, in the order of their kinds
unfoldable pub cut_items : Model → Cut → ℕ → List CutItem
cut_items m x k = entry_items m x k ++ (hold_items m x k ++ arc_items m x k)

-- the number of an item
abbrev pub number_of : CutItem → ℕ
number_of (Entry n p) = p
number_of (Hold n t c) = c
number_of (Arc a t r) = r

-- the value of a cut at moment k: the sum of its items
unfoldable pub cut_value : Model → Cut → ℕ → ℕ
cut_value m x k = sum_by number_of (cut_items m x k)
