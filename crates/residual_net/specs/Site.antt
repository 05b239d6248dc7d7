-- Where a net stands: its network, its places, and what each of them joins.
use Rattle.std.specs.Prelude.{◌≡◌, ℕ, ◌+◌, ◌*◌, ◌<◌, ◌≤◌, Bool, true, false, ◌&&◌, ◌||◌, if◌then◌else◌, ◌==◌, nat_le, nat_lt, List, length, slice_index_or, IsFalse}
use Rattle.std.specs.List.{sum_by, All}
use Rattle.evac_law.specs.Sums.{below}
use Rattle.evac_law.specs.Limits.{travel_limit}
use Rattle.time_expansion.specs.Expansion.{Expansion, IsExpansion, from_at, to_at, arc_cell, hold_cell, cells}
use Rattle.residual_net.specs.declared.end.End.{End}
use Rattle.residual_net.specs.declared.end.End.TheVariants.{Source, Pair, Door}
use Rattle.residual_net.specs.declared.place.Place.{Place}
use Rattle.residual_net.specs.declared.place.Place.TheVariants.{Arc, Hold, Supply}
use Rattle.residual_net.specs.declared.place.PathStep.{PathStep}

-- the expanded network, which nodes are exits, and the traversal times of the arcs
pub record Site : Type 0 where
  pub shape : Expansion
  pub exits : List Bool
  pub travels : List ℕ

-- the number of the arcs
abbrev pub arc_count : Site → ℕ
arc_count s = length s.shape.ends

-- whether a node is an exit
abbrev pub exit_at : Site → ℕ → Bool
exit_at s n = slice_index_or s.exits n false

-- when people arrive who enter an arc at a moment
abbrev pub arrival_at : Site → ℕ → ℕ → ℕ
arrival_at s a t = t + slice_index_or s.travels a 0

-- the network's sizes fit one another, traversal takes time, and no arc leaves an exit
pub record IsSite (s : Site) : Type 0 where
  pub shape : IsExpansion s.shape
  pub exits : length s.exits ≡ s.shape.nodes
  pub travels : length s.travels ≡ length s.shape.ends
  pub times : All (λ d. (1 ≤ d) × (d ≤ travel_limit)) s.travels
  pub from_no_exit : (a : ℕ) → a < length s.shape.ends → IsFalse (exit_at s (from_at s.shape a))

-- the place is one of the network's
abbrev pub IsPlace : Site → Place → Type 0
IsPlace s (Arc a t) = (a < arc_count s) × (t ≤ s.shape.horizon)
IsPlace s (Hold n t) = (n < s.shape.nodes) × (t ≤ s.shape.horizon)
IsPlace s (Supply n t) = (n < s.shape.nodes) × (t ≤ s.shape.horizon)

-- a node at a moment that people can be at
pub record IsOpenPair (s : Site) (n t : ℕ) : Type 0 where
  pub node : n < s.shape.nodes
  pub moment : t ≤ s.shape.horizon
  pub no_exit : IsFalse (exit_at s n)

-- where the end is a pair, people can be at it
abbrev pub IsOpenEnd : Site → End → Type 0
IsOpenEnd s Source = Unit {0}
IsOpenEnd s (Pair n t) = IsOpenPair s n t
IsOpenEnd s (Door t) = Unit {0}

-- where a place leads from
abbrev pub tail_of : Site → Place → End
tail_of s (Arc a t) = Pair (from_at s.shape a) t
tail_of s (Hold n t) = Pair n t
tail_of s (Supply n t) = Source

-- where a place leads to
abbrev pub head_of : Site → Place → End
head_of s (Arc a t) = if exit_at s (to_at s.shape a) then Door (arrival_at s a t) else Pair (to_at s.shape a) (arrival_at s a t)
head_of s (Hold n t) = Pair n (t + 1)
head_of s (Supply n t) = Pair n t

-- a residual step goes from its start to its stop
abbrev pub start_of : Site → PathStep → End
start_of s x = if x.back then head_of s x.place else tail_of s x.place

abbrev pub stop_of : Site → PathStep → End
stop_of s x = if x.back then tail_of s x.place else head_of s x.place

-- nobody can ever be there: a move that would arrive past the horizon, a hold at the horizon, a hold or supply of an exit
abbrev pub is_barred : Site → Place → Bool
is_barred s (Arc a t) = nat_lt s.shape.horizon (arrival_at s a t)
is_barred s (Hold n t) = exit_at s n || t == s.shape.horizon
is_barred s (Supply n t) = exit_at s n

-- tests of ends
abbrev pub End_test : Type 0
End_test = End → Bool

-- whether two ends are the same
abbrev pub at : End → End_test
at Source Source = true
at (Pair n t) (Pair m s) = n == m && t == s
at (Door t) (Door s) = t == s
at _ _ = false

-- whether an end is the source
abbrev pub is_source : End_test
is_source Source = true
is_source (Pair n t) = false
is_source (Door t) = false

-- whether an end is an arrival
abbrev pub is_door : End_test
is_door Source = false
is_door (Pair n t) = false
is_door (Door t) = true

-- whether an end is an arrival by moment k
abbrev pub door_by : ℕ → End_test
door_by k Source = false
door_by k (Pair n t) = false
door_by k (Door t) = nat_le t k

-- whether two places are the same
abbrev pub same_place : Place → Place → Bool
same_place (Arc a t) (Arc b s) = a == b && t == s
same_place (Hold n t) (Hold m s) = n == m && t == s
same_place (Supply n t) (Supply m s) = n == m && t == s
same_place _ _ = false

-- a sum over pairs of a number and a moment
abbrev pub sum_pairs : ℕ → ℕ → (ℕ → ℕ → ℕ) → ℕ
sum_pairs n k f = sum_by (λ i. sum_by (λ j. f i j) (below k)) (below n)

-- a sum over all places
unfoldable pub sum_places : Site → (Place → ℕ) → ℕ
sum_places s f =
    sum_pairs (arc_count s) (s.shape.horizon + 1) (λ a t. f (Arc a t))
    + (sum_pairs s.shape.nodes (s.shape.horizon + 1) (λ n t. f (Hold n t))
    + sum_pairs s.shape.nodes (s.shape.horizon + 1) (λ n t. f (Supply n t)))

-- the cell of a place: those of the expanded network, and then the supplies
unfoldable pub cell_of : Site → Place → ℕ
cell_of s (Arc a t) = arc_cell s.shape a t
cell_of s (Hold n t) = hold_cell s.shape n t
cell_of s (Supply n t) = cells s.shape + (n * (s.shape.horizon + 1) + t)

-- the number of the cells of all places
unfoldable pub all_cells : Site → ℕ
all_cells s = cells s.shape + s.shape.nodes * (s.shape.horizon + 1)
