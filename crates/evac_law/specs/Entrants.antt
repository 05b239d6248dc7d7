-- Entrants: people who come into a node from nowhere after moment 0, and the list of entrants of a table.
use Rattle.std.specs.Prelude.{◌≡◌, ℕ, ◌<◌, ◌&&◌, ◌||◌, if◌then◌else◌, ◌==◌, List, [], ◌∷◌, ◌⊎◌}
use Rattle.std.specs.List.{flat_map, sum_by}
use Rattle.evac_law.specs.Sums.{below, moments_to}
use Rattle.evac_law.specs.declared.entrant.Entrant.{Entrant}

-- one entrant stands before another: its node has a smaller place, or it is of the same node and comes earlier
abbrev pub ComesBefore : Entrant → Entrant → Type 0
ComesBefore e f = (e.node < f.node) ⊎ ((e.node ≡ f.node) × (e.moment < f.moment))

-- the people of some entrants who come into a node at a moment
unfoldable pub entering : List Entrant → ℕ → ℕ → ℕ
entering es n t = sum_by (λ e. if e.node == n && e.moment == t then e.people else 0) es

-- the entrant of a node at a moment after 0, where the table has somebody there
abbrev pub table_entrant : (ℕ → ℕ → ℕ) → ℕ → ℕ → List Entrant
table_entrant table n t = if t == 0 || table n t == 0 then [] else (record { node = n; moment = t; people = table n t } ∷ [])

-- the entrants of a table over nodes and moments up to a horizon, by node and then by moment, none of nobody
unfoldable pub table_entrants : ℕ → ℕ → (ℕ → ℕ → ℕ) → List Entrant
table_entrants nodes horizon table = flat_map (λ n. flat_map (λ t. table_entrant table n t) (moments_to horizon)) (below nodes)
