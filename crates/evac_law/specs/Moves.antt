-- The list of moves of a table of flows.
use Rattle.std.specs.Prelude.{ℕ, if◌then◌else◌, ◌==◌, List, [], ◌∷◌}
use Rattle.std.specs.List.{flat_map}
use Rattle.evac_law.specs.declared.plan.Move.{Move}
use Rattle.evac_law.specs.Sums.{below, moments_to}

-- the move of an arc at a moment, where the table has somebody there
abbrev pub move_of : (ℕ → ℕ → ℕ) → ℕ → ℕ → List Move
move_of table t a = if table a t == 0 then [] else (record { moment = t; arc = a; people = table a t } ∷ [])

-- the moves of a table over arcs and moments up to a horizon, by moment and then by arc, none of nobody
unfoldable pub moves_of : ℕ → ℕ → (ℕ → ℕ → ℕ) → List Move
moves_of arcs horizon table = flat_map (λ t. flat_map (λ a. move_of table t a) (below arcs)) (moments_to horizon)
