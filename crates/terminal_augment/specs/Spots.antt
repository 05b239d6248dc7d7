-- Lists of nodes at moments.
use Rattle.std.specs.Prelude.{ℕ, Bool, false, ◌&&◌, ◌||◌, ◌==◌, List, [], ◌∷◌}
use Rattle.terminal_augment.specs.declared.spot.Spot.{Spot}

-- whether a node at a moment is in a list
abbrev pub has : List Spot → ℕ → ℕ → Bool
has [] n t = false
has (p ∷ ps) n t = (p.node == n && p.moment == t) || has ps n t
