-- Closure windows of an arc: the moments at which nobody may enter it.
use Rattle.std.specs.Prelude.{ℕ, ◌+◌, ◌<◌, ◌≤◌, Bool, ◌&&◌, if◌then◌else◌, ◌==◌, nat_le, nat_lt, List, [], ◌∷◌, length}
use Rattle.std.specs.List.{All, AllPairs, list_any}
use Rattle.evac_law.specs.Limits.{horizon_limit, window_limit}
use Rattle.evac_law.specs.declared.window.Window.{Window}

-- the window of two numbers: its first moment and its end
abbrev pub window_of : ℕ → ℕ → Window
window_of p q = record { from = p; until = q }

-- whether a moment lies in a window: from its first moment on, and before its end
abbrev pub is_within : Window → ℕ → Bool
is_within w t = nat_le w.from t && nat_lt t w.until

-- whether a moment lies in one of some windows
abbrev pub is_closed_at : List Window → ℕ → Bool
is_closed_at ws t = list_any (λ w. is_within w t) ws

-- a window begins before it ends, and ends at the latest just after the last moment that a horizon may be
pub record IsWindow (w : Window) : Type 0 where
  pub ordered : w.from < w.until
  pub until_fits : w.until ≤ horizon_limit + 1

-- one window has ended when another begins
abbrev pub EndsBefore : Window → Window → Type 0
EndsBefore v w = v.until ≤ w.from

-- a few windows in the order of their first moments, and no moment lies in two of them
pub record AreWindows (ws : List Window) : Type 0 where
  pub few : length ws ≤ window_limit
  pub each : All IsWindow ws
  pub apart : AllPairs EndsBefore ws

-- whether two windows share a moment
abbrev pub overlaps : Window → Window → Bool
overlaps v w = nat_lt v.from w.until && nat_lt w.from v.until

-- whether two windows have the same numbers
abbrev pub is_same_window : Window → Window → Bool
is_same_window v w = v.from == w.from && v.until == w.until

-- the windows with one more, before the first that begins later
abbrev pub with_window : List Window → Window → List Window
with_window [] w = w ∷ []
with_window (v ∷ vs) w = if nat_lt w.from v.from then w ∷ v ∷ vs else v ∷ with_window vs w

-- the windows without the first that has the same numbers as one
abbrev pub without_window : List Window → Window → List Window
without_window [] w = []
without_window (v ∷ vs) w = if is_same_window v w then vs else v ∷ without_window vs w
