-- The scratch of a search.
use Rattle.std.specs.Prelude.{◌≡◌, ℕ, ◌+◌, ◌*◌, ◌≤◌}
use Rattle.terminal_augment.specs.declared.buffers.Buffers.{Buffers}
use Rattle.terminal_augment.specs.Marking.{IsMarks}

-- the scratch is for a number of nodes and a horizon, and has room for each node at each moment
pub record AreBuffers (n h : ℕ) (x : Buffers) : Type 0 where
  pub marks : IsMarks x.marks
  pub nodes : x.marks.nodes ≡ n
  pub horizon : x.marks.horizon ≡ h
  pub queue : n * (h + 1) ≤ x.queue.room
  pub path : x.queue.room + 1 ≤ x.path.room

-- scratch that is used stays scratch for the same nodes and horizon
abbrev pub KeepsBuffers : Buffers → Buffers → Type 0
KeepsBuffers x y = (n h : ℕ) → AreBuffers n h x → AreBuffers n h y
