-- The scratch of a search after pushes.
use Rattle.std.proofs.Common.{◌≡◌, ℕ, subst, sym, ◌∙◌, arith}
use Rattle.guided_search.specs.declared.path_finder.PathFinder.{PathFinder}
use Rattle.residual_net.specs.Network.{Network}
use Rattle.residual_net.specs.Site.{Site}
use Rattle.terminal_augment.specs.declared.spot.Met.{Met}
use Rattle.terminal_augment.specs.declared.buffers.Buffers.{Buffers}
use Rattle.terminal_augment.specs.Hints.{IsMarkedOn}
use Rattle.terminal_augment.specs.Marking.{IsMarks, MarkTable}
use Rattle.terminal_augment.specs.Queues.{Queue}
use Rattle.terminal_augment.specs.Searches.{AreBuffers, KeepsBuffers}
use Rattle.terminal_augment.specs.Settled.{IsPushedOn}

pub buffers_kept : {w v : Network} {k pushes : ℕ} {x y : Buffers} → IsPushedOn w v k pushes → KeepsBuffers x y
    → AreBuffers w.site.shape.nodes w.site.shape.horizon x → AreBuffers v.site.shape.nodes v.site.shape.horizon y
buffers_kept {y} pushed keeps old = subst (λ (s : Site). AreBuffers s.shape.nodes s.shape.horizon y) (sym pushed.limits.site) (keeps _ _ old)

-- another finder, and another queue with the same room
pub buffers_with : {n h : ℕ} {x : Buffers} (f : PathFinder) → AreBuffers n h x → AreBuffers n h (record x { finder = f })
buffers_with f h = record { marks = h.marks; nodes = h.nodes; horizon = h.horizon; queue = h.queue; path = h.path }

pub queue_with : {n h : ℕ} {x : Buffers} {q : Queue Met} → q.room ≡ x.queue.room → AreBuffers n h x → AreBuffers n h (record x { queue = q })
queue_with same h = record { marks = h.marks; nodes = h.nodes; horizon = h.horizon; queue = omega (arith, h.queue, same); path = omega (arith, h.path, same) }

-- another finder, and marks that were taken off and set again
pub marks_with : {n h : ℕ} {x : Buffers} {m v : MarkTable} (f : PathFinder) → IsMarks m → m.nodes ≡ x.marks.nodes → m.horizon ≡ x.marks.horizon → IsMarkedOn m v
    → AreBuffers n h x → AreBuffers n h (record x { finder = f; marks = v })
marks_with f marks nodes horizon on h = record {
  marks = on.marks marks;
  nodes = on.nodes ∙ nodes ∙ h.nodes;
  horizon = on.horizon ∙ horizon ∙ h.horizon;
  queue = h.queue;
  path = h.path;
}
