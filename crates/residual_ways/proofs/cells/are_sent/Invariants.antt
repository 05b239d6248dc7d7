use Rattle.std.specs.Prelude.{ℕ, ◌<◌, ◌≤◌, IsTrue, slice_index_or}
use Rattle.std.specs.List.{All}
use Rattle.residual_net.specs.declared.place.Cell.{Cell}
use Rattle.residual_ways.proofs.cells.are_sent.Given as goal

abbrev pub invariant-loop-cell : goal.invariant-loop-cell
invariant-loop-cell l =
    (IsTrue l.sent → (k : ℕ) (d : Cell) → k < l.cell-index → (slice_index_or l.cells k d).limit ≤ (slice_index_or l.cells k d).flow)
    × (All (λ cell. cell.limit ≤ cell.flow) l.cells → IsTrue l.sent)
