use Rattle.std.proofs.Common.{◌≡◌, ℕ, List, ◌++◌}
use Rattle.std.specs.Slice.Iter.{chunks_rest, chunks_size}
use Rattle.line_io.specs.declared.limits.TheConstants.{PUT_LIMIT}
use Rattle.line_io.specs.Writer.{Puts}
use Rattle.line_io.proofs.out.Out.put_all.Given as goal

-- the pieces so far were put, no fault was counted, and the rest is ahead
abbrev pub invariant-loop-piece : goal.invariant-loop-piece
invariant-loop-piece g l =
    (goal.iterator-loop-piece g).can_next l.piece-iterator
    × (goal.iterator-loop-piece g).is_finite l.piece-iterator
    × (chunks_size l.piece-iterator ≡ PUT_LIMIT)
    × (g.K.Sink.faults l.sink ≡ g.K.Sink.faults l.fn.sink)
    × ((front : List ℕ) × Puts (g.K.Sink.held l.fn.sink) l.fn.self front (g.K.Sink.held l.sink) l.self
    × (front ++ chunks_rest l.piece-iterator ≡ l.fn.bytes))
