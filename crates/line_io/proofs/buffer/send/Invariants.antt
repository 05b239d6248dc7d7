-- The bytes in front of the place went over.
use Rattle.std.proofs.Common.{◌≡◌, ◌-◌, ◌≤◌, length, take, drop}
use Rattle.line_io.specs.Calls.{Offers}
use Rattle.std.specs.Io.KnownBytes.{Appends}
use Rattle.line_io.proofs.buffer.send.Given as goal

abbrev pub invariant-loop-start : goal.invariant-loop-start
invariant-loop-start g l = record {
  within : l.start ≤ length l.bytes;
  sent : Appends (g.K.Sink.held l.initial.sink) (g.K.Sink.held l.sink) (take l.start l.bytes);
  faults : g.K.Sink.faults l.sink ≡ g.K.Sink.faults l.initial.sink;
  untouched : length l.bytes ≡ 0 → l.sink ≡ l.initial.sink;
  offered : Offers g.K.Sink.puts l.bytes l.initial.sink (drop l.start l.bytes) l.sink;
}

abbrev pub decreases-loop-start : goal.decreases-loop-start
decreases-loop-start g l = length l.bytes - l.start
