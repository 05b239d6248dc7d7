-- The listener went on from the lines so far.
use Rattle.std.proofs.Common.{◌≡◌, ◌-◌}
use Rattle.line_io.specs.Calls.{Asks}
use Rattle.line_io.specs.Line.{input_limit}
use Rattle.line_io.specs.Reader.{Drained}
use Rattle.line_io.proofs.HearingLemmas.{Went}
use Rattle.line_io.proofs.hearing.listen.Given as goal

abbrev pub invariant-loop-listener : goal.invariant-loop-listener
invariant-loop-listener g l = record {
  went : Went g.L.Listener.hears l.initial.listener l.listener l.initial.lines l.lines (g.S.Source.left l.initial.source) (g.S.Source.left l.source);
  kept : g.L.Listener.kept l.listener ≡ g.L.Listener.kept l.initial.listener;
  ready : g.L.Listener.ready l.listener;
  faults : g.S.Source.faults l.source ≡ g.S.Source.faults l.initial.source;
  drained : Drained l.initial.lines (g.S.Source.left l.initial.source) → Drained l.lines (g.S.Source.left l.source);
  asks : Asks g.S.Source.takes l.initial.lines l.initial.source l.lines l.source;
}

abbrev pub decreases-loop-listener : goal.decreases-loop-listener
decreases-loop-listener g l = input_limit - l.lines.number
