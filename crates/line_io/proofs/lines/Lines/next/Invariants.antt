-- Nothing is given yet, bytes were taken after the pending ones, and the source failed no more than before.
use Rattle.std.proofs.Common.{◌≡◌, ◌-◌, ◌+◌, length, cond, true}
use Rattle.std.specs.Io.KnownBytes.{Keeps}
use Rattle.line_io.specs.Calls.{Asks}
use Rattle.line_io.specs.Line.{line_limit}
use Rattle.line_io.specs.Reader.{ahead, Drained, is_settled}
use Rattle.line_io.specs.Scan.{Refills}
use Rattle.line_io.proofs.lines.Lines.next.Given as goal

abbrev pub invariant-loop-size : goal.invariant-loop-size
invariant-loop-size g l = record {
  ahead : Keeps (ahead l.initial.self (g.S.Source.left l.initial.source)) (ahead l.self (g.S.Source.left l.source));
  taken : Refills l.initial.self l.self (g.S.Source.left l.initial.source) (g.S.Source.left l.source);
  drained : Drained l.initial.self (g.S.Source.left l.initial.source) → Drained l.self (g.S.Source.left l.source);
  settled : is_settled l.initial.self ≡ true → (l.source ≡ l.initial.source) × (l.self ≡ l.initial.self);
  given : l.self.given ≡ l.initial.self.given;
  number : l.self.number ≡ l.initial.self.number;
  text : l.self.text ≡ l.initial.self.text;
  faults : g.S.Source.faults l.source ≡ g.S.Source.faults l.initial.source;
  asks : Asks g.S.Source.takes l.initial.self l.initial.source l.self l.source;
}

abbrev pub decreases-loop-size : goal.decreases-loop-size
decreases-loop-size g l = cond l.self.ended 0 (line_limit + 3 - length l.self.pending)
