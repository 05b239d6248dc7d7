use Rattle.std.proofs.Common.{◌∙◌, subst, List, ℕ, refl, drop, Ok, Err, arith}
use Rattle.std.proofs.lemmas.List.{length-drop, take_rest, drop-drop}
use Rattle.line_io.specs.Calls.{Offers}
use Rattle.line_io.proofs.CallLemmas.{offers-none, offers-push}
use Rattle.line_io.proofs.ReaderLemmas.{sent-more}
use Rattle.std.proofs.KnownBytes.{Appends-nil, Appends-trans}
use Rattle.std.specs.Io.KnownBytes.{Appends}
use Rattle.line_io.proofs.buffer.send.Goals as goal

pub loop-start-preserved : goal.loop-start-preserved
loop-start-preserved g c =
    let s = c.loop-start.start in
    let n = c.in-Ok.count in
    let bytes = c.args.bytes.now in
    let sent = Appends-trans _ _ _ _ _ c.loop-start.invariant.sent c.in-Ok.ensures.bytes in
    record {
      within = omega (arith, c.in-Ok.ensures.bound.1, length-drop s bytes);
      sent = subst (λ (l : List ℕ). Appends (g.K.Sink.held c.args.sink.now) (g.K.Sink.held c.put.new.self) l) (sent-more bytes s n) sent;
      faults = c.in-Ok.ensures.cause.same ∙ c.loop-start.invariant.faults;
      untouched = λ none. absurd (omega arith);
      offered = subst (λ (l : List ℕ). Offers g.K.Sink.puts bytes c.args.sink.now l c.put.new.self) (drop-drop n s bytes)
          (offers-push g.K.Sink.puts bytes (drop s bytes) c.args.sink.now c.loop-start.sink c.put.new.self (Ok n) c.loop-start.invariant.offered
          (subst (λ (l : List ℕ). g.K.Sink.puts c.loop-start.sink l (Ok n) c.put.new.self) (take_rest bytes s) c.in-Ok.ensures.puts));
    }

pub loop-start-init : goal.loop-start-init
loop-start-init g c = record { within = omega arith; sent = Appends-nil _; faults = refl; untouched = λ _. refl; offered = offers-none g.K.Sink.puts c.args.bytes.now c.args.sink.now }

pub returns-in-Err-clause-offered : goal.returns-in-Err-clause-offered
returns-in-Err-clause-offered g c =
    let s = c.loop-start.start in
    let bytes = c.args.bytes.now in
    offers-push g.K.Sink.puts bytes (drop s bytes) c.args.sink.now c.loop-start.sink c.put.new.self (Err _) c.loop-start.invariant.offered
    (subst (λ (l : List ℕ). g.K.Sink.puts c.loop-start.sink l (Err _) c.put.new.self) (take_rest bytes s) c.in-Err.ensures.puts)
