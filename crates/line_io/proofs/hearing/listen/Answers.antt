use Rattle.std.proofs.Common.{[], Ok, Err, refl, ap, ◌∙◌}
use Rattle.line_io.specs.declared.hearing.Heard.TheVariants.{Last}
use Rattle.line_io.specs.declared.hearing.Ending.TheVariants.{Failed, Finished, InputEnded}
use Rattle.line_io.specs.declared.lines.Found.TheVariants.{End}
use Rattle.line_io.proofs.CallLemmas.{asks-none, asks-then}
use Rattle.line_io.proofs.PassLemmas.{IsClosed, passes-text, passes-end, passes-fault, left-by, end-empty}
use Rattle.line_io.proofs.HearingLemmas.{went-none, went-more, listens-line, listens-none, listens-fault, hears-so}
use Rattle.line_io.proofs.hearing.listen.Goals as goal

pub loop-listener-init : goal.loop-listener-init
loop-listener-init g c = record {
  went = went-none g.L.Listener.hears c.args.listener.now c.args.lines.now (g.S.Source.left c.args.source.now);
  kept = refl;
  ready = c.requires.ready;
  faults = refl;
  drained = λ d. d;
  asks = asks-none g.S.Source.takes c.args.lines.now c.args.source.now;
}

pub loop-listener-preserved : goal.loop-listener-preserved
loop-listener-preserved g c =
    let e = c.in-Ok-Text.ensures in
    let is = ap Ok c.in-Ok-Text.field-0-is in
    let passes = passes-text _ c.loop-listener.lines c.next.new.self _ _ is e.bytes e.lines (e.found is) (λ s. (e.settled s).1) e.room in
    record {
      went = went-more g.L.Listener.hears c.args.listener.now c.loop-listener.listener c.hear.new.self c.args.lines.now c.loop-listener.lines c.next.new.self _ _ _ c.loop-listener.invariant.went passes
          (hears-so g.L.Listener.hears _ _ _ _ _ _ _ _ c.number.ensures.number c.text.ensures.text (ap Ok c.in-Ok-More.field-0-is) c.in-Ok-More.ensures.hears);
      kept = c.in-Ok-More.ensures.kept ∙ c.loop-listener.invariant.kept;
      ready = c.in-Ok-More.ensures.more (ap Ok c.in-Ok-More.field-0-is);
      faults = e.cause.same (λ f. cc) ∙ c.loop-listener.invariant.faults;
      drained = λ d. e.drained (c.loop-listener.invariant.drained d);
      asks = asks-then c.loop-listener.invariant.asks e.asks;
    }

pub returns-in-Ok-Last-clause-listens : goal.returns-in-Ok-Last-clause-listens
returns-in-Ok-Last-clause-listens g c =
    let e = c.in-Ok-Text.ensures in
    let is = ap Ok c.in-Ok-Text.field-0-is in
    let passes = passes-text _ c.loop-listener.lines c.next.new.self _ _ is e.bytes e.lines (e.found is) (λ s. (e.settled s).1) e.room in
    listens-line g.L.Listener.hears Finished (Ok Last) c.args.listener.now c.loop-listener.listener c.hear.new.self c.args.lines.now c.loop-listener.lines c.next.new.self _ _ _ c.loop-listener.invariant.went passes
    (hears-so g.L.Listener.hears _ _ _ _ _ _ _ _ c.number.ensures.number c.text.ensures.text (ap Ok c.in-Ok-Last.field-0-is) c.in-Ok-Last.ensures.hears) (λ k rest h. (_, refl, h)) tt

pub returns-in-Err-hear-clause-listens : goal.returns-in-Err-hear-clause-listens
returns-in-Err-hear-clause-listens g c =
    let e = c.in-Ok-Text.ensures in
    let is = ap Ok c.in-Ok-Text.field-0-is in
    let passes = passes-text _ c.loop-listener.lines c.next.new.self _ _ is e.bytes e.lines (e.found is) (λ s. (e.settled s).1) e.room in
    listens-line g.L.Listener.hears (Failed c.in-Err-hear.fault) _ c.args.listener.now c.loop-listener.listener c.hear.new.self c.args.lines.now c.loop-listener.lines c.next.new.self _ _ _ c.loop-listener.invariant.went passes
    (hears-so g.L.Listener.hears _ _ _ _ _ _ _ _ c.number.ensures.number c.text.ensures.text refl c.in-Err-hear.ensures.hears) (λ k rest h. (_, refl, h)) tt

pub returns-in-Ok-End-clause-listens : goal.returns-in-Ok-End-clause-listens
returns-in-Ok-End-clause-listens g c =
    let e = c.in-Ok-End.ensures in
    let is = c.in-Ok-End.field-0-is in
    let number = (e.stays (λ h. cc)).0 in
    let closed : IsClosed c.next.new.self = (e.end (ap Ok is), end-empty c.next.new.self (rw is at e.last)) in
    let passes = passes-end c.loop-listener.lines c.next.new.self _ _ (rw is at e.bytes) (rw is at e.lines) number closed e.room in
    listens-none g.L.Listener.hears InputEnded c.args.listener.now c.loop-listener.listener c.args.lines.now c.loop-listener.lines c.next.new.self _ _ _ [] c.loop-listener.invariant.went passes
    (left-by (Ok End) c.next.new.self.text [] (λ x y h. h.1 ∙ h.0) _ _ (rw is at e.lines)) (refl, refl, refl) closed

pub returns-in-Err-clause-listens : goal.returns-in-Err-clause-listens
returns-in-Err-clause-listens g c =
    let e = c.in-Err.ensures in
    let number = (e.stays (λ h. cc)).0 in
    let passes = passes-fault c.in-Err.fault c.loop-listener.lines c.next.new.self _ _ e.bytes e.lines number (λ s. (e.settled s).1) e.room in
    listens-fault g.L.Listener.hears c.args.listener.now c.loop-listener.listener c.in-Err.fault c.args.lines.now c.loop-listener.lines c.next.new.self _ _ _ c.loop-listener.invariant.went passes
    e.lines e.last (λ f. e.unfinished (ap Err f))

pub returns-in-Ok-Last-clause-asks : goal.returns-in-Ok-Last-clause-asks
returns-in-Ok-Last-clause-asks g c = asks-then c.loop-listener.invariant.asks c.in-Ok-Text.ensures.asks

pub returns-in-Ok-End-clause-asks : goal.returns-in-Ok-End-clause-asks
returns-in-Ok-End-clause-asks g c = asks-then c.loop-listener.invariant.asks c.in-Ok-End.ensures.asks

pub returns-in-Err-hear-clause-asks : goal.returns-in-Err-hear-clause-asks
returns-in-Err-hear-clause-asks g c = asks-then c.loop-listener.invariant.asks c.in-Ok-Text.ensures.asks

pub returns-in-Err-clause-asks : goal.returns-in-Err-clause-asks
returns-in-Err-clause-asks g c = asks-then c.loop-listener.invariant.asks c.in-Err.ensures.asks
