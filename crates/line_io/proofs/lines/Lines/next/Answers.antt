use Rattle.std.proofs.Common.{◌≡◌, ◌∙◌, ap, refl, false, rules}
use Rattle.std.proofs.lemmas.Bool.{both_ways}
use Rattle.std.proofs.KnownBytes.{Keeps-refl, Keeps-trans}
use Rattle.line_io.specs.Reader.{is_settled}
use Rattle.line_io.proofs.CallLemmas.{asks-none, asks-same, asks-then}
use Rattle.line_io.proofs.ReaderLemmas.{counts-first, gives-first, gives-none, refills-more, refills-none}
use Rattle.line_io.proofs.lines.Lines.next.Goals as goal

pub returns-in-Some-clause-bytes : goal.returns-in-Some-clause-bytes
returns-in-Some-clause-bytes g c =
    gives-first c.give.result c.args.self.now c.loop-size.self c.give.new.self _ _ c.in-Some.size c.loop-size.invariant.taken c.loop-size.invariant.given c.in-Some.ensures.size
    (λ e. (c.give.ensures.found e).1) c.give.ensures.gone c.give.ensures.stays

pub returns-in-Err-clause-bytes : goal.returns-in-Err-clause-bytes
returns-in-Err-clause-bytes g c =
    gives-none _ c.args.self.now c.refill.new.self c.refill.new.self _ _ (refills-more _ _ _ _ _ _ c.loop-size.invariant.taken c.in-Err.ensures.taken) (c.in-Err.ensures.rest.0 ∙ c.loop-size.invariant.given) refl refl

pub returns-in-Some-clause-asks : goal.returns-in-Some-clause-asks
returns-in-Some-clause-asks g c =
    asks-same c.loop-size.invariant.asks c.give.ensures.ended (counts-first c.give.result c.loop-size.self c.give.new.self c.in-Some.size c.in-Some.ensures.size c.give.ensures.gone c.give.ensures.stays)

pub returns-in-Err-clause-asks : goal.returns-in-Err-clause-asks
returns-in-Err-clause-asks g c = asks-then c.loop-size.invariant.asks c.refill.ensures.asks

pub loop-size-preserved : goal.loop-size-preserved
loop-size-preserved g c =
    let off : is_settled c.loop-size.self ≡ false = c.in_default.ensures.unsettled in
    let inv = c.loop-size.invariant in
    record {
      ahead = Keeps-trans _ _ _ inv.ahead c.refill.ensures.bytes;
      taken = refills-more _ _ _ _ _ _ inv.taken c.refill.ensures.taken;
      drained = λ d. c.refill.ensures.drained (inv.drained d);
      settled = λ s. absurd (both_ways _ off (ap is_settled (inv.settled s).1 ∙ s));
      given = c.refill.ensures.rest.0 ∙ inv.given;
      number = c.refill.ensures.rest.1 ∙ inv.number;
      text = c.refill.ensures.rest.2 ∙ inv.text;
      faults = search rules;
      asks = asks-then inv.asks c.refill.ensures.asks;
    }

pub loop-size-init : goal.loop-size-init
loop-size-init g c = record {
  ahead = Keeps-refl _;
  taken = refills-none c.args.self.now _;
  drained = λ d. d;
  settled = λ s. (refl, refl);
  given = refl;
  number = refl;
  text = refl;
  faults = refl;
  asks = asks-none g.S.Source.takes c.args.self.now c.args.source.now;
}
