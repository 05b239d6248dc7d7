use Rattle.std.proofs.Common.{◌≡◌, ◌+◌, ℕ, ap, subst, arith, rules}
use Rattle.residual_net.specs.Network.{Network}
use Rattle.residual_net.specs.OfModel.{last_move, plan_of}
use Rattle.flow_repair.specs.Opened.{IsLeastOpened}
use Rattle.flow_repair.specs.Repairs.{IsReshaped, IsStandingBelow, IsTakenOff}
use Rattle.flow_repair.proofs.Whole.{between_now, closed_stays, edit_now, few_over, now_of, valid_now}
use Rattle.flow_repair.proofs.repair.reshape.Goals as goal

pub fit_edit-requires-clause-fittable : goal.fit_edit-requires-clause-fittable
fit_edit-requires-clause-fittable g c = record {
  valid = valid_now c.requires.edited;
  between = between_now c.requires.edited;
  within = c.requires.within;
  cancellable = record { net = c.last_arrival-first.ensures.net; labels = c.requires.labels; room = c.requires.room; few = omega (arith, c.last_arrival-first.ensures.net.few_sent) };
}

pub fit_edit-requires-clause-in_range : goal.fit_edit-requires-clause-in_range
fit_edit-requires-clause-in_range g c = edit_now c.requires.edited

-- the net at the end is that of the repair
pub returns-clause-net : goal.returns-clause-net
returns-clause-net g c =
    let w = c.args.net.now in
    let v = c.fit_edit.new.self in
    let done = c.fit_edit.ensures.goes_on in
    let net = done.same.same_net in
    let there : IsReshaped c.args.model.now w v.net.now = record {
      site = done.refitted.site;
      of = now_of c.requires.edited done.refitted;
      within = c.fit_edit.ensures.within;
      net = done.net;
      saved = done.refitted.saved;
    } in
    subst (λ (u : Network). IsReshaped c.args.model.now w u) (search rules) there

pub returns-clause-taken : goal.returns-clause-taken
returns-clause-taken g c =
    let w = c.args.net.now in
    let v = c.fit_edit.new.self in
    let done = c.fit_edit.ensures.goes_on.refitted in
    let net = c.fit_edit.ensures.goes_on.same.same_net in
    let there : IsTakenOff c.args.model.now w v.net.now v.done.cancelled = record {
      few = λ m valid of.
          let n = c.args.model.now in
          let between = between_now c.requires.edited in
          let over = few_over m n w valid c.last_arrival-first.ensures.net of c.requires.within c.requires.sent between.of_model in
          omega (arith, done.bounded, over);
      flows = done.flows;
      exact = omega (arith, done.sent);
      arrivals = λ k. omega (arith, done.arrivals k);
      idle = done.idle;
    } in
    subst (λ (u : Network). IsTakenOff c.args.model.now w u v.done.cancelled) (search rules) there

pub returns-clause-labels : goal.returns-clause-labels
returns-clause-labels g c =
    let l = c.args.labels.now in
    let w = c.args.net.now in
    let v = c.fit_edit.new.self in
    let done = c.fit_edit.ensures.goes_on.refitted in
    let net = c.fit_edit.ensures.goes_on.same.same_net in
    let first : c.last_arrival-first.result + 1 ≡ last_move w.site (plan_of w) + 1 = ap (λ z. z + 1) c.last_arrival-first.ensures.last in
    let least = subst (λ (z : ℕ). IsLeastOpened l w v.net.now z v.done.least_label) first done.least in
    let there : IsStandingBelow l w v.net.now v.done.least_label = record {
      least = least;
      closed = closed_stays done.site done.flows least c.requires.closed;
    } in
    subst (λ (u : Network). IsStandingBelow l w u v.done.least_label) (search rules) there
