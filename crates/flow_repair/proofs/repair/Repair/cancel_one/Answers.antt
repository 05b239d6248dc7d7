use Rattle.std.proofs.Common.{◌+◌, List, refl, subst, sym, arith, rules}
use Rattle.residual_net.specs.declared.place.PathStep.{PathStep}
use Rattle.residual_net.specs.Change.{IsCancelled}
use Rattle.flow_repair.proofs.Cancelling.{here, open_path}
use Rattle.flow_repair.proofs.Refitting.{one_cancelled}
use Rattle.flow_repair.proofs.repair.Repair.cancel_one.Goals as goal

pub least_on-least_label-requires-clause-open : goal.least_on-least_label-requires-clause-open
least_on-least_label-requires-clause-open g c =
    let w = c.args.self.now.net.now in
    let v = c.cancel-people.new.self in
    let x = c.cancel-people.result in
    let made = subst (λ (z : List PathStep). IsCancelled w v c.args.place z x) (sym c.steps.ensures) c.cancel-people.ensures.cancelled in
    open_path w v c.args.place c.steps.result.now x made c.requires.cancellable.net

pub returns : goal.returns
returns g c =
    let w = c.args.self.now.net.now in
    let v = c.cancel-people.new.self in
    let x = c.cancel-people.result in
    let made = subst (λ (z : List PathStep). IsCancelled w v c.args.place z x) (sym c.steps.ensures) c.cancel-people.ensures.cancelled in
    let least = c.least_on-least_label.ensures in
    record {
      goes_on = record {
        same = search (rules, c.cancel-people.ensures.room);
        refitted = one_cancelled c.args.self.now.labels.now c.args.self.now.done
            (record { cancelled = c.args.self.now.done.cancelled + x; least_label = c.least_on-least_label.result }) made c.requires.place c.requires.limit refl
            least.first least.all least.one;
        net = c.cancel-people.ensures.net;
        steps = record { counted = omega (arith, c.cancel-people.ensures.ticked); ticked = omega (arith, c.cancel-people.ensures.ticked, made.some) };
      };
      less = omega (arith, here w v c.args.place c.steps.result.now x made, made.some);
    }
