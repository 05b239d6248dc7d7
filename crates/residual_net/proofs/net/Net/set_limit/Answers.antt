use Rattle.std.proofs.Common.{sym, ◌∙◌}
use Rattle.residual_net.proofs.Kept.{kept_changed, kept_of, stored_limit, supplies_set}
use Rattle.residual_net.proofs.net.Net.set_limit.Goals as goal

pub returns-clause-net : goal.returns-clause-net
returns-clause-net c =
    let kept = kept_of c.self.view_is c.self.invariant in
    let set = rw c.self.view_is at c.set_limit.ensures.set in
    (stored_limit kept.stored set c.set_limit.ensures.grid c.requires.place c.requires.open c.requires.supplies).net

pub invariant_of-self : goal.invariant_of-self
invariant_of-self c =
    let kept = kept_of c.self.view_is c.self.invariant in
    let set = rw c.self.view_is at c.set_limit.ensures.set in
    kept_changed kept set.site set.saved (stored_limit kept.stored set c.set_limit.ensures.grid c.requires.place c.requires.open c.requires.supplies)
    (c.supplies_with-supplies.ensures ∙ sym (supplies_set c.args.self.now c.set_limit.new.self c.args.place c.args.people set))
