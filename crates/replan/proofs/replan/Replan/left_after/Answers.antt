use Rattle.std.proofs.Common.{◌∙◌, subst}
use Rattle.edit_session.proofs.Standing.{stands_of}
use Rattle.replan.specs.Kept.{IsLeftAfter}
use Rattle.replan.specs.Replans.{ReplanView}
use Rattle.replan.proofs.Carried.{few_in, is_left_after}
use Rattle.replan.proofs.replan.Replan.left_after.Goals as goal

pub gone_after-requires-clause-stands : goal.gone_after-requires-clause-stands
gone_after-requires-clause-stands c =
    stands_of c.self.inside.session.state c.in_ok-layout.layout (c.in_ok-layout.ensures ∙ c.model.ensures.model) c.model.ensures.solved c.model.ensures.stands

pub gone_after-requires-clause-few : goal.gone_after-requires-clause-few
gone_after-requires-clause-few c =
    let v : ReplanView = record { session = c.self.inside.session; moment = c.self.inside.moment; gone = c.self.inside.gone.items } in
    few_in v c.in_ok-layout.layout c.as_slice.result.now c.self.invariant c.model.ensures.solved.valid (c.in_ok-layout.ensures ∙ c.model.ensures.model)
    c.as_slice.ensures.value

pub rest_of-requires-clause-stands : goal.rest_of-requires-clause-stands
rest_of-requires-clause-stands c =
    stands_of c.self.inside.session.state c.in_ok-layout.layout (c.in_ok-layout.ensures ∙ c.model.ensures.model) c.model.ensures.solved c.model.ensures.stands

pub returns : goal.returns
returns c =
    let v : ReplanView = record { session = c.self.inside.session; moment = c.self.inside.moment; gone = c.self.inside.gone.items } in
    let left = c.in_ok-rest.rest in
    let gone = c.in_ok-gone.gone.items in
    subst (λ (x : ReplanView). IsLeftAfter x c.args.moment left gone) c.self.view_is
    (is_left_after v c.args.moment c.in_ok-layout.layout left c.as_slice.result.now gone c.self.invariant c.model.ensures.solved
    (c.in_ok-layout.ensures ∙ c.model.ensures.model) c.as_slice.ensures.value c.in_ok-rest.ensures c.in_ok-gone.ensures.size c.in_ok-gone.ensures.more)
