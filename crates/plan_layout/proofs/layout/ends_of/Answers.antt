use Rattle.std.proofs.Common.{◌∙◌, ap, map}
use Rattle.std.proofs.lemmas.List.{map_more, take_all}
use Rattle.plan_layout.specs.Layouts.{ends_of}
use Rattle.plan_layout.proofs.layout.ends_of.Goals as goal

pub loop-arc-preserved : goal.loop-arc-preserved
loop-arc-preserved c =
    let more = map_more ends_of c.args.arcs.now c.loop-arc.arc-index c.arc-item.result c.loop-arc-test.true in
    let here = ap ends_of c.arc-item.is in
    cc c.in_ok-push.ensures.items

pub returns : goal.returns
returns c = c.loop-arc.invariant ∙ ap (map ends_of) (take_all c.loop-arc.arc-index c.args.arcs.now c.loop-arc-test.false)
