use Rattle.std.proofs.Common.{◌<◌, sym, arith}
use Rattle.evac_law.specs.Limits.{horizon_limit}
use Rattle.plan_layout.specs.Tables.{people_at}
use Rattle.route_decompose.proofs.Going.{stays}
use Rattle.route_decompose.proofs.Staying.{all-longer, stay-longer}
use Rattle.route_decompose.proofs.lead.stay.Goals as goal

pub overflow_add-until : goal.overflow_add-until
unfolding horizon_limit
overflow_add-until c = grind arith

pub hold-held-requires-in-loop-held : goal.hold-held-requires-in-loop-held
hold-held-requires-in-loop-held c = grind (arith, stays)

pub loop-held-preserved : goal.loop-held-preserved
loop-held-preserved c =
    let s = c.args.store.now in
    let n = c.args.node in
    let u = c.loop-held.until in
    let h = c.loop-held.invariant in
    let p = c.loop-held.people in
    let held = c.loop-held.held in
    let least = c.min-people.result in
    let somebody : 0 < people_at s.holds n u = omega (arith, h.here, c.loop-held-test.true) in
    record {
      leadable = stays s n u h.leadable somebody;
      here = c.hold-held-in-loop-held.ensures;
      later = omega (arith, h.later);
      some = omega (arith, c.min-people.ensures, h.some, c.loop-held-test.true);
      most = omega (arith, c.min-people.ensures, h.most);
      stay = stay-longer s n c.args.moment u p held c.args.most least (sym h.here) c.min-people.ensures h.stay;
      all = all-longer s n c.args.moment u p held c.args.most least (sym h.here) c.min-people.ensures h.later h.all;
    }
