use Rattle.std.proofs.Common.{◌≡◌, ◌+◌, ◌-◌, ◌<◌, ◌≤◌, ◌⊎◌, ◌∙◌, subst, arith}
use Rattle.route_decompose.specs.Stocks.{AllStay, LedEarlier, Stay, used}
use Rattle.route_decompose.proofs.Staying.{emptied-or-all, fewer-used, led-earlier, stay-still}
use Rattle.route_decompose.proofs.lead.take_stay.Goals as goal

pub loop-left-preserved : goal.loop-left-preserved
loop-left-preserved c =
    let u = c.args.store.now in
    let v = c.loop-left.store in
    let w = c.take_hold.new.self in
    let n = c.args.node in
    let from = c.args.moment in
    let p = c.args.people in
    let t = c.loop-left.left - 1 in
    let h = c.loop-left.invariant in
    let less = c.take_hold.ensures in
    let next : c.loop-left.left ≡ t + 1 = omega (arith, c.loop-left-test.true) in
    let row : n < v.holds.rows = omega (arith, c.requires.node_in, c.requires.stock.hold_rows, h.rows) in
    let moment : t ≤ v.holds.last = omega (arith, h.left_in, c.requires.until_in, c.requires.stock.hold_last, h.last) in
    record {
      later = omega (arith, c.loop-left-test.true);
      left_in = omega (arith, h.left_in);
      model = less.model ∙ h.model;
      rows = less.less.rows ∙ h.rows;
      last = less.less.last ∙ h.last;
      stay = stay-still u v w n from t p less (subst (λ y. Stay v n from y p) next h.stay);
      led = led-earlier u v w n from t p less c.args.until (subst (λ y. LedEarlier u v n y c.args.until p) next h.led);
      fewer = fewer-used u v w n from t p less h.fewer;
      emptied = λ all.
          emptied-or-all u v w n from t p less row moment c.requires.somebody h.fewer
          (subst (λ y. (used v + 1 ≤ used u) ⊎ AllStay v n from y p) next (h.emptied all));
    }
