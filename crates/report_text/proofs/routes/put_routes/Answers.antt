use Rattle.std.proofs.Common.{◌≡◌, ◌∙◌, ◌++◌, [], ◌∷◌, ap, append_assoc, append-nil, arith, codes, refl, sym}
use Rattle.std.specs.List.{flat_map}
use Rattle.line_io.proofs.WriterLemmas.{writes_is, writes_then}
use Rattle.route_decompose.proofs.Given.{none_given, one_more, used_up_covers}
use Rattle.report_text.specs.ReportText.{number_line, route_lines, routes_text}
use Rattle.report_text.proofs.Given.{fewer_waiting}
use Rattle.report_text.proofs.Parts.{parts-one}
use Rattle.report_text.proofs.routes.put_routes.Goals as goal

pub loop-writer-init : goal.loop-writer-init
loop-writer-init g c =
    let head = number_line (codes "routes") c.args.index in (
      [],
      none_given c.args.model.now (g.F.Standing.stand c.args.standing.now).plan c.begin.new.self c.begin.ensures,
      writes_is (ap (number_line (codes "routes")) c.from.ensures ∙ sym (append-nil head)) c.put_number.ensures,
    )

pub loop-writer-preserved : goal.loop-writer-preserved
loop-writer-preserved g c =
    let m = c.args.model.now in
    let p = (g.F.Standing.stand c.args.standing.now).plan in
    let h = c.loop-writer.invariant in
    let w = c.loop-writer.routes in
    let v = c.next.new.self in
    let head = number_line (codes "routes") c.args.index in
    let one = route_lines m v.route in
    let line : head ++ flat_map (route_lines m) h.0 ++ route_lines m c.route.result ≡ head ++ flat_map (route_lines m) (h.0 ++ v.route ∷ []) =
    ap (λ r. head ++ flat_map (route_lines m) h.0 ++ route_lines m r) c.route.ensures
    ∙ append_assoc head (flat_map (route_lines m) h.0) one
    ∙ ap (λ l. head ++ l) (sym (parts-one (route_lines m) h.0 v.route)) in (
      h.0 ++ v.route ∷ [],
      one_more m p h.0 w v h.1 (c.next.ensures.route c.loop-writer-test.true),
      writes_is line (writes_then h.2 c.put_route.ensures),
    )

pub loop-writer-smaller : goal.loop-writer-smaller
loop-writer-smaller g c = grind (arith, fewer_waiting)

pub put_route-requires-clause-route : goal.put_route-requires-clause-route
put_route-requires-clause-route g c = grind arith

pub returns-clause-text : goal.returns-clause-text
unfolding routes_text
returns-clause-text g c =
    let m = c.args.model.now in
    let p = (g.F.Standing.stand c.args.standing.now).plan in
    let h = c.loop-writer.invariant in (
      routes_text c.args.index m h.0,
      record { routes = h.0; cover = used_up_covers m p h.0 c.loop-writer.routes h.1 (c.next.ensures.none c.loop-writer-test.false); few = omega (arith, h.1.few); says = refl },
      writes_then h.2 c.put_end.ensures,
    )

pub returns-clause-model : goal.returns-clause-model
returns-clause-model g c = grind arith
