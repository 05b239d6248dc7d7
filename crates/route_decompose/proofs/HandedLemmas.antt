-- Routes that are handed out until nothing is left cover the plan, and are no more than its places.
use Rattle.std.proofs.Common.{List, [], ◌∷◌, ◌++◌, subst, append-nil, append_assoc, arith}
use Rattle.evac_law.specs.declared.model.Model.{Model}
use Rattle.evac_law.specs.declared.plan.Move.{Move}
use Rattle.route_decompose.specs.Laws.{HandsOutAll, RoutesAreFew, RoutesCover}
use Rattle.route_decompose.specs.Routes.{RouteView, RoutesView}
use Rattle.route_decompose.proofs.Given.{IsGiven, none_given, one_more, used_up_covers}

given_all : (m : Model) (p : List Move) (given routes : List RouteView) (w v : RoutesView) → IsGiven m p given w → HandsOutAll w routes v
    → IsGiven m p (given ++ routes) v
unfolding HandsOutAll
given_all m p given [] w v h e = grind (arith, append-nil)
given_all m p given (r ∷ routes) w v h g =
    let u = g.0 in
    let P : RouteView → Type 0 = λ x. IsGiven m p (given ++ x ∷ []) u in
    let Q : List RouteView → Type 0 = λ l. IsGiven m p l v in
    subst Q (append_assoc given (r ∷ []) routes) (given_all m p (given ++ r ∷ []) routes u v (subst P g.2 (one_more m p given w u h g.1)) g.3)

pub routes_cover : RoutesCover
routes_cover m p routes w v all h used = used_up_covers m p routes v (given_all m p [] routes w v (none_given m p w all) h) used

pub routes_few : RoutesAreFew
routes_few m p routes w v all h = omega (arith, (given_all m p [] routes w v (none_given m p w all) h).few)
