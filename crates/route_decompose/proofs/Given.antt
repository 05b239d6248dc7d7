-- Routes that were handed out, and what is left, make up the plan; where nothing is left, the routes cover it.
use Rattle.std.proofs.Common.{◌≡◌, ℕ, ◌+◌, ◌≤◌, List, [], ◌∷◌, ◌++◌, length, length-append, ◌∙◌, subst, arith}
use Rattle.std.specs.List.{All, sum_by}
use Rattle.std.specs.Prelude.{if◌then◌else◌}
use Rattle.std.proofs.lemmas.List.Elements.{All-append, All-cons, All-nil}
use Rattle.std.proofs.lemmas.List.Sums.{sum_by-append, sum_by-cons}
use Rattle.evac_law.specs.declared.model.Model.{Model}
use Rattle.evac_law.specs.declared.plan.Move.{Move}
use Rattle.evac_law.specs.Building.{entry}
use Rattle.evac_law.specs.Plans.{moved}
use Rattle.route_decompose.specs.Routes.{begins, enters, Covers, HandsOut, IsRoute, IsUsedUp, IsAllLeft, RouteView, RoutesView, people_left, places_of, routed, started, waiting_at}

-- the routes so far, and what is left, in so many places fewer
pub record IsGiven (m : Model) (p : List Move) (routes : List RouteView) (w : RoutesView) : Type 0 where
  pub same_model : w.model ≡ m
  pub right : All (IsRoute m) routes
  pub arcs : (a t : ℕ) → routed routes a t + people_left w a t ≡ moved p a t
  pub starts : (n t : ℕ) → started routes n t + waiting_at w n t ≡ entry m n t
  pub few : length routes + w.places ≤ places_of m p

pub used_up_covers : (m : Model) (p : List Move) (routes : List RouteView) (w : RoutesView) → IsGiven m p routes w → IsUsedUp w → Covers m p routes
used_up_covers m p routes w h u = record {
  ways = h.right;
  arcs = λ a t. let e = h.arcs a t in let f = u.none_left a t in omega (arith, e, f);
  starts = λ n t. let e = h.starts n t in let f = u.none_wait n t in omega (arith, e, f);
}

-- nothing is handed out at first
pub none_given : (m : Model) (p : List Move) (w : RoutesView) → IsAllLeft m p w → IsGiven m p [] w
none_given m p w h = record {
  same_model = h.same_model;
  right = All-nil (IsRoute m);
  arcs = λ a t. let e = h.all_left a t in omega (arith, e);
  starts = λ n t. let e = h.all_wait n t in omega (arith, e);
  few = omega (arith, h.all_places);
}

one_behind : {X : Type 0} (f : X → ℕ) (xs : List X) (x : X) → sum_by f (xs ++ x ∷ []) ≡ sum_by f xs + f x
one_behind f xs x = omega (arith, sum_by-append f xs (x ∷ []), sum_by-cons f x [])

-- one more route
pub one_more : (m : Model) (p : List Move) (routes : List RouteView) (w v : RoutesView) → IsGiven m p routes w → HandsOut w v → IsGiven m p (routes ++ v.route ∷ []) v
one_more m p routes w v h g = record {
  same_model = g.same_model ∙ h.same_model;
  right = All-append (IsRoute m) routes (v.route ∷ []) h.right (All-cons (IsRoute m) v.route [] (let P : Model → Type 0 = λ x. IsRoute x v.route in subst P h.same_model g.right) (All-nil (IsRoute m)));
  arcs = λ a t. let here = one_behind (λ r. if enters r.steps a t then r.people else 0) routes v.route in let e = h.arcs a t in let f = g.fewer a t in omega (arith, here, e, f);
  starts = λ n t. let here = one_behind (λ r. if begins r n t then r.people else 0) routes v.route in let e = h.starts n t in let f = g.fewer_wait n t in omega (arith, here, e, f);
  few = omega (arith, h.few, g.fewer_places, length-append routes (v.route ∷ []));
}
