-- The laws of routes.
use Rattle.std.specs.Prelude.{◌≡◌, ◌≤◌, List, [], ◌∷◌, length}
use Rattle.evac_law.specs.declared.model.Model.{Model}
use Rattle.evac_law.specs.declared.plan.Move.{Move}
use Rattle.route_decompose.specs.Routes.{Covers, HandsOut, IsAllLeft, IsUsedUp, RouteView, RoutesView, places_of}

-- these routes are handed out, one after another
unfoldable pub HandsOutAll : RoutesView → List RouteView → RoutesView → Type 0
HandsOutAll w [] v = v ≡ w
HandsOutAll w (r ∷ routes) v = (u : RoutesView) × HandsOut w u × (u.route ≡ r) × HandsOutAll u routes v

-- no more routes are handed out than there are places that the plan uses
abbrev pub RoutesAreFew : Type 0
RoutesAreFew =
    (m : Model) (p : List Move) (routes : List RouteView) (w v : RoutesView) → IsAllLeft m p w → HandsOutAll w routes v → length routes ≤ places_of m p

-- routes that are handed out until nothing is left cover the plan
abbrev pub RoutesCover : Type 0
RoutesCover =
    (m : Model) (p : List Move) (routes : List RouteView) (w v : RoutesView) → IsAllLeft m p w → HandsOutAll w routes v → IsUsedUp v → Covers m p routes
