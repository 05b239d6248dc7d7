-- How people go on from a node at a moment.
use Rattle.std.proofs.Common.{◌≡◌, ℕ, suc, ◌+◌, ◌<◌, ◌≤◌, Bool, false, cond, List, length, ap, arith, add-one}
use Rattle.std.proofs.lemmas.List.Elements.{All-get_or}
use Rattle.evac_law.specs.Building.{IsArc, arc_at, arrival, head, is_exit_at, no_arc}
use Rattle.route_decompose.specs.declared.route.RouteStep.{RouteStep}
use Rattle.plan_layout.specs.Tables.{people_at}
use Rattle.route_decompose.specs.Stocks.{IsLeadable, IsLedOut, IsOpen, IsStock, Stock, before}
use Rattle.route_decompose.proofs.Balance.{coming_some}
use Rattle.route_decompose.proofs.Leading.{not_entered, takes_time}

module _ (s : Stock) (n t : ℕ) (here : IsLeadable s n t) where
  -- whoever stays does so before the horizon
  stays_before : 0 < people_at s.holds n t → t + 1 ≤ s.model.horizon
  stays_before some = grind arith

  pub stays : 0 < people_at s.holds n t → IsLeadable s n (t + 1)
  stays some =
      let next : before s n (t + 1) ≡ people_at s.holds n t + people_at s.waiting n (suc t) = ap (before s n) (add-one t) in
      record { left = here.left; node_in = here.node_in; inside = here.inside; moment_in = stays_before some; someone = omega (arith, next, some) }

-- whoever enters an arc comes to its head in time
module _ (s : Stock) (whole : IsOpen s) (a t : ℕ) (l : a < length s.model.arcs) (some : 0 < people_at s.left a t) where
  pub arc_of : IsArc s.model.nodes (arc_at s.model a)
  arc_of = All-get_or (IsArc s.model.nodes) s.model.arcs a no_arc l whole.stock.valid.arcs

  pub comes : is_exit_at s.model (head s.model a) ≡ false → IsLeadable s (head s.model a) (arrival s.model a t)
  comes inside = grind (arith, coming_some)

-- whoever is led out from the head of an arc doesn't enter it at that moment
not_twice : (x y p : ℕ) (b : Bool) → b ≡ false → x + cond b p 0 ≡ y → x ≡ y
not_twice x y p b e f = grind arith

pub still_left : (s v : Stock) (a t p : ℕ) (steps : List RouteStep) → IsStock s → a < length s.model.arcs
    → IsLedOut s v (head s.model a) (arrival s.model a t) p steps → people_at v.left a t ≡ people_at s.left a t
still_left s v a t p steps stock l led = grind (arith, takes_time, not_twice, not_entered)
