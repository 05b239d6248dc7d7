-- The way of people is laid step by step; then they are taken off it, the last step first.
use Rattle.std.proofs.Common.{◌≡◌, ℕ, zero, suc, ◌+◌, ◌-◌, ◌<◌, ◌≤◌, ◌⊎◌, inl, inr, true, min, List, [], ◌∷◌, ◌++◌, length, drop, get_or, drop-cons, append_assoc, append-nil, ap, sym, ◌∙◌, arith, subst}
use Rattle.std.proofs.Math.Seq.{drop-length}
use Rattle.evac_law.specs.declared.model.Model.{Model}
use Rattle.evac_law.specs.Building.{arrival, head, is_exit_at, tail}
use Rattle.plan_layout.specs.Tables.{people_at}
use Rattle.route_decompose.specs.declared.route.RouteStep.{RouteStep}
use Rattle.route_decompose.specs.Routes.{LeadsOut}
use Rattle.route_decompose.specs.Stocks.{AllGo, AllStay, CanGo, IsLaid, IsLedOut, IsLessLeft, IsOpen, IsStay, IsStayTaken, MayStay, Stock, moment_before, no_step, node_before, used}
use Rattle.route_decompose.proofs.Going.{arc_of, still_left}
use Rattle.route_decompose.proofs.Leading.{led_by_move, led_in_exit}
use Rattle.route_decompose.proofs.PlaceLemmas.{emptied-left, least-is, less-left}

-- ---- a step more

-- by the steps so far people come from a node at a moment to another, and whatever way leads on from there, leads on from the first
pub record IsOnWay (s : Stock) (n t most : ℕ) (steps : List RouteStep) (here now p : ℕ) : Type 0 where
  pub on : (q : ℕ) (more : List RouteStep) → q ≤ p → CanGo s here now q more → CanGo s n t q (steps ++ more)
  pub all_on : (q : ℕ) (more : List RouteStep) → AllGo s here now q more → AllGo s n t q (steps ++ more)
  pub all : (p ≡ most) ⊎ ((more : List RouteStep) → AllGo s n t p (steps ++ more))

pub way_ends : {s : Stock} {n t most : ℕ} {steps : List RouteStep} {here now p : ℕ} → IsOnWay s n t most steps here now p → 1 ≤ p → p ≤ most
    → is_exit_at s.model here ≡ true → IsLaid s n t most p steps
way_ends {s = s} {n = n} {t = t} {most = most} {steps = steps} {p = p} way some few exit = record {
  somebody = some;
  few = few;
  way = subst (λ z. CanGo s n t p z) (append-nil steps) (way.on p [] (omega arith) exit);
  all = by way.all;
}
  where
    by : (p ≡ most) ⊎ ((more : List RouteStep) → AllGo s n t p (steps ++ more)) → (p ≡ most) ⊎ AllGo s n t p steps
    by (inl e) = inl e
    by (inr all) = inr (subst (λ z. AllGo s n t p z) (append-nil steps) (all []))

module _ {s : Stock} {n t most : ℕ} {steps : List RouteStep} {here now p : ℕ} (way : IsOnWay s n t most steps here now p) (x : RouteStep) {stay : ℕ} (least : ℕ)
    (stays : IsStay s here now p x.moment stay) (arc_in : x.arc < length s.model.arcs) (from : tail s.model x.arc ≡ here)
    (is : least ≡ min stay (people_at s.left x.arc x.moment)) where
  longer : (more : List RouteStep) → steps ++ x ∷ more ≡ (steps ++ x ∷ []) ++ more
  longer more = sym (append_assoc steps (x ∷ []) more)

  all_here : (q : ℕ) (more : List RouteStep) → AllGo s here now q (x ∷ more) → AllGo s n t q ((steps ++ x ∷ []) ++ more)
  all_here q more h = subst (λ z. AllGo s n t q z) (longer more) (way.all_on q (x ∷ more) h)

  all_of : (least ≡ stay) ⊎ (least ≡ people_at s.left x.arc x.moment) → (stay ≡ p) ⊎ AllStay s here now x.moment stay
      → (p ≡ most) ⊎ ((more : List RouteStep) → AllGo s n t p (steps ++ more))
      → (least ≡ most) ⊎ ((more : List RouteStep) → AllGo s n t least ((steps ++ x ∷ []) ++ more))
  all_of (inr e) g h = inr (λ more. all_here least more (inr (inl (sym e))))
  all_of (inl e) (inr (k, l, r, f)) h = inr (λ more. all_here least more (inl (k, l, r, f ∙ sym e)))
  all_of (inl e) (inl f) (inl g) = inl (e ∙ f ∙ g)
  all_of (inl e) (inl f) (inr g) =
      inr (λ more. subst (λ z. AllGo s n t least z) (longer more) (subst (λ q. AllGo s n t q (steps ++ x ∷ more)) (sym (e ∙ f)) (g (x ∷ more))))

  pub way_goes_on : IsOnWay s n t most (steps ++ x ∷ []) (head s.model x.arc) (arrival s.model x.arc x.moment) least
  way_goes_on = record {
    on = λ q more l h.
        subst (λ z. CanGo s n t q z) (longer more)
        (way.on q (x ∷ more) (omega (arith, l, is, stays.few))
        (arc_in, from, stays.later, stays.leadable.moment_in, λ k i j. omega (arith, l, is, stays.stay k i j), omega (arith, l, is), h));
    all_on = λ q more h. all_here q more (inr (inr h));
    all = all_of (least-is stay (people_at s.left x.arc x.moment) least is) stays.all way.all;
  }

-- ---- a step less

-- each step's arc is one of the model
pub step_in : (m : Model) (n t : ℕ) (steps : List RouteStep) (i : ℕ) → LeadsOut m n t steps → i < length steps → (get_or steps i no_step).arc < length m.arcs
step_in m n t [] i h l = absurd (omega (arith, l))
step_in m n t (x ∷ steps) zero h l = h.0
step_in m n t (x ∷ steps) (suc i) h l = step_in m (head m x.arc) (arrival m x.arc x.moment) steps i h.3 (omega (arith, l))

leads_of : (s : Stock) (n t p : ℕ) (steps : List RouteStep) → CanGo s n t p steps → LeadsOut s.model n t steps
leads_of s n t p [] h = h
leads_of s n t p (x ∷ steps) h = (h.0, h.1, h.2, leads_of s (head s.model x.arc) (arrival s.model x.arc x.moment) p steps h.6)

can_go_at : (s : Stock) (n t p : ℕ) (steps : List RouteStep) (i : ℕ) → i ≤ length steps → CanGo s n t p steps
    → CanGo s (node_before s.model n steps i) (moment_before s.model t steps i) p (drop i steps)
can_go_at s n t p steps zero l h = h
can_go_at s n t p [] (suc i) l h = absurd (omega (arith, l))
can_go_at s n t p (x ∷ steps) (suc zero) l h = h.6
can_go_at s n t p (x ∷ steps) (suc (suc i)) l h = can_go_at s (head s.model x.arc) (arrival s.model x.arc x.moment) p steps (suc i) (omega (arith, l)) h.6

-- from a step on people are taken off the arcs and the stays
pub record IsTakenFrom (s v : Stock) (n t p : ℕ) (steps : List RouteStep) (i : ℕ) : Type 0 where
  pub index_in : i ≤ length steps
  pub led : IsLedOut s v (node_before s.model n steps i) (moment_before s.model t steps i) p (drop i steps)
  pub fewer : used v ≤ used s
  pub emptied : AllGo s (node_before s.model n steps i) (moment_before s.model t steps i) p (drop i steps) → used v + 1 ≤ used s

pub taken_begins : (s : Stock) (n t p : ℕ) (steps : List RouteStep) → IsOpen s → CanGo s n t p steps → IsTakenFrom s s n t p steps (length steps)
taken_begins s n t p steps whole way =
    let none : drop (length steps) steps ≡ [] = drop-length steps in
    let here = node_before s.model n steps (length steps) in
    let now = moment_before s.model t steps (length steps) in
    let exit : is_exit_at s.model here ≡ true = subst (λ z. CanGo s here now p z) none (can_go_at s n t p steps (length steps) (omega arith) way) in
    record {
      index_in = omega arith;
      led = subst (λ z. IsLedOut s s here now p z) (sym none) (led_in_exit s here now p whole exit);
      fewer = omega arith;
      emptied = λ h. absurd (subst (λ z. AllGo s here now p z) none h);
    }

module _ {s v : Stock} {n t p : ℕ} {steps : List RouteStep} {i : ℕ} (whole : IsOpen s) (way : CanGo s n t p steps) (done : IsTakenFrom s v n t p steps i) (some_step : 0 < i) where
  abbrev j : ℕ
  j = i - 1

  abbrev x : RouteStep
  x = get_or steps j no_step

  abbrev rest : List RouteStep
  rest = drop (suc j) steps

  is : i ≡ suc j
  is = omega (arith, some_step)

  steps_on : drop j steps ≡ x ∷ rest
  steps_on = drop-cons steps j no_step (omega (arith, done.index_in, is))

  way_at : CanGo s (node_before s.model n steps j) (moment_before s.model t steps j) p (drop j steps)
  way_at = can_go_at s n t p steps j (omega (arith, done.index_in, is)) way

  way_on : CanGo s (node_before s.model n steps j) (moment_before s.model t steps j) p (x ∷ rest)
  way_on = subst (λ z. CanGo s (node_before s.model n steps j) (moment_before s.model t steps j) p z) steps_on way_at

  led_on : IsLedOut s v (head s.model x.arc) (arrival s.model x.arc x.moment) p rest
  led_on = subst (λ k. IsLedOut s v (node_before s.model n steps k) (moment_before s.model t steps k) p (drop k steps)) is done.led

  pub leads_still : LeadsOut v.model n t steps
  leads_still = subst (λ m. LeadsOut m n t steps) (sym led_on.same_model) (leads_of s n t p steps way)

  pub step_arc_in : x.arc < length v.model.arcs
  step_arc_in = subst (λ (m : Model). x.arc < length m.arcs) (sym led_on.same_model) way_on.0

  pub came_in_time : moment_before v.model t steps j ≤ s.model.horizon
  came_in_time = omega (arith, ap (λ m. moment_before m t steps j) led_on.same_model, way_on.2, way_on.3)

  pub step_moment_in : x.moment ≤ v.model.horizon
  step_moment_in = subst (λ (m : Model). x.moment ≤ m.horizon) (sym led_on.same_model) way_on.3

  still : people_at v.left x.arc x.moment ≡ people_at s.left x.arc x.moment
  still = still_left s v x.arc x.moment p rest whole.stock way_on.0 led_on

  pub step_enough : p ≤ people_at v.left x.arc x.moment
  step_enough = omega (arith, still, way_on.5)

  -- they are taken off the step's arc
  module _ (u : Stock) (less : IsLessLeft v u x.arc x.moment p) (some : 1 ≤ p) (here from : ℕ) (node : here ≡ node_before v.model n steps j)
      (moment : from ≡ moment_before v.model t steps j) where
    same_here : node_before s.model n steps j ≡ here
    same_here = ap (λ m. node_before m n steps j) (sym led_on.same_model) ∙ sym node

    same_from : moment_before s.model t steps j ≡ from
    same_from = ap (λ m. moment_before m t steps j) (sym led_on.same_model) ∙ sym moment

    at_step : (P : ℕ → ℕ → List RouteStep → Type 0) → P here from (x ∷ rest) → P (node_before s.model n steps j) (moment_before s.model t steps j) (drop j steps)
    at_step P h = grind (arith, same_here, same_from, steps_on)

    on : CanGo s here from p (x ∷ rest)
    on = at_step (λ a b z. CanGo s a b p z → CanGo s here from p (x ∷ rest)) (λ h. h) way_at

    moved : IsLedOut s u here x.moment p (x ∷ rest)
    moved = subst (λ a. IsLedOut s u a x.moment p (x ∷ rest)) on.1 (led_by_move s v u x.arc x.moment p on.0 rest less whole.stock led_on)

    pub step_may_stay : MayStay u here from x.moment p
    step_may_stay = record {
      stock = moved.stock;
      node_in = subst (λ (m : Model). here < length m.nodes) (sym moved.same_model)
          (subst (λ a. a < length s.model.nodes) on.1 (arc_of s whole x.arc x.moment on.0 (omega (arith, some, on.5))).from_in);
      later = on.2;
      until_in = subst (λ (m : Model). x.moment ≤ m.horizon) (sym moved.same_model) on.3;
      somebody = some;
      stay = λ k l b. omega (arith, moved.earlier_holds here k b, on.4 k l b);
    }

    -- and off the stay before it
    module _ (w : Stock) (taken : IsStayTaken u w here from x.moment p) where
      fewer : used u ≤ used v
      fewer = less-left v u x.arc x.moment p less

      emptied : AllGo s here from p (x ∷ rest) → used w + 1 ≤ used s
      emptied (inl (k, l, b, e)) = omega (arith, done.fewer, fewer, taken.emptied (k, l, b, moved.earlier_holds here k b ∙ e))
      emptied (inr (inl e)) =
          omega (
            arith,
            done.fewer,
            taken.fewer,
            emptied-left v u x.arc x.moment p less (omega (arith, step_arc_in, led_on.stock.left_rows))
                (omega (arith, step_moment_in, led_on.stock.left_last)) some (still ∙ e),
          )
      emptied (inr (inr h)) = grind (arith, is, fewer)

      pub taken_on : IsTakenFrom s w n t p steps j
      taken_on = record {
        index_in = omega (arith, done.index_in);
        led = at_step (λ a b z. IsLedOut s w a b p z) (taken.led s (x ∷ rest) moved);
        fewer = omega (arith, done.fewer, taken.fewer, fewer);
        emptied = at_step (λ a b z. AllGo s a b p z → used w + 1 ≤ used s) emptied;
      }
