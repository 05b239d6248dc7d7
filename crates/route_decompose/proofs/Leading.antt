-- A route grows from its end to its start.
use Rattle.std.proofs.Common.{◌≡◌, ℕ, ◌+◌, ◌<◌, ◌≤◌, Bool, true, false, cond, ◌&&◌, ◌||◌, eqb, List, [], ◌∷◌, length, refl, ap, sym, ◌∙◌, arith, subst, ◌⊎◌}
use Rattle.std.proofs.lemmas.List.Elements.{All-get_or}
use Rattle.std.proofs.lemmas.Bool.{true≢false}
use Rattle.std.proofs.lemmas.Bool.Decides.{nat_tests}
use Rattle.evac_law.specs.declared.model.Model.{Model}
use Rattle.evac_law.specs.Building.{IsArc, IsValid, arc_at, arrival, head, is_exit_at, no_arc, tail}
use Rattle.evac_law.proofs.SumLemmas.{same_pair}
use Rattle.route_decompose.specs.declared.route.RouteStep.{RouteStep}
use Rattle.route_decompose.specs.Routes.{LeadsOut, enters}
use Rattle.plan_layout.specs.Tables.{PeopleTable, people_at}
use Rattle.route_decompose.specs.Places.{IsLess}
use Rattle.route_decompose.specs.Stocks.{IsBalancedBut, IsClosing, IsLedOut, IsLessHeld, IsLessLeft, IsOpen, IsStock, Stock}
use Rattle.route_decompose.proofs.Balance.{exit_balanced, hold_step, move_step}

-- ---- steps

-- who may leave at a moment may have come earlier
pub leads_earlier : (m : Model) (n t u : ℕ) (steps : List RouteStep) → u ≤ t → LeadsOut m n t steps → LeadsOut m n u steps
leads_earlier m n t u [] l h = h
leads_earlier m n t u (x ∷ xs) l h = (h.0, h.1, omega (arith, l, h.2), h.3)

not_here : (b a t k : ℕ) → k < t → (eqb b a && eqb t k) ≡ false
not_here b a t k l = grind (arith, nat_tests)

joined : (x y : Bool) → x ≡ false → y ≡ false → (x || y) ≡ false
joined x y e f = grind arith

-- no step comes before the moment from which they lead out
pub not_entered : (m : Model) (n t : ℕ) (steps : List RouteStep) (a k : ℕ) → LeadsOut m n t steps → k < t → enters steps a k ≡ false
not_entered m n t [] a k h l = refl
not_entered m n t (x ∷ xs) a k h l =
    joined (eqb x.arc a && eqb x.moment k) (enters xs a k) (not_here x.arc a x.moment k (omega (arith, h.2, l)))
    (not_entered m (head m x.arc) (arrival m x.arc x.moment) xs a k h.3 (omega (arith, h.2, l)))

pub takes_time : (m : Model) (a : ℕ) → IsValid m → a < length m.arcs → 1 ≤ (arc_at m a).travel
takes_time m a valid l = (All-get_or (IsArc m.nodes) m.arcs a no_arc l valid.arcs).travel_fits.0

-- ---- on

pub closing_less : (s v : Stock) → v.model ≡ s.model
    → ((a k : ℕ) → people_at v.left a k ≤ people_at s.left a k) → ((i k : ℕ) → people_at v.holds i k ≤ people_at s.holds i k)
    → ((i k : ℕ) → people_at v.waiting i k ≤ people_at s.waiting i k) → IsClosing s → IsClosing v
closing_less s v same left holds waiting h = grind arith

pub led_closing : (s v : Stock) (n t p : ℕ) (steps : List RouteStep) → IsLedOut s v n t p steps → IsClosing s → IsClosing v
led_closing s v n t p steps h c = closing_less s v h.same_model (λ a k. omega (arith, h.left a k)) h.holds (λ i k. omega (arith, ap (λ (x : PeopleTable). people_at x i k) h.same_waiting)) c

pub stock_on : (s v : Stock) → v.model ≡ s.model → v.left.rows ≡ s.left.rows → v.left.last ≡ s.left.last → v.holds.rows ≡ s.holds.rows → v.holds.last ≡ s.holds.last
    → v.waiting.rows ≡ s.waiting.rows → v.waiting.last ≡ s.waiting.last → IsStock s → IsStock v
stock_on s v same a b c d e f h = grind arith

less_le : (c d : PeopleTable) (n t p : ℕ) → IsLess c d n t p → (i k : ℕ) → people_at d i k ≤ people_at c i k
less_le c d n t p h i k = omega (arith, h.cells i k)

pub other_cell : (x y n t p i k : ℕ) → (k < t ⊎ (i ≡ n → ⊥)) → x + cond (eqb n i && eqb t k) p 0 ≡ y → x ≡ y
other_cell x y n t p i k d e = grind (arith, nat_tests)

-- ---- people who first stay, and then are led out from the next moment on

module _ (s v w : Stock) (n t p : ℕ) (steps : List RouteStep) (led : IsLedOut s v n (t + 1) p steps)
    (kept : IsLessHeld v w n t p) where
  stay_earlier : (i k : ℕ) → k < t → people_at w.holds i k ≡ people_at s.holds i k
  stay_earlier i k l = grind (arith, other_cell)

  pub led_by_hold : IsLedOut s w n t p steps
  led_by_hold = record {
    same_model = kept.model ∙ led.same_model;
    same_waiting = kept.waiting ∙ led.same_waiting;
    leads = leads_earlier s.model n (t + 1) t steps (omega arith) led.leads;
    left = λ a k. let e = ap (λ (c : PeopleTable). people_at c a k) kept.left in omega (arith, e, led.left a k);
    holds = λ i k. omega (arith, less_le v.holds w.holds n t p kept.less i k, led.holds i k);
    earlier_holds = stay_earlier;
    stock = stock_on v w kept.model (ap (λ (c : PeopleTable). c.rows) kept.left) (ap (λ (c : PeopleTable). c.last) kept.left)
        kept.less.rows kept.less.last (ap (λ (c : PeopleTable). c.rows) kept.waiting) (ap (λ (c : PeopleTable). c.last) kept.waiting) led.stock;
    balanced = hold_step v w n t p kept.model kept.left kept.waiting kept.less led.balanced;
  }

-- ---- people who enter an arc

abbrev pub step_of : ℕ → ℕ → RouteStep
step_of a t = record { moment = t; arc = a }

first_or_rest : (x y : Bool) (p l m r : ℕ) → (x ≡ true → y ≡ false) → m + cond x p 0 ≡ l → l + cond y p 0 ≡ r → m + cond (x || y) p 0 ≡ r
first_or_rest true true p l m r d e f = absurd (true≢false (d refl))
first_or_rest true false p l m r d e f = omega (arith, e, f)
first_or_rest false true p l m r d e f = omega (arith, e, f)
first_or_rest false false p l m r d e f = omega (arith, e, f)

module _ (s v w : Stock) (a t p : ℕ) (here : a < length s.model.arcs) (steps : List RouteStep) (kept : IsLessLeft v w a t p) where
  -- and are led out from where it leads
  pub led_by_move : IsStock s → IsLedOut s v (head s.model a) (arrival s.model a t) p steps → IsLedOut s w (tail s.model a) t p (step_of a t ∷ steps)
  led_by_move stock led =
      let m = s.model in
      let time = takes_time m a stock.valid here in
      let heads : head v.model a ≡ head m a = ap (λ (x : Model). head x a) led.same_model in
      let tails : tail v.model a ≡ tail m a = ap (λ (x : Model). tail x a) led.same_model in
      let arrivals : arrival v.model a t ≡ arrival m a t = ap (λ (x : Model). arrival x a t) led.same_model in
      let there : a < length v.model.arcs = subst (λ (x : Model). a < length x.arcs) (sym led.same_model) here in
      let from : IsBalancedBut v (head v.model a) (arrival v.model a t) p =
      subst (λ z. IsBalancedBut v z (arrival v.model a t) p) (sym heads) (subst (λ z. IsBalancedBut v (head m a) z p) (sym arrivals) led.balanced) in
      record {
        same_model = kept.model ∙ led.same_model;
        same_waiting = kept.waiting ∙ led.same_waiting;
        leads = (here, refl, omega arith, led.leads);
        left = λ b k.
            first_or_rest (eqb a b && eqb t k) (enters steps b k) p (people_at v.left b k) (people_at w.left b k) (people_at s.left b k)
            (λ e. not_entered m (head m a) (arrival m a t) steps b k led.leads (omega (arith, (same_pair a b t k e).1, time)))
            (kept.less.cells b k) (led.left b k);
        holds = λ i k. let e = ap (λ (c : PeopleTable). people_at c i k) kept.holds in omega (arith, e, led.holds i k);
        earlier_holds = λ i k l. let e = ap (λ (c : PeopleTable). people_at c i k) kept.holds in e ∙ led.earlier_holds i k (omega (arith, l));
        stock = stock_on v w kept.model kept.less.rows kept.less.last (ap (λ (c : PeopleTable). c.rows) kept.holds)
            (ap (λ (c : PeopleTable). c.last) kept.holds) (ap (λ (c : PeopleTable). c.rows) kept.waiting) (ap (λ (c : PeopleTable). c.last) kept.waiting) led.stock;
        balanced = subst (λ z. IsBalancedBut w z t p) tails (move_step v w a t p kept.model kept.less there kept.holds kept.waiting from);
      }

-- ---- people who are in an exit

pub led_in_exit : (s : Stock) (n t p : ℕ) → IsOpen s → is_exit_at s.model n ≡ true → IsLedOut s s n t p []
led_in_exit s n t p whole exit = grind (arith, exit_balanced)
