-- The whole of a plan as routes see it, and the handing out of one route.
use Rattle.std.proofs.Common.{◌≡◌, ℕ, zero, suc, ◌+◌, ◌<◌, ◌≤◌, ◌⊎◌, inl, inr, true, false, cond, ◌&&◌, eqb, List, [], ◌∷◌, length, get_or, ap, sym, ◌∙◌, arith, subst}
use Rattle.std.specs.List.{All}
use Rattle.std.proofs.lemmas.Bool.{cases_Bool, true≢false}
use Rattle.std.proofs.lemmas.Bool.Decides.{nat_tests}
use Rattle.evac_law.specs.declared.model.Model.{Model}
use Rattle.evac_law.specs.declared.plan.Move.{Move}
use Rattle.evac_law.specs.Building.{entry, is_exit_at}
use Rattle.evac_law.specs.Plans.{above, held, moved, staying}
use Rattle.evac_law.specs.Stands.{Fits, Stand, Stands}
use Rattle.evac_law.proofs.Entries.{none_late, none_past}
use Rattle.evac_law.proofs.WeakDuality.{above_pos}
use Rattle.evac_law.proofs.SumLemmas.{cond_nothing, sum_by-le_all, sum_by-nothing}
use Rattle.route_decompose.specs.declared.route.RouteStep.{RouteStep}
use Rattle.route_decompose.specs.Routes.{HandsOut, IsAllLeft, LeadsOut, RouteView, enters, places_of}
use Rattle.plan_layout.specs.Tables.{PeopleTable, people_at}
use Rattle.route_decompose.specs.Places.{IsLess}
use Rattle.route_decompose.specs.Stocks.{Empties, IsEmpty, IsLedOut, IsOpen, IsRoutes, IsStock, IsStockOf, Stock, TrailView, before, used}
use Rattle.route_decompose.proofs.Balance.{coming_all_none, going_none, wait_step}
use Rattle.route_decompose.proofs.Begin.{whole_of}
use Rattle.route_decompose.proofs.Leading.{closing_less, led_closing, stock_on}
use Rattle.route_decompose.proofs.PlaceLemmas.{empties-waiting, places-same}
use Rattle.tables.proofs.TableLemmas.{item_at-past_last, item_at-past_rows}

-- ---- nobody

pub empty_is_open : (s : Stock) → IsStock s → IsEmpty s → IsOpen s
empty_is_open s stock e = record {
  stock = stock;
  balanced = λ n t l f k. omega (arith, none_before n t, coming_all_none s n t e.0, going_none s n t (λ a h g. e.0 a t), e.1 n t, cond_nothing (eqb 0 n && eqb 0 t));
  closing = record {
    none_stay = λ n l f. e.1 n s.model.horizon;
    in_time = λ a t l some. absurd (omega (arith, e.0 a t, some));
    from_inside = λ n t l some. absurd (omega (arith, e.2 n t, some));
  };
}
  where
    none_before : (n t : ℕ) → before s n t ≡ 0
    none_before n zero = omega (arith, e.2 n 0)
    none_before n (suc t) = omega (arith, e.1 n t, e.2 n (suc t))

-- ---- the whole of a plan

none_there : (va a vm t w : ℕ) → ((va ≡ a → vm ≡ t → ⊥)) → cond (eqb va a && eqb vm t) w 0 ≤ 0
none_there va a vm t w e = grind (arith, nat_tests)

pub moved_none : (p : List Move) (arcs horizon a t : ℕ) → All (λ (v : Move). (v.arc < arcs) × (v.moment ≤ horizon)) p
    → (arcs ≤ a) ⊎ (horizon < t) → moved p a t ≡ 0
unfolding moved
moved_none p arcs horizon a t h past =
    let le = sum_by-le_all (λ (v : Move). cond (eqb v.arc a && eqb v.moment t) v.people 0) (λ _. 0) p
    (λ i d l. let v = get_or p i d in none_there v.arc a v.moment t v.people (other past (h i d l))) in
    omega (arith, le, sum_by-nothing p)
  where
    other : {x y : ℕ} → (arcs ≤ a) ⊎ (horizon < t) → (x < arcs) × (y ≤ horizon) → x ≡ a → y ≡ t → ⊥
    other (inl e) b c d = omega (arith, e, b.0, c)
    other (inr e) b c d = omega (arith, e, b.1, d)

module _ (m : Model) (f : Stand) (s : Stock) (stands : Stands m f) (same : s.model ≡ m) (stock : IsStock s) (of : IsStockOf f s) where
  abbrev model : Model
  model = s.model

  stands_on : Stands model f
  stands_on = subst (λ x. Stands x f) (sym same) stands

  abbrev fits : Fits model f
  fits = stands_on.fits

  all_left : (a t : ℕ) → people_at s.left a t ≡ moved f.plan a t
  all_left a t =
      let none = moved_none f.plan f.arcs f.horizon a t fits.ordered.in_range in
      let past : f.arcs ≤ a → moved f.plan a t ≡ 0 = λ l. none (inl l) in
      let late : f.horizon < t → moved f.plan a t ≡ 0 = λ l. none (inr l) in
      grind (arith, item_at-past_rows 0 s.left a t, item_at-past_last 0 s.left a t, past, late, of.moves a t, stock.left_rows, stock.left_last, fits.arcs_same, fits.horizon_same)

  all_wait : (n t : ℕ) → people_at s.waiting n t ≡ entry model n t
  all_wait n t = grind (arith, item_at-past_rows, item_at-past_last, none_past, none_late)

  all_stay : (n t : ℕ) → n < length model.nodes → t ≤ model.horizon → people_at s.holds n t ≡ f.contents n t
  all_stay n t l k = of.stays n t (omega (arith, l, stock.hold_rows)) (omega (arith, k, stock.hold_last))

  contents_are : (n t : ℕ) → n < length model.nodes → t ≤ model.horizon → f.contents n t ≡ staying model f.plan n t
  contents_are n t l k = split (cases_Bool (is_exit_at model n))
    where
      l' : n < f.nodes
      l' = omega (arith, l, fits.nodes_same)

      k' : t ≤ f.horizon
      k' = omega (arith, k, fits.horizon_same)

      split : (is_exit_at model n ≡ true) ⊎ (is_exit_at model n ≡ false) → f.contents n t ≡ staying model f.plan n t
      split (inl e) = fits.exits_hold_none n t l' k' e ∙ sym (ap (λ b. cond b 0 (above (held model f.plan n t) 0)) e)
      split (inr e) = grind (arith, above_pos, l', k')

  all_places : used s ≡ places_of model f.plan
  all_places = grind (arith, places-same, all_left, all_stay, contents_are, all_wait)

  pub opens : IsOpen s
  opens = whole_of f s (record { stands = stands_on; moves = all_left; stays = all_stay; starts = all_wait }) stock

  pub whole : (r : RouteView) → IsAllLeft m f.plan (record { model = s.model; left = s.left; waiting = s.waiting; places = used s; route = r })
  whole r = record {
    same_model = same;
    all_left = all_left;
    all_wait = λ n t. all_wait n t ∙ ap (λ (x : Model). entry x n t) same;
    all_places = all_places ∙ ap (λ (x : Model). places_of x f.plan) same;
  }

-- ---- one route

some_step : (m : Model) (n t : ℕ) (steps : List RouteStep) → LeadsOut m n t steps → is_exit_at m n ≡ false → 1 ≤ length steps
some_step m n t [] leads e = absurd (true≢false (sym leads ∙ e))
some_step m n t (x ∷ xs) leads e = omega arith

module _ {s z v : Stock} (w : Stock) {n k p most : ℕ} {t : TrailView} (u : TrailView) (unchanged : z ≡ s) (before : IsRoutes s t) (l : n < length s.model.nodes)
    (some : 0 < people_at s.waiting n k) (led_on : IsLedOut z v n k p u.steps) (same_room : u.room ≡ t.room) (one : 1 ≤ p)
    (all : most ≡ people_at z.waiting n k) (empties : Empties z v p most)
    (same : w.model ≡ v.model) (left : w.left ≡ v.left) (holds : w.holds ≡ v.holds) (less : IsLess v.waiting w.waiting n k p) where
  led : IsLedOut s v n k p u.steps
  led = subst (λ x. IsLedOut x v n k p u.steps) unchanged led_on

  emptied : Empties s v p (people_at s.waiting n k)
  emptied = subst (λ (x : Stock). Empties x v p (people_at x.waiting n k)) unchanged (subst (λ x. Empties z v p x) all empties)

  in_time : k ≤ s.model.horizon
  in_time = grind (arith, item_at-past_last 0 s.waiting n k, some, before.left.stock.wait_last)

  inside : is_exit_at s.model n ≡ false
  inside = before.left.closing.from_inside n k l some

  fewer_wait : (i j : ℕ) → people_at w.waiting i j + cond (eqb n i && eqb k j) p 0 ≡ people_at s.waiting i j
  fewer_wait i j = less.cells i j ∙ ap (λ (c : PeopleTable). people_at c i j) led.same_waiting

  fewer_places : used w + 1 ≤ used s
  fewer_places =
      let nodes : length v.model.nodes ≡ length s.model.nodes = ap (λ (x : Model). length x.nodes) led.same_model in
      let horizon : v.model.horizon ≡ s.model.horizon = ap (λ (x : Model). x.horizon) led.same_model in
      let stock = led.stock in
      empties-waiting s v w n k p (people_at s.waiting n k) emptied less left holds (omega (arith, l, stock.wait_rows, nodes))
      (omega (arith, in_time, stock.wait_last, horizon)) one (ap (λ (c : PeopleTable). people_at c n k) led.same_waiting)

  pub hands_out : (r : RouteView) → HandsOut (record { model = s.model; left = s.left; waiting = s.waiting; places = used s; route = r })
      (record { model = w.model; left = w.left; waiting = w.waiting; places = used w; route = record { people = p; start = n; entered = k; steps = u.steps } })
  hands_out r = record {
    same_model = same ∙ led.same_model;
    right = record { somebody = one; some_step = some_step s.model n k u.steps led.leads inside; leads_out = led.leads };
    fewer = λ a j. ap (λ (c : PeopleTable). people_at c a j + cond (enters u.steps a j) p 0) left ∙ led.left a j;
    fewer_wait = fewer_wait;
    fewer_places = fewer_places;
  }

  pub routes_on : IsRoutes w u
  routes_on =
      let stock = stock_on v w same (ap (λ (c : PeopleTable). c.rows) left) (ap (λ (c : PeopleTable). c.last) left) (ap (λ (c : PeopleTable). c.rows) holds)
      (ap (λ (c : PeopleTable). c.last) holds) less.rows less.last led.stock in
      let closing = led_closing s v n k p u.steps led before.left.closing in
      let horizon : w.model.horizon ≡ s.model.horizon = ap (λ (x : Model). x.horizon) (same ∙ led.same_model) in
      record {
        left = record {
          stock = stock;
          balanced = wait_step v w n k p same left holds less led.balanced;
          closing = closing_less v w same (λ a j. omega (arith, ap (λ (c : PeopleTable). people_at c a j) left)) (λ i j. omega (arith, ap (λ (c : PeopleTable). people_at c i j) holds))
              (λ i j. omega (arith, less.cells i j)) closing;
        };
        room = omega (arith, before.room, same_room, horizon);
      }
