-- Over all cards each number at a node is met once, so the cards cover the plan.
use Rattle.std.proofs.Common.{◌≡◌, ℕ, zero, suc, ◌+◌, ◌-◌, ◌<◌, ◌≤◌, ◌⊎◌, inl, inr, true, false, cond, ◌&&◌, eqb, leb, ltb, List, [], ◌∷◌, length, get_or, map, refl, ap, sym, ◌∙◌, arith, subst}
use Rattle.std.specs.List.{All, sum_by}
use Rattle.std.proofs.lemmas.Bool.{and_parts, and_from, both_ways, cases_lt, eqb-true, eq-eqb, le-leb, leb-true, ltb-true, lt-ltb}
use Rattle.std.proofs.lemmas.List.Elements.{All-from_get_or, All-map}
use Rattle.std.proofs.lemmas.List.Sums.{sum_by-cons}
use Rattle.evac_law.specs.declared.model.Model.{Model}
use Rattle.evac_law.specs.declared.plan.Move.{Move}
use Rattle.evac_law.specs.Building.{entered_by, entry, head, is_exit_at, people, tail}
use Rattle.evac_law.specs.Plans.{came, moved}
use Rattle.evac_law.specs.Sums.{below, places}
use Rattle.evac_law.proofs.Entries.{entered_all}
use Rattle.evac_law.proofs.SumLemmas.{All-below, pair_same, same_pair, sum_below-pick, sum_by-exchange, sum_by-nothing, sum_by-same_all, sum_places}
use Rattle.evac_law.proofs.ValidLemmas.{arc_is}
use Rattle.route_decompose.specs.declared.route.RouteStep.{RouteStep}
use Rattle.route_decompose.specs.Routes.{IsRoute, RouteView, begins, enters, routed, started}
use Rattle.cards.specs.Cards.{CardView, IsDeal, as_route}
use Rattle.cards.specs.Laws.{IsEvacuation}
use Rattle.cards.specs.Numbers.{IsCountedAt, AreCards, FollowsNumbers, IsCardOf, dealt_before, entrants_before, leavers_before, comers_before}
use Rattle.cards.proofs.Entrants.{IsOneOf, entry_by, entry_in, entry_inside, one_entrant, within_all}
use Rattle.cards.proofs.Hits.{entered, first_hit, hits, hits_are, later_back, later_hits, later_none, unused, uses, uses_are}
use Rattle.cards.proofs.Moments.{has_moment}
use Rattle.cards.proofs.Numbers.{ComesBy, Enters, Leaves, apart, enters_then, has_come, leaves_at, one_entry}
use Rattle.cards.proofs.Ones.{all_between, none_count, one_if, ones, same_count}
use Rattle.cards.proofs.Ways.{arc_of, enters_are, leads, moment_of, tail_few}

sum_by-map : {X Y : Type 0} (f : Y → ℕ) (g : X → Y) (xs : List X) → sum_by f (map g xs) ≡ sum_by (λ x. f (g x)) xs
sum_by-map f g [] = refl
sum_by-map f g (x ∷ xs) = omega (arith, sum_by-cons f (g x) (map g xs), sum_by-cons (λ x. f (g x)) x xs, sum_by-map f g xs)

abbrev no_card : CardView
no_card = record { start = 0; entered = 0; steps = [] }

module _ (m : Model) (p : List Move) (cards : List CardView) (h : IsEvacuation m p) (count : length cards ≡ people m) (are : AreCards m p cards) where
  abbrev arcs : All (λ (v : Move). v.arc < length m.arcs) p
  arcs = h.plan.feasible.arcs

  abbrev pub card : ℕ → CardView
  card k = get_or cards k no_card

  -- the number with which a card begins at its start
  abbrev pub number : ℕ → ℕ
  number k = entrants_before m p (card k).start (card k).entered + (k - dealt_before m (card k).start (card k).entered)

  pub is_card : (k : ℕ) → k < length cards → IsCardOf m p k (card k)
  is_card k l = are k no_card l

  pub entrant : (k : ℕ) → k < length cards → IsOneOf m (card k).start (card k).entered k
  entrant k l = let c = is_card k l in record { moment_in = c.moment_in; not_before = c.not_before; one_of = c.one_of }

  pub enters_as : (k : ℕ) → k < length cards → Enters m p arcs (card k).start (card k).entered (number k)
  enters_as k l = grind (arith, is_card)

  start_inside : (k : ℕ) → k < length cards → is_exit_at m (card k).start ≡ false
  start_inside k l = grind (arith, is_card, entry_inside)

  -- ---- each number is met once

  abbrev hits_of : ℕ → ℕ → ℕ → ℕ
  hits_of x i k = hits m p arcs x i (card k).start (number k) (card k).steps

  abbrev all_hits : ℕ → ℕ → ℕ
  all_hits x i = sum_by (hits_of x i) (places cards)

  first_is : (x i n j : ℕ) (steps : List RouteStep) → is_exit_at m n ≡ false → FollowsNumbers m p n j steps
      → first_hit m p arcs x i n j steps ≡ one_if (eqb n x && eqb j i)
  first_is x i n j [] e f = absurd (both_ways (is_exit_at m n) e f)
  first_is x i n j (s ∷ steps) e f = refl

  hits_split : (x i k : ℕ) → k < length cards
      → hits_of x i k ≡ one_if (eqb (card k).start x && eqb (number k) i) + later_hits m p arcs x i (card k).start (number k) (card k).steps
  hits_split x i k l = grind (arith, hits_are, first_is, start_inside, is_card)

  -- who comes by an arc is met as often as where the arc was entered
  met_before : (x i s : ℕ) → is_exit_at m x ≡ false → (b : ComesBy m p arcs x s i) → (k : ℕ) → k < length cards
      → hits_of x i k ≡ hits_of (tail m b.arc) (leavers_before m p b.arc b.moment + (i - comers_before m p b.arc s)) k
  met_before x i s e b k l =
      let a = b.arc in
      let j = leavers_before m p a b.moment + (i - comers_before m p a s) in
      let back = entered m p arcs a b.moment s i b.arrives b.comes in
      let inside : is_exit_at m (head m a) ≡ false = subst (λ (y : ℕ). is_exit_at m y ≡ false) (sym b.to) e in
      let later = later_back m p arcs a b.moment s i j inside back b.comes (card k).start (number k) (card k).steps (is_card k l).steps in
      let same : later_hits m p arcs (head m a) i (card k).start (number k) (card k).steps ≡ later_hits m p arcs x i (card k).start (number k) (card k).steps =
      ap (λ y. later_hits m p arcs y i (card k).start (number k) (card k).steps) b.to in
      let none = none_count (eqb (card k).start x && eqb (number k) i)
      (λ z. let y = same_pair (card k).start x (number k) i z in
      apart m p arcs a (card k).start s (card k).entered i (b.to ∙ sym y.0) b.comes
      (subst (λ (w : ℕ). Enters m p arcs (card k).start (card k).entered w) y.1 (enters_as k l))) in
      omega (arith, hits_split x i k l, none, later, same)

  -- who comes from nowhere is met on the own card alone
  met_first : (x s i k : ℕ) → s ≤ m.horizon → Enters m p arcs x s i → k < length cards
      → hits_of x i k ≡ one_if (eqb (dealt_before m x s + (i - entrants_before m p x s)) k)
  met_first x s i k in_time enters l =
      let none = later_none m p arcs x s i enters (card k).start (number k) (card k).steps (is_card k l).steps in
      omega (arith, hits_split x i k l, none, same_count _ _ there here)
    where
      own : ℕ
      own = dealt_before m x s + (i - entrants_before m p x s)

      there : (eqb (card k).start x && eqb (number k) i) ≡ true → eqb (dealt_before m x s + (i - entrants_before m p x s)) k ≡ true
      there z =
          let y = same_pair (card k).start x (number k) i z in
          let mine : Enters m p arcs x (card k).entered i =
          subst (λ (w : ℕ). Enters m p arcs x (card k).entered w) y.1 (subst (λ (v : ℕ). Enters m p arcs v (card k).entered (number k)) y.0 (enters_as k l)) in
          let moments : (card k).entered ≡ s = one_entry m p arcs x (card k).entered s i mine enters in
          eq-eqb (dealt_before m x s + (i - entrants_before m p x s)) k (grind (arith, y.0, y.1, moments, (is_card k l).not_before))

      here : eqb (dealt_before m x s + (i - entrants_before m p x s)) k ≡ true → (eqb (card k).start x && eqb (number k) i) ≡ true
      here z =
          let same = eqb-true (dealt_before m x s + (i - entrants_before m p x s)) k z in
          let one = one_entrant m (card k).start (card k).entered x s k (entrant k l)
          (record { moment_in = in_time; not_before = omega (arith, same); one_of = omega (arith, same) }) in
          pair_same (card k).start x (number k) i one.0 (grind (arith, same, one.0, one.1, enters.from))

  all_are : length cards ≡ entered_by m m.horizon
  all_are = count ∙ sym (entered_all m h.valid)

  -- each number that came before a moment is met once
  abbrev AreMetBefore : ℕ → Type 0
  AreMetBefore s = (x i u : ℕ) → u < s → is_exit_at m x ≡ false → u ≤ m.horizon → IsCountedAt (came m p x) i u → all_hits x i ≡ 1

  met_by_arc : (x i s : ℕ) → AreMetBefore s → is_exit_at m x ≡ false → s ≤ m.horizon → ComesBy m p arcs x s i → all_hits x i ≡ 1
  met_by_arc x i s earlier e in_time b =
      let a = b.arc in
      let t = b.moment in
      let j = leavers_before m p a t + (i - comers_before m p a s) in
      let back = entered m p arcs a t s i b.arrives b.comes in
      let arc = arc_is m a h.valid b.comes.arc_in in
      let less : j < came m p (tail m a) t =
      omega (arith, (leaves_at m p arcs a t j back.leaves).by_then, tail_few m p h a t j back.leaves) in
      let there = has_moment (came m p (tail m a)) j t less in
      sum_by-same_all (hits_of x i) (hits_of (tail m a) j) (places cards) (All-below _ (length cards) (met_before x i s e b))
      ∙ earlier (tail m a) j there.moment (omega arith) arc.from_no_exit (omega (arith, in_time)) there.at

  met_from_nowhere : (x i s : ℕ) → s ≤ m.horizon → Enters m p arcs x s i → all_hits x i ≡ 1
  met_from_nowhere x i s in_time n =
      let own = dealt_before m x s + (i - entrants_before m p x s) in
      let some : 0 < entry m x s = omega arith in
      let less : own < length cards = omega (arith, all_are, within_all m x s (entry_in m x s h.valid some) in_time) in
      sum_by-same_all (hits_of x i) (λ k. one_if (eqb own k)) (places cards) (All-below _ (length cards) (λ k b. met_first x s i k in_time n b))
      ∙ sum_below-pick (λ _. 1) (length cards) own
      ∙ ap one_if (lt-ltb own (length cards) less)

  met_at : (x i s : ℕ) → AreMetBefore s → is_exit_at m x ≡ false → s ≤ m.horizon → IsCountedAt (came m p x) i s → all_hits x i ≡ 1
  met_at x i s earlier e in_time at = split (has_come m p arcs x s i at)
    where
      split : ComesBy m p arcs x s i ⊎ Enters m p arcs x s i → all_hits x i ≡ 1
      split (inl b) = met_by_arc x i s earlier e in_time b
      split (inr n) = met_from_nowhere x i s in_time n

  met_once : (s : ℕ) → AreMetBefore s
  met_once zero x i u l e in_time at = absurd (omega (arith, l))
  met_once (suc s) x i u l e in_time at =
      met_at x i u (λ y j v b. met_once s y j v (omega (arith, b, l))) e in_time at

  -- ---- the arcs are entered as in the plan

  abbrev uses_of : ℕ → ℕ → ℕ → ℕ
  uses_of a t k = uses m p arcs a t (card k).steps

  leaver_met : (a t o : ℕ) → o < moved p a t → all_hits (tail m a) (leavers_before m p a t + o) ≡ 1
  leaver_met a t o l =
      let some : 0 < moved p a t = omega (arith, l) in
      let a_in = arc_of m p h a t some in
      let i = leavers_before m p a t + o in
      let leaves : Leaves m p arcs a t i = record { arc_in = a_in; from = omega arith; until = omega (arith, l) } in
      let less : i < came m p (tail m a) t = omega (arith, (leaves_at m p arcs a t i leaves).by_then, tail_few m p h a t i leaves) in
      let there = has_moment (came m p (tail m a)) i t less in
      met_once (there.moment + 1) (tail m a) i there.moment (omega arith) (arc_is m a h.valid a_in).from_no_exit (omega (arith, moment_of m p h a t some)) there.at

  all_use : (a t : ℕ) → (0 < moved p a t) ⊎ (moved p a t ≤ 0) → sum_by (uses_of a t) (places cards) ≡ moved p a t
  all_use a t (inl some) =
      let w = moved p a t in
      let i = leavers_before m p a t in
      sum_by-same_all (uses_of a t) (λ k. sum_by (λ o. hits_of (tail m a) (i + o) k) (below w)) (places cards)
      (All-below _ (length cards) (λ k l. uses_are m p arcs a t (arc_of m p h a t some) (card k).start (number k) (card k).steps (is_card k l).steps))
      ∙ sum_by-exchange (λ k o. hits_of (tail m a) (i + o) k) (places cards) (below w)
      ∙ sum_by-same_all (λ o. all_hits (tail m a) (i + o)) (λ _. 1) (below w) (All-below _ w (leaver_met a t))
      ∙ ones w
  all_use a t (inr none) =
      let zero_moved : moved p a t ≡ 0 = omega (arith, none) in
      sum_by-same_all (uses_of a t) (λ _. 0) (places cards)
      (All-below _ (length cards) (λ k l. unused m p arcs a t zero_moved (card k).start (number k) (card k).steps (is_card k l).steps))
      ∙ sum_by-nothing (places cards)
      ∙ sym zero_moved

  -- ---- the deal

  pub came_in : (k : ℕ) → k < length cards → IsCountedAt (came m p (card k).start) (number k) (card k).entered
  came_in k l = enters_then m p arcs (card k).start (card k).entered (number k) (enters_as k l)

  route_of : (k : ℕ) → k < length cards → IsRoute m (as_route (card k))
  route_of k l = record {
    somebody = omega arith;
    some_step = some (card k).start (card k).steps (start_inside k l) (number k) (is_card k l).steps;
    leads_out = leads m p h (card k).start (number k) (card k).entered (card k).steps (is_card k l).steps (came_in k l);
  }
    where
      some : (n : ℕ) (steps : List RouteStep) → is_exit_at m n ≡ false → (i : ℕ) → FollowsNumbers m p n i steps → 1 ≤ length steps
      some n [] e i f = absurd (both_ways (is_exit_at m n) e f)
      some n (s ∷ steps) e i f = omega arith

  over_places : (f : CardView → ℕ) → sum_by f cards ≡ sum_by (λ k. f (card k)) (places cards)
  over_places f = sym (sum_places f cards no_card)

  arcs_covered : (a t : ℕ) → routed (map as_route cards) a t ≡ moved p a t
  arcs_covered a t =
      sum_by-map (λ (r : RouteView). cond (enters r.steps a t) r.people 0) as_route cards
      ∙ over_places (λ c. one_if (enters c.steps a t))
      ∙ sum_by-same_all (λ k. one_if (enters (card k).steps a t)) (uses_of a t) (places cards)
      (All-below _ (length cards) (λ k l. enters_are m p h a t (card k).start (card k).entered (card k).steps (route_of k l).leads_out))
      ∙ all_use a t (cases_lt 0 (moved p a t))

  starts_at : (n t k : ℕ) → 0 < entry m n t → k < length cards
      → one_if (eqb (card k).start n && eqb (card k).entered t) ≡ one_if (leb (dealt_before m n t) k && ltb k (dealt_before m n t + entry m n t))
  starts_at n t k some l = same_count _ _ there here
    where
      there : (eqb (card k).start n && eqb (card k).entered t) ≡ true → (leb (dealt_before m n t) k && ltb k (dealt_before m n t + entry m n t)) ≡ true
      there z =
          let y = same_pair (card k).start n (card k).entered t z in
          let c = is_card k l in
          and_from _ _ (le-leb (dealt_before m n t) k (grind (arith, y.0, y.1, c.not_before)))
          (lt-ltb k (dealt_before m n t + entry m n t) (grind (arith, y.0, y.1, c.one_of)))

      here : (leb (dealt_before m n t) k && ltb k (dealt_before m n t + entry m n t)) ≡ true → (eqb (card k).start n && eqb (card k).entered t) ≡ true
      here z =
          let y = and_parts (leb (dealt_before m n t) k) (ltb k (dealt_before m n t + entry m n t)) z in
          let one = one_entrant m (card k).start (card k).entered n t k (entrant k l)
          (record {
            moment_in = entry_by m n t h.valid some;
            not_before = leb-true (dealt_before m n t) k y.0;
            one_of = ltb-true k (dealt_before m n t + entry m n t) y.1;
          }) in
          pair_same (card k).start n (card k).entered t one.0 one.1

  never_starts : (n t k : ℕ) → entry m n t ≤ 0 → k < length cards → one_if (eqb (card k).start n && eqb (card k).entered t) ≡ 0
  never_starts n t k none l = grind (arith, none_count, same_pair, is_card)

  all_start : (n t : ℕ) → (0 < entry m n t) ⊎ (entry m n t ≤ 0) → sum_by (λ k. one_if (eqb (card k).start n && eqb (card k).entered t)) (places cards) ≡ entry m n t
  all_start n t (inl some) =
      sum_by-same_all (λ k. one_if (eqb (card k).start n && eqb (card k).entered t))
      (λ k. one_if (leb (dealt_before m n t) k && ltb k (dealt_before m n t + entry m n t))) (places cards)
      (All-below _ (length cards) (λ k l. starts_at n t k some l))
      ∙ all_between (dealt_before m n t) (entry m n t) (length cards)
      (omega (arith, all_are, within_all m n t (entry_in m n t h.valid some) (entry_by m n t h.valid some)))
  all_start n t (inr none) =
      let zero_entry : entry m n t ≡ 0 = omega (arith, none) in
      sum_by-same_all (λ k. one_if (eqb (card k).start n && eqb (card k).entered t)) (λ _. 0) (places cards)
      (All-below _ (length cards) (λ k l. never_starts n t k none l))
      ∙ sum_by-nothing (places cards)
      ∙ sym zero_entry

  starts_covered : (n t : ℕ) → started (map as_route cards) n t ≡ entry m n t
  starts_covered n t =
      sum_by-map (λ (r : RouteView). cond (begins r n t) r.people 0) as_route cards
      ∙ over_places (λ c. one_if (eqb c.start n && eqb c.entered t))
      ∙ all_start n t (cases_lt 0 (entry m n t))

  pub deal : IsDeal m p cards
  deal = record {
    ways = All-map (IsRoute m) as_route cards (All-from_get_or (λ c. IsRoute m (as_route c)) cards no_card route_of);
    arcs = arcs_covered;
    starts = starts_covered;
  }
