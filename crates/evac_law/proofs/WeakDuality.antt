-- No feasible plan has more people out by a moment than a cut is worth there.
use Rattle.std.proofs.Common.{◌≡◌, ℕ, zero, suc, ◌+◌, ◌<◌, ◌≤◌, Bool, true, false, cond, not, ◌&&◌, ◌||◌, eqb, ltb, leb, List, [], ◌∷◌, ◌++◌, length, refl, ap, ap₂, sym, ◌∙◌, arith, add-one, inl, inr, pos, ℤ, ◌≤ℤ◌}
use Rattle.std.specs.List.{sum_by, flat_map, All}
use Rattle.std.proofs.lemmas.List.Sums.{sum_by-append}
use Rattle.std.proofs.lemmas.List.Elements.{All-weaker}
use Rattle.std.proofs.lemmas.Bool.{cases_Bool, eqb-true}
use Rattle.std.proofs.lemmas.Bool.Decides.{nat_tests}
use Rattle.std.proofs.lemmas.Int.{ints}
use Rattle.evac_law.specs.declared.model.Model.{Model}
use Rattle.evac_law.specs.declared.plan.Move.{Move}
use Rattle.evac_law.specs.declared.cut.CutItem.{CutItem}
use Rattle.evac_law.specs.declared.cut.CutItem.TheVariants.{Entry, Hold, Arc}
use Rattle.evac_law.specs.Sums.{below, moments_to, places}
use Rattle.evac_law.specs.Building.{IsValid, is_exit_at, capacity, tail, head, arrival, rate, entry}
use Rattle.evac_law.specs.Cuts.{Cut, leaves_cut, cut_items, entry_items, hold_items, arc_items, number_of, cut_value}
use Rattle.evac_law.specs.Plans.{IsFeasible, moved, came, coming, left, leaving, held, out_by, above}
use Rattle.evac_law.proofs.SumLemmas.{by_suc, by_zero, sum_by-add, sum_by-same, sum_by-nothing, sum_by-le_all, sum_by-exchange, sum_by-flat_map, All-below, sum_below-more, sum_moments-zero, sum_moments-suc, sum2, sum2-le, gather, cond_mono}
use Rattle.evac_law.proofs.ValidLemmas.{arc_is, head_in, tail_in}

-- ---- the value of a cut, as sums

entry_part : (b : Bool) (n p : ℕ) → sum_by number_of (cond b [] (Entry n p ∷ [])) ≡ cond b 0 p
entry_part true n p = refl
entry_part false n p = omega arith

hold_part : (b : Bool) (n t c : ℕ) → sum_by number_of (cond b (Hold n t c ∷ []) []) ≡ cond b c 0
hold_part true n t c = omega arith
hold_part false n t c = refl

arc_part : (b : Bool) (a t r : ℕ) → sum_by number_of (cond b (Arc a t r ∷ []) []) ≡ cond b r 0
arc_part true a t r = omega arith
arc_part false a t r = refl

-- a sum over two nested `flat_map`s
nested : (h : ℕ → ℕ → List CutItem) (f : ℕ → ℕ → ℕ) (is ts : List ℕ) → ((i j : ℕ) → sum_by number_of (h i j) ≡ f i j)
    → sum_by number_of (flat_map (λ i. flat_map (λ j. h i j) ts) is) ≡ sum_by (λ i. sum_by (λ j. f i j) ts) is
nested h f is ts e = grind (arith, sum_by-flat_map, sum_by-same)

pub value_is : (m : Model) (x : Cut) (k : ℕ) → cut_value m x k
    ≡ sum_by (λ n. sum_by (λ t. cond (x n t || eqb (entry m n t) 0) 0 (entry m n t)) (moments_to k)) (places m.nodes)
    + (sum_by (λ n. sum_by (λ t. cond (x n t && not (x n (t + 1))) (capacity m n) 0) (below k)) (places m.nodes)
    + sum_by (λ t. sum_by (λ a. cond (leaves_cut m x k t a) (rate m a t) 0) (places m.arcs)) (moments_to k))
unfolding cut_value cut_items
value_is m x k =
    sum_by-append number_of (entry_items m x k) (hold_items m x k ++ arc_items m x k)
    ∙ ap (λ z. sum_by number_of (entry_items m x k) + z) (sum_by-append number_of (hold_items m x k) (arc_items m x k))
    ∙ ap₂ (λ u v. u + v)
    (nested _ _ (places m.nodes) (moments_to k) (λ n t. entry_part (x n t || eqb (entry m n t) 0) n (entry m n t)))
    (ap₂ (λ u v. u + v)
    (nested _ _ (places m.nodes) (below k) (λ n t. hold_part (x n t && not (x n (t + 1))) n t (capacity m n)))
    (nested _ _ (moments_to k) (places m.arcs) (λ t a. arc_part (leaves_cut m x k t a) a t (rate m a t))))

-- ---- a node from moment to moment

pub left-zero : (m : Model) (q : List Move) (n : ℕ) → left m q n 0 ≡ leaving m q n 0
unfolding left leaving
left-zero m q n = sum_by-same _ _ q (λ v. by_zero (eqb (tail m v.arc) n) v.moment v.people)

pub left-suc : (m : Model) (q : List Move) (n t : ℕ) → left m q n (suc t) ≡ left m q n t + leaving m q n (suc t)
unfolding left leaving
left-suc m q n t =
    sum_by-same _ _ q (λ v. by_suc (eqb (tail m v.arc) n) v.moment t v.people)
    ∙ sum_by-add _ _ q

pub came-zero : (m : Model) (q : List Move) (n : ℕ) → came m q n 0 ≡ entry m n 0 + coming m q n 0
unfolding came coming
came-zero m q n = grind (arith, sum_moments-zero, sum_by-same, by_zero)

pub came-suc : (m : Model) (q : List Move) (n t : ℕ)
    → came m q n (suc t) ≡ came m q n t + (entry m n (suc t) + coming m q n (suc t))
unfolding came coming
came-suc m q n t =
    let old = sum_by (λ v. cond (eqb (head m v.arc) n && leb (arrival m v.arc v.moment) t) v.people 0) q in
    let new = sum_by (λ v. cond (eqb (head m v.arc) n && eqb (arrival m v.arc v.moment) (suc t)) v.people 0) q in
    let arrivals : sum_by (λ v. cond (eqb (head m v.arc) n && leb (arrival m v.arc v.moment) (suc t)) v.people 0) q ≡ old + new =
    sum_by-same _ _ q (λ v. by_suc (eqb (head m v.arc) n) (arrival m v.arc v.moment) t v.people) ∙ sum_by-add _ _ q in
    omega (arith, sum_moments-suc (entry m n) t, arrivals)

-- what is said of a node by moment t: whoever left it outside the cut, and whoever is in it where it stands outside the
-- cut, came into it outside the cut or stayed in it as it left the cut
abbrev Kept : Bool → ℕ → ℕ → ℕ → ℕ → ℕ → Type 0
Kept b spent got kept came left = spent + cond b 0 came ≤ (got + kept) + cond b 0 left

kept_first : (b : Bool) (leaving entry coming spent gotE gotC kept came left : ℕ)
    → spent ≡ cond (not b) leaving 0 → gotE ≡ cond (not b) entry 0 → gotC ≡ cond (not b) coming 0
    → came ≡ entry + coming → left ≡ leaving
    → Kept b spent (gotE + gotC) kept came left
kept_first true l e j s ge gj k c f h1 h2 h3 h4 h5 = omega arith
kept_first false l e j s ge gj k c f h1 h2 h3 h4 h5 = omega arith

kept_next : (b c : Bool) (leaving entry coming cap spent gotE gotC kept came left spent' gotE' gotC' kept' came' left' : ℕ)
    → spent' ≡ spent + cond (not c) leaving 0 → gotE' ≡ gotE + cond (not c) entry 0 → gotC' ≡ gotC + cond (not c) coming 0
    → kept' ≡ kept + cond (b && not c) cap 0 → came' ≡ came + (entry + coming) → left' ≡ left + leaving
    → left ≤ came → came ≤ left + cap
    → Kept b spent (gotE + gotC) kept came left
    → Kept c spent' (gotE' + gotC') kept' came' left'
kept_next true true l e j cap s ge gc k c f s' ge' gc' k' c' f' h1 h2 h3 h4 h5 h6 h7 h8 h9 = omega arith
kept_next true false l e j cap s ge gc k c f s' ge' gc' k' c' f' h1 h2 h3 h4 h5 h6 h7 h8 h9 = omega arith
kept_next false true l e j cap s ge gc k c f s' ge' gc' k' c' f' h1 h2 h3 h4 h5 h6 h7 h8 h9 = omega arith
kept_next false false l e j cap s ge gc k c f s' ge' gc' k' c' f' h1 h2 h3 h4 h5 h6 h7 h8 h9 = omega arith

-- what feasible says of the people in a node, on numbers
pub within : (m : Model) (q : List Move) (n t cap : ℕ) → (pos 0 ≤ℤ held m q n t) × (held m q n t ≤ℤ pos cap)
    → (left m q n t ≤ came m q n t) × (came m q n t ≤ left m q n t + cap)
unfolding held
within m q n t cap h = (omega (arith, ints, h.0), omega (arith, ints, h.1))

pub above_pos : (x : ℕ) (z : ℤ) → pos x ≡ z → above z 0 ≡ x
above_pos x z e = ap (λ y. above y 0) (sym e) ∙ omega arith

module _ (m : Model) (x : Cut) (q : List Move) (n : ℕ) where
  -- what leaves the node, starts in it or comes to it at a moment outside the cut, and its room where it leaves the cut
  abbrev pub spent : ℕ → ℕ
  spent i = cond (not (x n i)) (leaving m q n i) 0

  abbrev pub entered : ℕ → ℕ
  entered i = cond (not (x n i)) (entry m n i) 0

  abbrev pub joined : ℕ → ℕ
  joined i = cond (not (x n i)) (coming m q n i) 0

  abbrev pub stayed : ℕ → ℕ
  stayed i = cond (x n i && not (x n (i + 1))) (capacity m n) 0

  pub stayed-suc : (t : ℕ) → sum_by stayed (below (suc t)) ≡ sum_by stayed (below t) + cond (x n t && not (x n (suc t))) (capacity m n) 0
  stayed-suc t =
      ap (λ i. sum_by stayed (below i)) (sym (add-one t))
      ∙ sum_below-more stayed t
      ∙ ap (λ i. sum_by stayed (below t) + cond (x n t && not (x n i)) (capacity m n) 0) (add-one t)

  abbrev KeptAt : ℕ → Type 0
  KeptAt t =
      Kept (x n t) (sum_by spent (moments_to t)) (sum_by entered (moments_to t) + sum_by joined (moments_to t))
      (sum_by stayed (below t)) (came m q n t) (left m q n t)

  abbrev Fits : ℕ → Type 0
  Fits k = (i : ℕ) → i ≤ k → (pos 0 ≤ℤ held m q n i) × (held m q n i ≤ℤ pos (capacity m n))

  kept_at : (k t : ℕ) → t ≤ k → Fits k → KeptAt t
  kept_at k zero l h =
      kept_first (x n 0) (leaving m q n 0) (entry m n 0) (coming m q n 0)
      (sum_by spent (moments_to 0)) (sum_by entered (moments_to 0)) (sum_by joined (moments_to 0)) (sum_by stayed (below 0))
      (came m q n 0) (left m q n 0)
      (sum_moments-zero spent) (sum_moments-zero entered) (sum_moments-zero joined) (came-zero m q n) (left-zero m q n)
  kept_at k (suc t) l h =
      let before : t ≤ k = omega arith in
      let fits = within m q n t (capacity m n) (h t before) in
      kept_next (x n t) (x n (suc t)) (leaving m q n (suc t)) (entry m n (suc t)) (coming m q n (suc t)) (capacity m n)
      (sum_by spent (moments_to t)) (sum_by entered (moments_to t)) (sum_by joined (moments_to t)) (sum_by stayed (below t))
      (came m q n t) (left m q n t)
      (sum_by spent (moments_to (suc t))) (sum_by entered (moments_to (suc t))) (sum_by joined (moments_to (suc t)))
      (sum_by stayed (below (suc t))) (came m q n (suc t)) (left m q n (suc t))
      (sum_moments-suc spent t) (sum_moments-suc entered t) (sum_moments-suc joined t)
      (stayed-suc t) (came-suc m q n t) (left-suc m q n t)
      fits.0 fits.1 (kept_at k t before h)

-- nobody who is in the node is lost: came is at least left
drop_rest : (b : Bool) (s g k c l : ℕ) → l ≤ c → Kept b s g k c l → s ≤ g + k
drop_rest true s g k c l h e = omega arith
drop_rest false s g k c l h e = omega arith

-- ---- all nodes

-- whether a pair of a node that is no exit lies outside the cut
abbrev pub outside : Model → Cut → ℕ → ℕ → Bool
outside m x n t = not (is_exit_at m n) && not (x n t)

module _ (m : Model) (x : Cut) (q : List Move) (k : ℕ) where
  abbrev pub node_spent : ℕ → ℕ
  node_spent n = sum_by (λ t. cond (outside m x n t) (leaving m q n t) 0) (moments_to k)

  abbrev pub node_entered : ℕ → ℕ
  node_entered n = sum_by (λ t. cond (outside m x n t) (entry m n t) 0) (moments_to k)

  abbrev pub node_joined : ℕ → ℕ
  node_joined n = sum_by (λ t. cond (outside m x n t) (coming m q n t) 0) (moments_to k)

  abbrev pub node_stayed : ℕ → ℕ
  node_stayed n = sum_by (λ t. cond (x n t && not (x n (t + 1))) (capacity m n) 0) (below k)

  pub open_node : (n : ℕ) (f : ℕ → ℕ) → is_exit_at m n ≡ false
      → sum_by (λ t. cond (outside m x n t) (f t) 0) (moments_to k) ≡ sum_by (λ t. cond (not (x n t)) (f t) 0) (moments_to k)
  open_node n f e = ap (λ b. sum_by (λ t. cond (not b && not (x n t)) (f t) 0) (moments_to k)) e

  pub exit_node : (n : ℕ) (f : ℕ → ℕ) → is_exit_at m n ≡ true → sum_by (λ t. cond (outside m x n t) (f t) 0) (moments_to k) ≡ 0
  exit_node n f e = ap (λ b. sum_by (λ t. cond (not b && not (x n t)) (f t) 0) (moments_to k)) e ∙ sum_by-nothing (moments_to k)

  node_bound : IsFeasible m q k → (n : ℕ) → n < length m.nodes → node_spent n ≤ (node_entered n + node_joined n) + node_stayed n
  node_bound h n l = elim (cases_Bool (is_exit_at m n)) [
    | inl e ↦ omega (arith, exit_node n (leaving m q n) e)
    | inr e ↦
        let fits = λ (i : ℕ) (s : i ≤ k). h.holds n i l e s in
        let kept = kept_at m x q n k k (omega arith) fits in
        let some = within m q n k (capacity m n) (fits k (omega arith)) in
        let bound = drop_rest (x n k) _ _ _ (came m q n k) (left m q n k) some.0 kept in
        omega (arith, bound, open_node n (leaving m q n) e, open_node n (entry m n) e, open_node n (coming m q n) e)
  ]

-- ---- the plan's moves

-- one move: whoever gets out by k or comes to a pair outside the cut left such a pair, or left the cut
one_move : (exit from_exit from_cut to_cut : Bool) (s r k p : ℕ) → s ≤ r → from_exit ≡ false
    → cond (exit && leb r k) p 0 + cond (ltb r (k + 1) && (not exit && not to_cut)) p 0
    ≤ cond (ltb s (k + 1) && (not from_exit && not from_cut)) p 0
    + cond (ltb s (k + 1) && (from_cut && (leb r k && (exit || not to_cut)))) p 0
one_move exit from_exit from_cut to_cut s r k p l e = grind (arith, nat_tests)

module _ (m : Model) (x : Cut) (q : List Move) (k : ℕ) (valid : IsValid m) (feasible : IsFeasible m q k) where
  pub tails : All (λ v. tail m v.arc < length m.nodes) q
  tails = All-weaker (λ v. v.arc < length m.arcs) (λ v. tail m v.arc < length m.nodes) (λ v l. tail_in m v.arc valid l) q feasible.arcs

  pub heads : All (λ v. head m v.arc < length m.nodes) q
  heads = All-weaker (λ v. v.arc < length m.arcs) (λ v. head m v.arc < length m.nodes) (λ v l. head_in m v.arc valid l) q feasible.arcs

  abbrev pub to_outside : Move → ℕ
  to_outside v = cond (ltb (arrival m v.arc v.moment) (k + 1) && outside m x (head m v.arc) (arrival m v.arc v.moment)) v.people 0

  abbrev pub from_outside : Move → ℕ
  from_outside v = cond (ltb v.moment (k + 1) && outside m x (tail m v.arc) v.moment) v.people 0

  abbrev pub from_cut : Move → ℕ
  from_cut v = cond (ltb v.moment (k + 1) && leaves_cut m x k v.moment v.arc) v.people 0

  -- the people of the moves into exits, and of those to a pair outside the cut
  moves : out_by m q k + sum_by to_outside q ≤ sum_by from_outside q + sum_by from_cut q
  unfolding out_by
  moves =
      let out_of = λ (v : Move). cond (is_exit_at m (head m v.arc) && leb (arrival m v.arc v.moment) k) v.people 0 in
      let each : All (λ v. out_of v + to_outside v ≤ from_outside v + from_cut v) q =
      All-weaker (λ v. v.arc < length m.arcs) (λ v. out_of v + to_outside v ≤ from_outside v + from_cut v)
      (λ v l. one_move (is_exit_at m (head m v.arc)) (is_exit_at m (tail m v.arc)) (x (tail m v.arc) v.moment)
      (x (head m v.arc) (arrival m v.arc v.moment)) v.moment (arrival m v.arc v.moment) k v.people
      (omega arith) (arc_is m v.arc valid l).from_no_exit)
      q feasible.arcs in
      omega (arith, sum_by-le_all (λ v. out_of v + to_outside v) (λ v. from_outside v + from_cut v) q each, sum_by-add out_of to_outside q, sum_by-add from_outside from_cut q)

  pub spent_is : sum_by (node_spent m x q k) (places m.nodes) ≡ sum_by from_outside q
  unfolding leaving
  spent_is = gather (λ v. tail m v.arc) (λ v. v.moment) (λ v. v.people) (outside m x) (length m.nodes) (k + 1) q tails

  pub joined_is : sum_by (node_joined m x q k) (places m.nodes) ≡ sum_by to_outside q
  unfolding coming
  joined_is = gather (λ v. head m v.arc) (λ v. arrival m v.arc v.moment) (λ v. v.people) (outside m x) (length m.nodes) (k + 1) q heads

  pub crossed_is : sum2 (length m.arcs) (k + 1) (λ a t. cond (leaves_cut m x k t a) (moved q a t) 0) ≡ sum_by from_cut q
  unfolding moved
  crossed_is = gather (λ v. v.arc) (λ v. v.moment) (λ v. v.people) (λ a t. leaves_cut m x k t a) (length m.arcs) (k + 1) q feasible.arcs

  crossed_le : sum_by from_cut q
      ≤ sum_by (λ t. sum_by (λ a. cond (leaves_cut m x k t a) (rate m a t) 0) (places m.arcs)) (moments_to k)
  crossed_le =
      let at_most = sum2-le (length m.arcs) (k + 1) (λ a t. cond (leaves_cut m x k t a) (moved q a t) 0)
      (λ a t. cond (leaves_cut m x k t a) (rate m a t) 0)
      (λ a t i j. cond_mono (leaves_cut m x k t a) _ _ (λ _. feasible.rates a t i (omega arith))) in
      omega (arith, crossed_is, at_most, sum_by-exchange (λ a t. cond (leaves_cut m x k t a) (rate m a t) 0) (places m.arcs) (moments_to k))

  entry_le : (e i z : Bool) (p : ℕ) → (z ≡ true → p ≡ 0) → cond (not e && not i) p 0 ≤ cond (i || z) 0 p
  entry_le e i z p h = grind arith

  pub entered_le : sum_by (node_entered m x q k) (places m.nodes)
      ≤ sum_by (λ n. sum_by (λ t. cond (x n t || eqb (entry m n t) 0) 0 (entry m n t)) (moments_to k)) (places m.nodes)
  entered_le =
      sum2-le (length m.nodes) (k + 1) (λ n t. cond (outside m x n t) (entry m n t) 0)
      (λ n t. cond (x n t || eqb (entry m n t) 0) 0 (entry m n t))
      (λ n t i j. entry_le (is_exit_at m n) (x n t) (eqb (entry m n t) 0) (entry m n t) (eqb-true (entry m n t) 0))

  nodes_le : sum_by (node_spent m x q k) (places m.nodes)
      ≤ (sum_by (node_entered m x q k) (places m.nodes) + sum_by (node_joined m x q k) (places m.nodes))
      + sum_by (node_stayed m x q k) (places m.nodes)
  nodes_le =
      let each = sum_by-le_all (node_spent m x q k)
      (λ n. (node_entered m x q k n + node_joined m x q k n) + node_stayed m x q k n) (places m.nodes)
      (All-below _ (length m.nodes) (node_bound m x q k feasible)) in
      omega (
        arith,
        each,
        sum_by-add (λ n. node_entered m x q k n + node_joined m x q k n) (node_stayed m x q k) (places m.nodes),
        sum_by-add (node_entered m x q k) (node_joined m x q k) (places m.nodes),
      )

  pub out_le_value : out_by m q k ≤ cut_value m x k
  out_le_value = omega (arith, value_is m x k, moves, spent_is, joined_is, nodes_le, entered_le, crossed_le)
