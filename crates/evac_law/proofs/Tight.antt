-- A plan that fills a cut of a moment has as many people out by then as the cut is worth.
use Rattle.std.proofs.Common.{◌≡◌, ℕ, zero, suc, ◌+◌, ◌<◌, ◌≤◌, Bool, true, false, cond, not, ◌&&◌, ◌||◌, eqb, ltb, leb, List, length, refl, ap, ◌∙◌, arith, add-one, inl, inr, IsFalse, pos}
use Rattle.std.specs.List.{sum_by, All}
use Rattle.std.proofs.lemmas.List.Elements.{All-weaker, All-get_or}
use Rattle.std.proofs.lemmas.Bool.{and_parts, cases_Bool, not-true}
use Rattle.std.proofs.lemmas.Bool.Decides.{nat_tests}
use Rattle.std.proofs.lemmas.Int.{ints}
use Rattle.evac_law.specs.declared.model.Model.{Model}
use Rattle.evac_law.specs.declared.plan.Move.{Move}
use Rattle.evac_law.specs.Sums.{below, moments_to, places}
use Rattle.evac_law.specs.Building.{IsValid, IsNode, no_node, is_exit_at, capacity, tail, head, arrival, rate, entry}
use Rattle.evac_law.specs.Certificates.{IsTight}
use Rattle.evac_law.specs.Cuts.{Cut, leaves_cut, cut_value}
use Rattle.evac_law.specs.Plans.{IsFeasible, moved, came, coming, left, leaving, held, out_by}
use Rattle.evac_law.proofs.Entries.{exit_entry}
use Rattle.evac_law.proofs.SumLemmas.{sum_by-add, sum_by-same, sum_by-nothing, sum_by-le_all, sum_by-exchange, All-below, sum_moments-zero, sum_moments-suc, sum2, sum2-le, sum2-nothing, gather}
use Rattle.evac_law.proofs.ValidLemmas.{arc_is}
use Rattle.evac_law.proofs.WeakDuality.{out_le_value, value_is, came-zero, came-suc, left-zero, left-suc, spent, entered, joined, stayed, stayed-suc, outside, node_spent, node_entered, node_joined, node_stayed, open_node, exit_node, to_outside, from_outside, from_cut, spent_is, joined_is, crossed_is}

-- ---- a node from moment to moment, the other way round

abbrev Filled : Bool → ℕ → ℕ → ℕ → ℕ → ℕ → Type 0
Filled b spent got kept came left = (got + kept) + cond b 0 left ≤ spent + cond b 0 came

filled_first : (b : Bool) (leaving entry coming spent gotE gotC kept came left : ℕ)
    → spent ≡ cond (not b) leaving 0 → gotE ≡ cond (not b) entry 0 → gotC ≡ cond (not b) coming 0 → kept ≡ 0
    → came ≡ entry + coming → left ≡ leaving
    → Filled b spent (gotE + gotC) kept came left
filled_first true l e j s ge gj k c f h1 h2 h3 h4 h5 h6 = omega arith
filled_first false l e j s ge gj k c f h1 h2 h3 h4 h5 h6 = omega arith

filled_next : (b c : Bool) (leaving entry coming cap spent gotE gotC kept came left spent' gotE' gotC' kept' came' left' : ℕ)
    → spent' ≡ spent + cond (not c) leaving 0 → gotE' ≡ gotE + cond (not c) entry 0 → gotC' ≡ gotC + cond (not c) coming 0
    → kept' ≡ kept + cond (b && not c) cap 0 → came' ≡ came + (entry + coming) → left' ≡ left + leaving
    → (b ≡ true → c ≡ false → left + cap ≤ came) → (b ≡ false → c ≡ true → came ≤ left)
    → Filled b spent (gotE + gotC) kept came left
    → Filled c spent' (gotE' + gotC') kept' came' left'
filled_next true true l e j cap s ge gc k c f s' ge' gc' k' c' f' h1 h2 h3 h4 h5 h6 h7 h8 h9 = omega arith
filled_next true false l e j cap s ge gc k c f s' ge' gc' k' c' f' h1 h2 h3 h4 h5 h6 h7 h8 h9 = omega (arith, h7 refl refl)
filled_next false true l e j cap s ge gc k c f s' ge' gc' k' c' f' h1 h2 h3 h4 h5 h6 h7 h8 h9 = omega (arith, h8 refl refl)
filled_next false false l e j cap s ge gc k c f s' ge' gc' k' c' f' h1 h2 h3 h4 h5 h6 h7 h8 h9 = omega arith

full : (m : Model) (q : List Move) (n t cap : ℕ) → held m q n t ≡ pos cap → left m q n t + cap ≡ came m q n t
unfolding held
full m q n t cap h = omega (arith, ints, h)

filled_last : (b : Bool) (s g k c l : ℕ) → (b ≡ false → c ≤ l) → Filled b s g k c l → g + k ≤ s
filled_last true s g k c l h e = omega arith
filled_last false s g k c l h e = omega (arith, h refl)

module _ (m : Model) (x : Cut) (q : List Move) (k : ℕ) (tight : IsTight m q x k) where
  filled_at : (n : ℕ) → n < length m.nodes → IsFalse (is_exit_at m n) → (t : ℕ) → t ≤ k
      → Filled (x n t) (sum_by (spent m x q n) (moments_to t)) (sum_by (entered m x q n) (moments_to t) + sum_by (joined m x q n) (moments_to t))
      (sum_by (stayed m x q n) (below t)) (came m q n t) (left m q n t)
  filled_at n i e zero l =
      filled_first (x n 0) (leaving m q n 0) (entry m n 0) (coming m q n 0)
      (sum_by (spent m x q n) (moments_to 0)) (sum_by (entered m x q n) (moments_to 0)) (sum_by (joined m x q n) (moments_to 0))
      (sum_by (stayed m x q n) (below 0)) (came m q n 0) (left m q n 0)
      (sum_moments-zero (spent m x q n)) (sum_moments-zero (entered m x q n)) (sum_moments-zero (joined m x q n)) refl
      (came-zero m q n) (left-zero m q n)
  filled_at n i e (suc t) l =
      let before : t ≤ k = omega arith in
      let next : t < k = omega arith in
      let step = add-one t in
      filled_next (x n t) (x n (suc t)) (leaving m q n (suc t)) (entry m n (suc t)) (coming m q n (suc t)) (capacity m n)
      (sum_by (spent m x q n) (moments_to t)) (sum_by (entered m x q n) (moments_to t)) (sum_by (joined m x q n) (moments_to t))
      (sum_by (stayed m x q n) (below t)) (came m q n t) (left m q n t)
      (sum_by (spent m x q n) (moments_to (suc t))) (sum_by (entered m x q n) (moments_to (suc t))) (sum_by (joined m x q n) (moments_to (suc t)))
      (sum_by (stayed m x q n) (below (suc t))) (came m q n (suc t)) (left m q n (suc t))
      (sum_moments-suc (spent m x q n) t) (sum_moments-suc (entered m x q n) t) (sum_moments-suc (joined m x q n) t)
      (stayed-suc m x q n t) (came-suc m q n t) (left-suc m q n t)
      (λ u v. omega (arith, full m q n t (capacity m n) (tight.holds_full n t i e next u (ap (x n) step ∙ v))))
      (λ u v. omega (arith, full m q n t 0 (tight.holds_empty n t i e next u (ap (x n) step ∙ v))))
      (filled_at n i e t before)

  node_filled : IsValid m → (n : ℕ) → n < length m.nodes
      → (node_entered m x q k n + node_joined m x q k n) + node_stayed m x q k n ≤ node_spent m x q k n
  node_filled valid n i = elim (cases_Bool (is_exit_at m n)) [
    | inl e ↦
        let node = All-get_or IsNode m.nodes n no_node i valid.nodes in
        let none = node.exit_is_empty e in
        let nothing : node_stayed m x q k n ≡ 0 =
        sum_by-same _ (λ _. 0) (below k) (λ t. no_room (x n t && not (x n (t + 1))) (capacity m n) none) ∙ sum_by-nothing (below k) in
        omega (arith, nothing, exit_node m x q k n (entry m n) e, exit_node m x q k n (coming m q n) e)
    | inr e ↦
        let last = filled_last (x n k) _ _ _ (came m q n k) (left m q n k)
        (λ u. omega (arith, full m q n k 0 (tight.nobody_left n i e u))) (filled_at n i e k (omega arith)) in
        omega (arith, last, open_node m x q k n (leaving m q n) e, open_node m x q k n (entry m n) e, open_node m x q k n (coming m q n) e)
  ]
    where
      no_room : (b : Bool) (c : ℕ) → c ≡ 0 → cond b c 0 ≡ 0
      no_room true c e = e
      no_room false c e = refl

-- ---- the plan's moves

-- whether a move goes from outside the cut into it, or on past k
abbrev pub strays : Model → Cut → ℕ → ℕ → ℕ → Bool
strays m x k a t =
    not (x (tail m a) t) && not (leb (arrival m a t) k && (is_exit_at m (head m a) || not (x (head m a) (arrival m a t))))

one_move : (exit from_exit from_cut to_cut : Bool) (s r k p : ℕ) → s ≤ r → from_exit ≡ false
    → cond (ltb s (k + 1) && (not from_exit && not from_cut)) p 0
    + cond (ltb s (k + 1) && (from_cut && (leb r k && (exit || not to_cut)))) p 0
    ≤ (cond (exit && leb r k) p 0 + cond (ltb r (k + 1) && (not exit && not to_cut)) p 0)
    + cond (ltb s (k + 1) && (not from_cut && not (leb r k && (exit || not to_cut)))) p 0
one_move exit from_exit from_cut to_cut s r k p l e = grind (arith, nat_tests)

-- the people of a move that strays up to k, and of all that do
abbrev pub strayed : Model → Cut → ℕ → Move → ℕ
strayed m x k v = cond (ltb v.moment (k + 1) && strays m x k v.arc v.moment) v.people 0

pub strayed_is : (m : Model) (x : Cut) (k : ℕ) (q : List Move) → IsFeasible m q k
    → sum2 (length m.arcs) (k + 1) (λ a t. cond (strays m x k a t) (moved q a t) 0) ≡ sum_by (strayed m x k) q
unfolding moved
strayed_is m x k q feasible = gather (λ v. v.arc) (λ v. v.moment) (λ v. v.people) (strays m x k) (length m.arcs) (k + 1) q feasible.arcs

module _ (m : Model) (x : Cut) (q : List Move) (k : ℕ) (valid : IsValid m) (feasible : IsFeasible m q k) (tight : IsTight m q x k) where
  when : (b : Bool) (u : ℕ) → (b ≡ true → u ≡ 0) → cond b u 0 ≡ 0
  when true u h = h refl
  when false u h = refl

  none_at : (a t : ℕ) → a < length m.arcs → t < k + 1 → cond (strays m x k a t) (moved q a t) 0 ≤ 0
  none_at a t i j =
      let nobody = when (strays m x k a t) (moved q a t)
      (λ e. let both = and_parts _ _ e in tight.arcs_empty a t i (omega arith) (not-true _ both.0) (not-true _ both.1)) in
      omega (arith, nobody)

  nobody_strays : sum_by (strayed m x k) q ≡ 0
  nobody_strays =
      omega (
        arith,
        strayed_is m x k q feasible,
        sum2-nothing (length m.arcs) (k + 1),
        sum2-le (length m.arcs) (k + 1) (λ a t. cond (strays m x k a t) (moved q a t) 0) (λ _ _. 0) none_at,
      )

  moves : sum_by (from_outside m x q k valid feasible) q + sum_by (from_cut m x q k valid feasible) q
      ≤ (out_by m q k + sum_by (to_outside m x q k valid feasible) q) + sum_by (strayed m x k) q
  unfolding out_by
  moves =
      let outs = λ (v : Move). cond (is_exit_at m (head m v.arc) && leb (arrival m v.arc v.moment) k) v.people 0 in
      let to = to_outside m x q k valid feasible in
      let from = from_outside m x q k valid feasible in
      let over = from_cut m x q k valid feasible in
      let each : All (λ v. from v + over v ≤ (outs v + to v) + strayed m x k v) q =
      All-weaker (λ v. v.arc < length m.arcs) (λ v. from v + over v ≤ (outs v + to v) + strayed m x k v)
      (λ v l. one_move (is_exit_at m (head m v.arc)) (is_exit_at m (tail m v.arc)) (x (tail m v.arc) v.moment)
      (x (head m v.arc) (arrival m v.arc v.moment)) v.moment (arrival m v.arc v.moment) k v.people
      (omega arith) (arc_is m v.arc valid l).from_no_exit)
      q feasible.arcs in
      omega (
        arith,
        sum_by-le_all (λ v. from v + over v) (λ v. (outs v + to v) + strayed m x k v) q each,
        sum_by-add from over q,
        sum_by-add (λ v. outs v + to v) (strayed m x k) q,
        sum_by-add outs to q,
      )

  full_at : (a t : ℕ) → a < length m.arcs → t < k + 1
      → cond (leaves_cut m x k t a) (rate m a t) 0 ≤ cond (leaves_cut m x k t a) (moved q a t) 0
  full_at a t i j = elim (cases_Bool (leaves_cut m x k t a)) [
    | inl e ↦ let same = tight.arcs_full a t i (omega arith) e in rw e (omega (arith, same))
    | inr e ↦ rw e (omega arith)
  ]

  crossed_ge : sum_by (λ t. sum_by (λ a. cond (leaves_cut m x k t a) (rate m a t) 0) (places m.arcs)) (moments_to k)
      ≤ sum_by (from_cut m x q k valid feasible) q
  crossed_ge =
      omega (
        arith,
        crossed_is m x q k valid feasible,
        sum2-le (length m.arcs) (k + 1) (λ a t. cond (leaves_cut m x k t a) (rate m a t) 0)
            (λ a t. cond (leaves_cut m x k t a) (moved q a t) 0) full_at,
        sum_by-exchange (λ a t. cond (leaves_cut m x k t a) (rate m a t) 0) (places m.arcs) (moments_to k),
      )

  entry_ge : (e i z : Bool) (p : ℕ) → (e ≡ true → p ≡ 0) → cond (i || z) 0 p ≤ cond (not e && not i) p 0
  entry_ge e i z p h = grind arith

  entered_ge : sum_by (λ n. sum_by (λ t. cond (x n t || eqb (entry m n t) 0) 0 (entry m n t)) (moments_to k)) (places m.nodes)
      ≤ sum_by (node_entered m x q k) (places m.nodes)
  entered_ge =
      sum2-le (length m.nodes) (k + 1) (λ n t. cond (x n t || eqb (entry m n t) 0) 0 (entry m n t))
      (λ n t. cond (outside m x n t) (entry m n t) 0)
      (λ n t i j. entry_ge (is_exit_at m n) (x n t) (eqb (entry m n t) 0) (entry m n t) (exit_entry m n t valid i))

  nodes_ge : (sum_by (node_entered m x q k) (places m.nodes) + sum_by (node_joined m x q k) (places m.nodes))
      + sum_by (node_stayed m x q k) (places m.nodes)
      ≤ sum_by (node_spent m x q k) (places m.nodes)
  nodes_ge =
      let each = sum_by-le_all (λ n. (node_entered m x q k n + node_joined m x q k n) + node_stayed m x q k n) (node_spent m x q k)
      (places m.nodes) (All-below _ (length m.nodes) (node_filled m x q k tight valid)) in
      omega (
        arith,
        each,
        sum_by-add (λ n. node_entered m x q k n + node_joined m x q k n) (node_stayed m x q k) (places m.nodes),
        sum_by-add (node_entered m x q k) (node_joined m x q k) (places m.nodes),
      )

  pub tight_is_equal : out_by m q k ≡ cut_value m x k
  tight_is_equal =
      let least : cut_value m x k ≤ out_by m q k =
      omega (
        arith,
        value_is m x k,
        moves,
        nobody_strays,
        spent_is m x q k valid feasible,
        joined_is m x q k valid feasible,
        nodes_ge,
        entered_ge,
        crossed_ge,
      ) in
      omega (arith, least, out_le_value m x q k valid feasible)
