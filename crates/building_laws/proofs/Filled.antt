-- A plan that has as many people out by a moment as a cut is worth fills the cut: whatever it left unused there, it would lack.
use Rattle.std.proofs.Common.{◌≡◌, ℕ, zero, suc, ◌+◌, ◌-◌, ◌<◌, ◌≤◌, Bool, true, false, cond, not, ◌&&◌, ◌||◌, ltb, leb, List, length, ap, arith, add-one, inl, inr, pos, ◌∙◌, ◌⊎◌}
use Rattle.std.specs.List.{sum_by, All}
use Rattle.std.proofs.lemmas.List.Elements.{All-weaker}
use Rattle.std.proofs.lemmas.Bool.{cases_Bool, le-leb, lt-ltb}
use Rattle.std.proofs.lemmas.Bool.Decides.{nat_tests}
use Rattle.std.proofs.lemmas.Int.{ints}
use Rattle.evac_law.specs.declared.model.Model.{Model}
use Rattle.evac_law.specs.declared.plan.Move.{Move}
use Rattle.evac_law.specs.Building.{IsValid, arrival, capacity, entry, head, is_exit_at, rate, tail}
use Rattle.evac_law.specs.Certificates.{IsTight, stated_cut}
use Rattle.evac_law.specs.Cuts.{Cut, cut_value, leaves_cut}
use Rattle.evac_law.specs.LabelTable.{label_at}
use Rattle.evac_law.specs.Plans.{IsFeasible, came, coming, held, leaving, left, moved, out_by}
use Rattle.evac_law.specs.Sums.{below, moments_to, places}
use Rattle.evac_law.proofs.Optimal.{certified_is_feasible, stated_cut_is_worth}
use Rattle.evac_law.proofs.SumLemmas.{All-below, pick_le, sum2, sum_below-suc, sum_by-add, sum_by-exchange, sum_by-le_all, sum_moments-suc, sum_moments-zero}
use Rattle.evac_law.proofs.Tight.{strayed, strayed_is, strays}
use Rattle.evac_law.proofs.ValidLemmas.{arc_is}
use Rattle.evac_law.proofs.WeakDuality.{came-suc, came-zero, entered, entered_le, exit_node, from_cut, from_outside, joined, joined_is, left-suc, left-zero, node_entered, node_joined, node_spent, node_stayed, open_node, spent, spent_is, stayed, stayed-suc, crossed_is, to_outside, value_is, within}
use Rattle.building_laws.specs.Filled.{FullInEveryBestPlan, StatedCutsAreFilled}
use Rattle.building_laws.proofs.Counts.{termwise}

-- ---- a node, exactly

-- what is left unused by moment t: room where the node leaves the cut, and people where it comes into the cut
abbrev Exact : Bool → ℕ → ℕ → ℕ → ℕ → ℕ → ℕ → Type 0
Exact b spent got kept waste came left = (got + kept) + cond b 0 left ≡ (spent + cond b 0 came) + waste

exact_first : (b : Bool) (leaving entry coming spent gotE gotC came left : ℕ)
    → spent ≡ cond (not b) leaving 0 → gotE ≡ cond (not b) entry 0 → gotC ≡ cond (not b) coming 0
    → came ≡ entry + coming → left ≡ leaving
    → Exact b spent (gotE + gotC) 0 0 came left
exact_first true l e j s ge gj c f h1 h2 h3 h4 h5 = omega arith
exact_first false l e j s ge gj c f h1 h2 h3 h4 h5 = omega arith

exact_next : (b c : Bool) (leaving entry coming cap spent gotE gotC kept waste came left spent' gotE' gotC' kept' waste' came' left' : ℕ)
    → spent' ≡ spent + cond (not c) leaving 0 → gotE' ≡ gotE + cond (not c) entry 0 → gotC' ≡ gotC + cond (not c) coming 0
    → kept' ≡ kept + cond (b && not c) cap 0 → waste' ≡ waste + (cond (b && not c) (cap - (came - left)) 0 + cond (not b && c) (came - left) 0)
    → came' ≡ came + (entry + coming) → left' ≡ left + leaving
    → left ≤ came → came ≤ left + cap
    → Exact b spent (gotE + gotC) kept waste came left
    → Exact c spent' (gotE' + gotC') kept' waste' came' left'
exact_next true true l e j cap s ge gc k w c f s' ge' gc' k' w' c' f' h1 h2 h3 h4 h5 h6 h7 h8 h9 h = omega arith
exact_next true false l e j cap s ge gc k w c f s' ge' gc' k' w' c' f' h1 h2 h3 h4 h5 h6 h7 h8 h9 h = omega arith
exact_next false true l e j cap s ge gc k w c f s' ge' gc' k' w' c' f' h1 h2 h3 h4 h5 h6 h7 h8 h9 h = omega arith
exact_next false false l e j cap s ge gc k w c f s' ge' gc' k' w' c' f' h1 h2 h3 h4 h5 h6 h7 h8 h9 h = omega arith

exact_last : (b : Bool) (s g k w c l : ℕ) → l ≤ c → Exact b s g k w c l → s + (w + cond b 0 (c - l)) ≡ g + k
exact_last true s g k w c l h e = omega arith
exact_last false s g k w c l h e = omega arith

module _ (m : Model) (x : Cut) (q : List Move) (n : ℕ) where
  -- how many are in the node
  abbrev inside_at : ℕ → ℕ
  inside_at t = came m q n t - left m q n t

  abbrev wasted : ℕ → ℕ
  wasted t =
      cond (x n t && not (x n (t + 1))) (capacity m n - inside_at t) 0 + cond (not (x n t) && x n (t + 1)) (inside_at t) 0

  -- and what is unused at the node up to a moment
  abbrev unused : ℕ → ℕ
  unused k = sum_by wasted (below k) + cond (x n k) 0 (inside_at k)

  abbrev Fits : ℕ → Type 0
  Fits k = (i : ℕ) → i ≤ k → (left m q n i ≤ came m q n i) × (came m q n i ≤ left m q n i + capacity m n)

  exact_at : (k t : ℕ) → t ≤ k → Fits k
      → Exact (x n t) (sum_by (spent m x q n) (moments_to t)) (sum_by (entered m x q n) (moments_to t) + sum_by (joined m x q n) (moments_to t))
      (sum_by (stayed m x q n) (below t)) (sum_by wasted (below t)) (came m q n t) (left m q n t)
  exact_at k zero l fits =
      exact_first (x n 0) (leaving m q n 0) (entry m n 0) (coming m q n 0)
      (sum_by (spent m x q n) (moments_to 0)) (sum_by (entered m x q n) (moments_to 0)) (sum_by (joined m x q n) (moments_to 0))
      (came m q n 0) (left m q n 0)
      (sum_moments-zero (spent m x q n)) (sum_moments-zero (entered m x q n)) (sum_moments-zero (joined m x q n))
      (came-zero m q n) (left-zero m q n)
  exact_at k (suc t) l fits =
      let step = add-one t in
      let now = fits t (omega (arith, l)) in
      let more : sum_by wasted (below (suc t))
      ≡ sum_by wasted (below t)
      + (cond (x n t && not (x n (suc t))) (capacity m n - inside_at t) 0 + cond (not (x n t) && x n (suc t)) (inside_at t) 0) =
      omega (
        arith,
        sum_below-suc wasted t,
        ap (λ i. cond (x n t && not (x n i)) (capacity m n - inside_at t) 0) step,
        ap (λ i. cond (not (x n t) && x n i) (inside_at t) 0) step,
      ) in
      exact_next (x n t) (x n (suc t)) (leaving m q n (suc t)) (entry m n (suc t)) (coming m q n (suc t)) (capacity m n)
      (sum_by (spent m x q n) (moments_to t)) (sum_by (entered m x q n) (moments_to t)) (sum_by (joined m x q n) (moments_to t))
      (sum_by (stayed m x q n) (below t)) (sum_by wasted (below t)) (came m q n t) (left m q n t)
      (sum_by (spent m x q n) (moments_to (suc t))) (sum_by (entered m x q n) (moments_to (suc t))) (sum_by (joined m x q n) (moments_to (suc t)))
      (sum_by (stayed m x q n) (below (suc t))) (sum_by wasted (below (suc t))) (came m q n (suc t)) (left m q n (suc t))
      (sum_moments-suc (spent m x q n) t) (sum_moments-suc (entered m x q n) t) (sum_moments-suc (joined m x q n) t)
      (stayed-suc m x q n t) more (came-suc m q n t) (left-suc m q n t)
      now.0 now.1 (exact_at k t (omega (arith, l)) fits)

-- ---- the plan's moves, exactly

one_move : (exit from_exit from_cut to_cut : Bool) (s r k p : ℕ) → s ≤ r → from_exit ≡ false
    → (cond (exit && leb r k) p 0 + cond (ltb r (k + 1) && (not exit && not to_cut)) p 0)
    + cond (ltb s (k + 1) && (not from_cut && not (leb r k && (exit || not to_cut)))) p 0
    ≤ cond (ltb s (k + 1) && (not from_exit && not from_cut)) p 0
    + cond (ltb s (k + 1) && (from_cut && (leb r k && (exit || not to_cut)))) p 0
one_move exit from_exit from_cut to_cut s r k p l e = grind (arith, nat_tests)

module _ (m : Model) (x : Cut) (q : List Move) (k : ℕ) (valid : IsValid m) (feasible : IsFeasible m q k) where
  fits : (n : ℕ) → n < length m.nodes → is_exit_at m n ≡ false → (i : ℕ) → i ≤ k
      → (left m q n i ≤ came m q n i) × (came m q n i ≤ left m q n i + capacity m n)
  fits n l e i s = within m q n i (capacity m n) (feasible.holds n i l e s)

  abbrev node_unused : ℕ → ℕ
  node_unused n = cond (is_exit_at m n) 0 (unused m x q n k)

  node_exact : (n : ℕ) → n < length m.nodes
      → node_spent m x q k n + node_unused n ≤ (node_entered m x q k n + node_joined m x q k n) + node_stayed m x q k n
  node_exact n l = elim (cases_Bool (is_exit_at m n)) [
    | inl e ↦ omega (arith, exit_node m x q k n (leaving m q n) e, ap (λ b. cond b 0 (unused m x q n k)) e)
    | inr e ↦
        let at = exact_at m x q n k k (omega arith) (fits n l e) in
        let last = exact_last (x n k) _ _ _ _ (came m q n k) (left m q n k) (fits n l e k (omega arith)).0 at in
        omega (
          arith,
          last,
          open_node m x q k n (leaving m q n) e,
          open_node m x q k n (entry m n) e,
          open_node m x q k n (coming m q n) e,
          ap (λ b. cond b 0 (unused m x q n k)) e,
        )
  ]

  moves : (out_by m q k + sum_by (to_outside m x q k valid feasible) q) + sum_by (strayed m x k) q
      ≤ sum_by (from_outside m x q k valid feasible) q + sum_by (from_cut m x q k valid feasible) q
  unfolding out_by
  moves =
      let outs = λ (v : Move). cond (is_exit_at m (head m v.arc) && leb (arrival m v.arc v.moment) k) v.people 0 in
      let to = to_outside m x q k valid feasible in
      let from = from_outside m x q k valid feasible in
      let over = from_cut m x q k valid feasible in
      let each : All (λ v. (outs v + to v) + strayed m x k v ≤ from v + over v) q =
      All-weaker (λ v. v.arc < length m.arcs) (λ v. (outs v + to v) + strayed m x k v ≤ from v + over v)
      (λ v l. one_move (is_exit_at m (head m v.arc)) (is_exit_at m (tail m v.arc)) (x (tail m v.arc) v.moment)
      (x (head m v.arc) (arrival m v.arc v.moment)) v.moment (arrival m v.arc v.moment) k v.people
      (omega arith) (arc_is m v.arc valid l).from_no_exit)
      q feasible.arcs in
      omega (
        arith,
        sum_by-le_all (λ v. (outs v + to v) + strayed m x k v) (λ v. from v + over v) q each,
        sum_by-add from over q,
        sum_by-add (λ v. outs v + to v) (strayed m x k) q,
        sum_by-add outs to q,
      )

  -- what is unused at an arc and moment that leaves the cut
  abbrev spare : ℕ → ℕ → ℕ
  spare a t = cond (leaves_cut m x k t a) (rate m a t - moved q a t) 0

  crossed : sum_by (from_cut m x q k valid feasible) q + sum2 (length m.arcs) (k + 1) spare
      ≤ sum_by (λ t. sum_by (λ a. cond (leaves_cut m x k t a) (rate m a t) 0) (places m.arcs)) (moments_to k)
  crossed =
      let both = termwise (λ a. sum_by (λ t. cond (leaves_cut m x k t a) (moved q a t) 0) (moments_to k) + sum_by (spare a) (moments_to k))
      (λ a. sum_by (λ t. cond (leaves_cut m x k t a) (rate m a t) 0) (moments_to k)) (length m.arcs)
      (λ a i. omega (
        arith,
        sum_by-add (λ t. cond (leaves_cut m x k t a) (moved q a t) 0) (spare a) (moments_to k),
        termwise (λ t. cond (leaves_cut m x k t a) (moved q a t) 0 + spare a t) (λ t. cond (leaves_cut m x k t a) (rate m a t) 0) (k + 1)
            (λ t j. one (leaves_cut m x k t a) (moved q a t) (rate m a t) (feasible.rates a t i (omega (arith, j)))),
      )) in
      omega (
        arith,
        crossed_is m x q k valid feasible,
        both,
        sum_by-add (λ a. sum_by (λ t. cond (leaves_cut m x k t a) (moved q a t) 0) (moments_to k)) (λ a. sum_by (spare a) (moments_to k)) (places m.arcs),
        sum_by-exchange (λ a t. cond (leaves_cut m x k t a) (rate m a t) 0) (places m.arcs) (moments_to k),
      )
    where
      one : (b : Bool) (u r : ℕ) → u ≤ r → cond b u 0 + cond b (r - u) 0 ≤ cond b r 0
      one true u r l = omega arith
      one false u r l = omega arith

  nodes : sum_by (node_spent m x q k) (places m.nodes) + sum_by node_unused (places m.nodes)
      ≤ (sum_by (node_entered m x q k) (places m.nodes) + sum_by (node_joined m x q k) (places m.nodes))
      + sum_by (node_stayed m x q k) (places m.nodes)
  nodes =
      omega (
        arith,
        sum_by-le_all (λ n. node_spent m x q k n + node_unused n)
            (λ n. (node_entered m x q k n + node_joined m x q k n) + node_stayed m x q k n) (places m.nodes)
            (All-below _ (length m.nodes) node_exact),
        sum_by-add (node_spent m x q k) node_unused (places m.nodes),
        sum_by-add (λ n. node_entered m x q k n + node_joined m x q k n) (node_stayed m x q k) (places m.nodes),
        sum_by-add (node_entered m x q k) (node_joined m x q k) (places m.nodes),
      )

  -- a plan lacks as many of the cut's value as it leaves unused there
  lacks : out_by m q k + (sum_by (strayed m x k) q + (sum_by node_unused (places m.nodes) + sum2 (length m.arcs) (k + 1) spare)) ≤ cut_value m x k
  lacks = omega (arith, value_is m x k, moves, spent_is m x q k valid feasible, joined_is m x q k valid feasible, nodes, entered_le m x q k valid feasible, crossed)

  module _ (all : cut_value m x k ≤ out_by m q k) where
    no_spare : (a t : ℕ) → a < length m.arcs → t ≤ k → spare a t ≡ 0
    no_spare a t i l =
        omega (
          arith,
          lacks,
          all,
          pick_le (λ b. sum_by (spare b) (moments_to k)) (length m.arcs) a i,
          pick_le (spare a) (k + 1) t (omega (arith, l)),
        )

    no_stray : (a t : ℕ) → a < length m.arcs → t ≤ k → cond (strays m x k a t) (moved q a t) 0 ≡ 0
    no_stray a t i l =
        omega (
          arith,
          lacks,
          all,
          strayed_is m x k q feasible,
          pick_le (λ b. sum_by (λ s. cond (strays m x k b s) (moved q b s) 0) (moments_to k)) (length m.arcs) a i,
          pick_le (λ s. cond (strays m x k a s) (moved q a s) 0) (k + 1) t (omega (arith, l)),
        )

    no_unused : (n : ℕ) → n < length m.nodes → is_exit_at m n ≡ false → unused m x q n k ≡ 0
    no_unused n i e =
        omega (arith, lacks, all, pick_le node_unused (length m.nodes) n i, ap (λ b. cond b 0 (unused m x q n k)) e)

    no_waste : (n t : ℕ) → n < length m.nodes → is_exit_at m n ≡ false → t < k → wasted m x q n t ≡ 0
    no_waste n t i e l = omega (arith, no_unused n i e, pick_le (wasted m x q n) k t l)

    was_full : (u v : Bool) (cap h : ℕ) → u ≡ true → v ≡ false → cond (u && not v) (cap - h) 0 + cond (not u && v) h 0 ≡ 0 → h ≤ cap → h ≡ cap
    was_full u v cap h e f z l = grind arith

    was_empty : (u v : Bool) (cap h : ℕ) → u ≡ false → v ≡ true → cond (u && not v) (cap - h) 0 + cond (not u && v) h 0 ≡ 0 → h ≡ 0
    was_empty u v cap h e f z = grind arith

    last_empty : (u : Bool) (w h : ℕ) → u ≡ false → w + cond u 0 h ≡ 0 → h ≡ 0
    last_empty u w h e z = grind arith

    as_held : (n t h : ℕ) → left m q n t ≤ came m q n t → inside_at m x q n t ≡ h → held m q n t ≡ pos h
    unfolding held
    as_held n t h l e = omega (arith, ints, l, e)

    full : (b : Bool) (r u : ℕ) → b ≡ true → u ≤ r → cond b (r - u) 0 ≡ 0 → u ≡ r
    full b r u e l z = grind arith

    empty : (u v : Bool) (p : ℕ) → u ≡ false → v ≡ false → cond (not u && not v) p 0 ≡ 0 → p ≡ 0
    empty u v p e f z = grind arith

    pub equal_is_tight : IsTight m q x k
    equal_is_tight = record {
      holds_full = λ n t i e l u v.
          let fit = fits n i e t (omega (arith, l)) in
          as_held n t (capacity m n) fit.0
          (was_full (x n t) (x n (t + 1)) (capacity m n) (inside_at m x q n t) u v (no_waste n t i e l) (omega (arith, fit)));
      holds_empty = λ n t i e l u v.
          as_held n t 0 (fits n i e t (omega (arith, l))).0
          (was_empty (x n t) (x n (t + 1)) (capacity m n) (inside_at m x q n t) u v (no_waste n t i e l));
      nobody_left = λ n i e u.
          as_held n k 0 (fits n i e k (omega arith)).0
          (last_empty (x n k) (sum_by (wasted m x q n) (below k)) (inside_at m x q n k) u (no_unused n i e));
      arcs_full = λ a t i l e. full (leaves_cut m x k t a) (rate m a t) (moved q a t) e (feasible.rates a t i l) (no_spare a t i l);
      arcs_empty = λ a t i l u v.
          empty (x (tail m a) t) (leb (arrival m a t) k && (is_exit_at m (head m a) || not (x (head m a) (arrival m a t)))) (moved q a t) u v
          (no_stray a t i l);
    }

pub stated_cuts_are_filled : StatedCutsAreFilled
stated_cuts_are_filled m p q l c k valid good s best =
    equal_is_tight m (stated_cut m l c k) q k valid best.feasible
    (omega (arith, (stated_cut_is_worth m p l c k valid good).1, best.most p (certified_is_feasible m p l c k valid good)))

-- ---- what labels say of an arc

by_labels : (below_c at_k tail_out early exit head_in later : Bool) → below_c ≡ true → at_k ≡ true → tail_out ≡ false → early ≡ true
    → (exit ≡ true) ⊎ (later ≡ false)
    → ((below_c && (at_k && (not tail_out && early))) && (true && (exit || not (below_c && (head_in && (not exit && later)))))) ≡ true
by_labels below_c at_k tail_out early exit head_in later a b c d (inl e) = grind arith
by_labels below_c at_k tail_out early exit head_in later a b c d (inr e) = grind arith

no_later : (x y : ℕ) → y ≤ x → ltb x y ≡ false
no_later x y s = grind (arith, nat_tests)

pub full_in_every_best_plan : FullInEveryBestPlan
full_in_every_best_plan m p q l c k a t valid good before best i late in_time there =
    let soon : t ≤ k = omega (arith, in_time) in
    let leaves : leaves_cut m (stated_cut m l c k) k t a ≡ true =
    ap (λ b. stated_cut m l c k (tail m a) t && (b && (is_exit_at m (head m a) || not (stated_cut m l c k (head m a) (arrival m a t)))))
    (le-leb (arrival m a t) k in_time)
    ∙ by_labels (ltb k c) (leb t k) (is_exit_at m (tail m a)) (ltb k (label_at l (tail m a) t)) (is_exit_at m (head m a)) (leb (arrival m a t) k)
    (ltb k (label_at l (head m a) (arrival m a t)))
    (lt-ltb k c before) (le-leb t k soon) (arc_is m a valid i).from_no_exit (lt-ltb k (label_at l (tail m a) t) late)
    (elim there [ inl exit ↦ inl exit | inr early ↦ inr (no_later k (label_at l (head m a) (arrival m a t)) early) ]) in
    (stated_cuts_are_filled m p q l c k valid good (omega (arith, before, good.in_horizon)) best).arcs_full a t i soon leaves
