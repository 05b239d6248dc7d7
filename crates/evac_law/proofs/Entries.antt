-- Who comes into a node from nowhere, and the cut of no pair.
use Rattle.std.proofs.Common.{◌≡◌, ℕ, zero, suc, ◌+◌, ◌<◌, ◌≤◌, Bool, true, false, cond, ◌&&◌, eqb, ltb, List, [], ◌∷◌, length, get_or, refl, ap, ◌∙◌, arith}
use Rattle.std.specs.List.{sum_by, All}
use Rattle.std.proofs.lemmas.List.{get_or_past}
use Rattle.std.proofs.lemmas.Bool.{both_ways, lt-ltb, ne_eqb}
use Rattle.std.proofs.lemmas.Bool.Decides.{nat_tests}
use Rattle.std.proofs.lemmas.List.Elements.{All-weaker}
use Rattle.std.proofs.lemmas.List.Sums.{sum_by-cons}
use Rattle.evac_law.specs.declared.entrant.Entrant.{Entrant}
use Rattle.evac_law.specs.declared.model.Model.{Model}
use Rattle.evac_law.specs.declared.model.NodeRow.{NodeRow}
use Rattle.evac_law.specs.Entrants.{entering}
use Rattle.evac_law.specs.Sums.{below, moments_to, places}
use Rattle.evac_law.specs.Building.{IsEntrant, IsValid, entered_by, entry, is_exit_at, no_node, people, start}
use Rattle.evac_law.specs.Cuts.{cut_value}
use Rattle.evac_law.proofs.SumLemmas.{sum_by-same, sum_by-same_all, sum_by-nothing, sum_by-cond, sum_below-pick, sum_moments-zero, sum_moments-suc, sum_places, sum2, sum2-add, sum2-le, sum2-nothing, sum2-same, gather, pick_le}
use Rattle.evac_law.proofs.ValidLemmas.{node_is}
use Rattle.evac_law.proofs.WeakDuality.{value_is}

-- ---- starts

-- a number that stands at moment 0 alone
pub once : (s t : ℕ) → sum_by (λ i. cond (eqb i 0) s 0) (moments_to t) ≡ s
once s zero = sum_moments-zero (λ i. cond (eqb i 0) s 0)
once s (suc t) = sum_moments-suc (λ i. cond (eqb i 0) s 0) t ∙ add_none (once s t)
  where
    add_none : {a b : ℕ} → a ≡ b → a + cond (eqb (suc t) 0) s 0 ≡ b
    add_none e = grind (arith, nat_tests)

-- ---- entrants

-- one number at a pair counts once at most
one_at : (n k p s w : ℕ) → sum2 n k (λ i j. cond (eqb p i && eqb s j) w 0) ≤ w
one_at n k p s w =
    let split : sum2 n k (λ i j. cond (eqb p i && eqb s j) w 0) ≡ cond (ltb p n) (cond (ltb s k) w 0) 0 =
    sum_by-same _ _ (below n)
    (λ i. sum_by-same _ _ (below k) (λ j. and_cond (eqb p i) (eqb s j))
    ∙ sum_by-cond (eqb p i) (λ j. cond (eqb s j) w 0) (below k)
    ∙ ap (λ z. cond (eqb p i) z 0) (sum_below-pick (λ j. w) k s))
    ∙ sum_below-pick (λ i. cond (ltb s k) w 0) n p in
    rw split (at_most (ltb p n) (ltb s k))
  where
    and_cond : (a b : Bool) → cond (a && b) w 0 ≡ cond a (cond b w 0) 0
    and_cond true b = refl
    and_cond false b = refl

    at_most : (a b : Bool) → cond a (cond b w 0) 0 ≤ w
    at_most true true = omega arith
    at_most true false = omega arith
    at_most false b = omega arith

-- each entrant comes once at most
pub entering_le : (n k : ℕ) (es : List Entrant) → sum2 n k (entering es) ≤ sum_by (λ e. e.people) es
unfolding entering
entering_le n k [] = omega (arith, sum2-nothing n k)
entering_le n k (e ∷ es) =
    let f = λ (i j : ℕ) (e : Entrant). cond (eqb e.node i && eqb e.moment j) e.people 0 in
    omega (
      arith,
      sum2-same n k (λ i j. sum_by (f i j) (e ∷ es)) (λ i j. f i j e + sum_by (f i j) es) (λ i j. sum_by-cons (f i j) e es),
      sum2-add n k (λ i j. f i j e) (λ i j. sum_by (f i j) es),
      one_at n k e.node e.moment e.people,
      entering_le n k es,
      sum_by-cons (λ e. e.people) e es,
    )

-- ---- all who come

-- the entries are the starts at moment 0, and the entrants' people
entry_le : (m : Model) (n t : ℕ) → entry m n t ≤ cond (eqb t 0) (start m n) 0 + entering m.entrants n t
entry_le m n t = split (eqb t 0)
  where
    split : (b : Bool) → cond b (start m n) (entering m.entrants n t) ≤ cond b (start m n) 0 + entering m.entrants n t
    split true = omega arith
    split false = omega arith

starts_are : (m : Model) (k : ℕ) → sum2 (length m.nodes) (k + 1) (λ n t. cond (eqb t 0) (start m n) 0) ≡ sum_by (λ n. n.start) m.nodes
starts_are m k = sum_by-same _ _ (places m.nodes) (λ n. once (start m n) k) ∙ sum_places (λ n. n.start) m.nodes no_node

pub entered_le : (m : Model) (k : ℕ) → entered_by m k ≤ people m
unfolding entered_by people
entered_le m k =
    let first = λ (n t : ℕ). cond (eqb t 0) (start m n) 0 in
    omega (
      arith,
      sum2-le (length m.nodes) (k + 1) (entry m) (λ n t. first n t + entering m.entrants n t) (λ n t i j. entry_le m n t),
      sum2-add (length m.nodes) (k + 1) first (entering m.entrants),
      starts_are m k,
      entering_le (length m.nodes) (k + 1) m.entrants,
    )

-- those who come into one node are at most the people
pub entries_le : (m : Model) (n t : ℕ) → n < length m.nodes → sum_by (entry m n) (moments_to t) ≤ people m
unfolding entered_by
entries_le m n t l =
    omega (arith, pick_le (λ i. sum_by (entry m i) (moments_to t)) (length m.nodes) n l, entered_le m t)

-- ---- nobody comes into an exit, at moment 0 by an entrant, or after the horizon

none_entering : (es : List Entrant) (n t : ℕ) → All (λ e. (eqb e.node n && eqb e.moment t) ≡ false) es → entering es n t ≡ 0
unfolding entering
none_entering es n t h = sum_by-same_all _ (λ _. 0) es (λ i d l. ap (λ b. cond b (get_or es i d).people 0) (h i d l)) ∙ sum_by-nothing es

apart_at : (a n b t : ℕ) → (a ≡ n → b ≡ t → ⊥) → (eqb a n && eqb b t) ≡ false
apart_at a n b t h = grind (arith, nat_tests)

pub none_first : (m : Model) (n : ℕ) → IsValid m → entering m.entrants n 0 ≡ 0
none_first m n v = grind (arith, none_entering, apart_at)

pub none_late : (m : Model) (n t : ℕ) → IsValid m → m.horizon < t → entry m n t ≡ 0
none_late m n t v l = grind (arith, none_entering, apart_at, ne_eqb)

-- nor past the last node
pub none_past : (m : Model) (n t : ℕ) → IsValid m → length m.nodes ≤ n → entry m n t ≡ 0
none_past m n t v l = split (eqb t 0)
  where
    comes : entering m.entrants n t ≡ 0
    comes =
        none_entering m.entrants n t
        (All-weaker (IsEntrant m.nodes m.horizon) _ (λ e h. apart_at e.node n e.moment t (λ s _. omega (arith, h.node_in, s, l))) m.entrants v.entrants)

    split : (b : Bool) → cond b (start m n) (entering m.entrants n t) ≡ 0
    split true = ap (λ (r : NodeRow). r.start) (get_or_past m.nodes n no_node l)
    split false = comes

pub exit_entry : (m : Model) (n t : ℕ) → IsValid m → n < length m.nodes → is_exit_at m n ≡ true → entry m n t ≡ 0
exit_entry m n t v l exit = split (eqb t 0)
  where
    starts : start m n ≡ 0
    starts = let node = node_is m n v l in omega (arith, node.start_fits, node.exit_is_empty exit)

    comes : entering m.entrants n t ≡ 0
    comes = grind (arith, none_entering, apart_at, both_ways)

    split : (b : Bool) → cond b (start m n) (entering m.entrants n t) ≡ 0
    split true = starts
    split false = comes

-- each entrant comes by the horizon, and once
entering_all : (m : Model) → IsValid m → sum2 (length m.nodes) (m.horizon + 1) (entering m.entrants) ≡ sum_by (λ e. e.people) m.entrants
unfolding entering
entering_all m v =
    gather (λ e. e.node) (λ e. e.moment) (λ e. e.people) (λ _ _. true) (length m.nodes) (m.horizon + 1) m.entrants
    (All-weaker (IsEntrant m.nodes m.horizon) _ (λ e h. h.node_in) m.entrants v.entrants)
    ∙ sum_by-same_all _ _ m.entrants counted
  where
    counted : All (λ e. cond (ltb e.moment (m.horizon + 1) && true) e.people 0 ≡ e.people) m.entrants
    counted =
        All-weaker (IsEntrant m.nodes m.horizon) _
        (λ e h. ap (λ b. cond (b && true) e.people 0) (lt-ltb e.moment (m.horizon + 1) (omega (arith, h.in_horizon)))) m.entrants v.entrants

-- by the horizon all come
pub entered_all : (m : Model) → IsValid m → entered_by m m.horizon ≡ people m
unfolding entered_by people
entered_all m v =
    let n = length m.nodes in
    let k = m.horizon + 1 in
    let first = λ (n t : ℕ). cond (eqb t 0) (start m n) 0 in
    let parts : sum2 n k (entry m) ≡ sum2 n k (λ n t. first n t + entering m.entrants n t) =
    sum2-same n k (entry m) (λ n t. first n t + entering m.entrants n t) (λ n t. entry_is n t) in
    omega (arith, parts, sum2-add n k first (entering m.entrants), starts_are m m.horizon, entering_all m v)
  where
    entry_is : (n t : ℕ) → entry m n t ≡ cond (eqb t 0) (start m n) 0 + entering m.entrants n t
    entry_is n zero = omega (arith, none_first m n v)
    entry_is n (suc t) = rw (ne_eqb (suc t) 0 (λ e. omega (arith, e))) (omega arith)

-- ---- the cut of no pair

unless_zero : (p : ℕ) → cond (eqb p 0) 0 p ≡ p
unless_zero p = grind (arith, nat_tests)

pub empty_cut_is : (m : Model) (k : ℕ) → cut_value m (λ _ _. false) k ≡ entered_by m k
unfolding entered_by
empty_cut_is m k =
    let entries : sum_by (λ n. sum_by (λ t. cond (eqb (entry m n t) 0) 0 (entry m n t)) (moments_to k)) (places m.nodes)
    ≡ sum_by (λ n. sum_by (entry m n) (moments_to k)) (places m.nodes) =
    sum_by-same _ _ (places m.nodes) (λ n. sum_by-same _ _ (moments_to k) (λ t. unless_zero (entry m n t))) in
    let holds : sum_by (λ n. sum_by {X = ℕ} (λ t. 0) (below k)) (places m.nodes) ≡ 0 =
    sum_by-same _ _ (places m.nodes) (λ n. sum_by-nothing (below k)) ∙ sum_by-nothing (places m.nodes) in
    let arcs : sum_by (λ t. sum_by {X = ℕ} (λ a. 0) (places m.arcs)) (moments_to k) ≡ 0 =
    sum_by-same _ _ (moments_to k) (λ t. sum_by-nothing (places m.arcs)) ∙ sum_by-nothing (moments_to k) in
    omega (arith, value_is m (λ _ _. false) k, entries, holds, arcs)
