-- From any cut one that is closed under waiting and is worth no more: each node's moments outside the cut come first.
use Rattle.std.proofs.Common.{◌≡◌, ℕ, zero, suc, ◌+◌, ◌-◌, ◌*◌, ◌<◌, ◌≤◌, Bool, true, false, cond, not, ◌&&◌, ◌||◌, ◌⊎◌, eqb, leb, length, ap, ◌∙◌, arith, add-one, inl, inr}
use Rattle.std.specs.List.{sum_by}
use Rattle.std.proofs.Math.Nat.{mul-le-mul_left}
use Rattle.std.proofs.lemmas.Bool.{both_ways, cases_Bool}
use Rattle.std.proofs.lemmas.Bool.Decides.{nat_tests}
use Rattle.evac_law.specs.declared.model.Model.{Model}
use Rattle.evac_law.specs.Building.{arc_at, capacity, entry, head, is_exit_at, rate, tail}
use Rattle.evac_law.specs.Cuts.{Cut, cut_value, leaves_cut}
use Rattle.evac_law.specs.Sums.{below, moments_to, places}
use Rattle.evac_law.proofs.SumLemmas.{sum_below-more, sum_below-same, sum_below-suc, sum_by-add, sum_by-exchange, sum_by-nothing, sum_by-same, sum_by-times, sum_moments-le}
use Rattle.evac_law.proofs.WeakDuality.{value_is}
use Rattle.building_laws.specs.Rooms.{HasRoomForEntries, HasSteadyRates}
use Rattle.building_laws.proofs.Counts.{arrivals_count, count, hits_and_misses, in_time_count, misses, run_count, termwise}

-- the number of moments up to k at which a node isn't in a cut
abbrev pub moments_outside : Cut → ℕ → ℕ → ℕ
moments_outside x k n = misses (x n) (k + 1)

-- the cut that a node is in from a moment of its own on: who is in it stays in it by waiting
abbrev pub from_moments : (ℕ → ℕ) → Cut
from_moments f n t = leb (f n) t

-- ---- a node

no_hold : (f t c : ℕ) → cond (leb f t && not (leb f (t + 1))) c 0 ≡ 0
no_hold f t c = grind (arith, nat_tests)

-- whoever waits in the cut stays in it
pub no_holds : (f k c : ℕ) → sum_by (λ t. cond (leb f t && not (leb f (t + 1))) c 0) (below k) ≡ 0
no_holds f k c = sum_by-same (λ t. cond (leb f t && not (leb f (t + 1))) c 0) (λ _. 0) (below k) (λ t. no_hold f t c) ∙ sum_by-nothing (below k)

module _ (b : ℕ → Bool) (cap : ℕ) where
  -- what it takes to hold people who are in the cut back to where they aren't
  abbrev pub drop : ℕ → ℕ
  drop t = cond (b t && not (b (t + 1))) cap 0

  -- the test holds from a moment on
  abbrev pub Settled : ℕ → Type 0
  Settled k = (t : ℕ) → t ≤ k → b t ≡ leb (misses b (k + 1)) t

  first_at : (x : Bool) (t ms : ℕ) → ms ≡ cond x 0 1 → t ≡ 0 → x ≡ leb ms t
  first_at x t ms h i = grind arith

  settled_first : Settled 0
  settled_first t l =
      let same : t ≡ 0 = omega arith in
      let once : misses b (0 + 1) ≡ cond (b 0) 0 1 = omega (arith, sum_below-more (λ t. cond (b t) 0 1) 0) in
      ap b same ∙ first_at (b 0) t (misses b (0 + 1)) once same

  -- one more moment: where the test held just before, it still does
  next_at : (k t ms more : ℕ) (now next at : Bool) → now ≡ leb ms k → ms ≤ k + 1 → more ≡ ms + cond next 0 1
      → (now ≡ true → next ≡ true) → t ≤ suc k → (t ≤ k → at ≡ leb ms t) → (t ≡ suc k → at ≡ next) → at ≡ leb more t
  next_at k t ms more now next at n f e keeps l old new = grind (arith, nat_tests)

  settled_next : (k : ℕ) → Settled k → (b k ≡ true → b (suc k) ≡ true) → Settled (suc k)
  settled_next k s keeps t l =
      let few : misses b (k + 1) ≤ k + 1 = omega (arith, hits_and_misses b (k + 1)) in
      let grown : misses b (suc k + 1) ≡ misses b (k + 1) + cond (b (suc k)) 0 1 =
      omega (arith, sum_below-more (λ t. cond (b t) 0 1) (suc k), ap (misses b) (add-one k)) in
      next_at k t (misses b (k + 1)) (misses b (suc k + 1)) (b k) (b (suc k)) (b t) (s k (omega arith)) few grown keeps l (s t) (λ e. ap b e)

  full_drop : (x y : Bool) → x ≡ true → y ≡ false → cond (x && not y) cap 0 ≡ cap
  full_drop x y e f = grind arith

  -- the test holds from a moment on, or it costs the whole capacity that it fails again
  pub drops : (k : ℕ) → (cap ≤ sum_by drop (below k)) ⊎ Settled k
  drops zero = inr settled_first
  drops (suc k) = elim (drops k) [
    | inl paid ↦ inl (omega (arith, paid, sum_below-suc drop k))
    | inr s ↦ elim (cases_Bool (b k)) [
      | inr off ↦ inr (settled_next k s (λ on. absurd (both_ways (b k) off on)))
      | inl on ↦ elim (cases_Bool (b (suc k))) [
        | inl still ↦ inr (settled_next k s (λ _. still))
        | inr over ↦ inl (omega (arith, sum_below-suc drop k, full_drop (b k) (b (k + 1)) on (ap b (add-one k) ∙ over)))
      ]
    ]
  ]

  pub node_le : (e : ℕ → ℕ) (k : ℕ) → sum_by e (moments_to k) ≤ cap
      → sum_by (λ t. cond (leb (misses b (k + 1)) t || eqb (e t) 0) 0 (e t)) (moments_to k)
      + sum_by (λ t. cond (leb (misses b (k + 1)) t && not (leb (misses b (k + 1)) (t + 1))) cap 0) (below k)
      ≤ sum_by (λ t. cond (b t || eqb (e t) 0) 0 (e t)) (moments_to k) + sum_by drop (below k)
  node_le e k fits =
      let f = misses b (k + 1) in
      let nothing : sum_by (λ t. cond (leb f t && not (leb f (t + 1))) cap 0) (below k) ≡ 0 = no_holds f k cap in
      elim (drops k) [
        | inl paid ↦
            let most = termwise (λ t. cond (leb f t || eqb (e t) 0) 0 (e t)) e (k + 1) (λ t l. grind arith) in
            omega (arith, nothing, most, fits, paid)
        | inr s ↦
            let same = termwise (λ t. cond (leb f t || eqb (e t) 0) 0 (e t)) (λ t. cond (b t || eqb (e t) 0) 0 (e t)) (k + 1)
            (λ t l. let at = s t (omega (arith, l)) in rw at (omega arith)) in
            omega (arith, nothing, same)
      ]

-- ---- an arc

-- whether people who go along an arc at a moment leave the cut by k, from what the cut says of its two ends
abbrev pub leaves : (ℕ → Bool) → (ℕ → Bool) → Bool → ℕ → ℕ → ℕ → Bool
leaves u v exit d k t = u t && (leb (t + d) k && (exit || not (v (t + d))))

pub into_end : (exit : Bool) (f g d k t : ℕ) → (leb f t && (leb (t + d) k && (exit || not (leb g (t + d))))) ≡ true → (f ≤ t) × (t < cond exit (k + 1) g - d)
into_end exit f g d k t e = (grind (arith, nat_tests), grind (arith, nat_tests))

exit_once : (u i : Bool) → cond i 1 0 ≤ cond u 0 1 + cond (u && (i && true)) 1 0
exit_once u i = grind arith

node_once : (u v i : Bool) → cond i 1 0 ≤ cond u 0 1 + (cond (u && (i && not v)) 1 0 + cond i (cond v 1 0) 0)
node_once u v i = grind arith

pub arc_le : (u v : ℕ → Bool) (exit : Bool) (d k : ℕ)
    → count (leaves (λ t. leb (misses u (k + 1)) t) (λ t. leb (misses v (k + 1)) t) exit d k) (k + 1) ≤ count (leaves u v exit d k) (k + 1)
arc_le u v true d k =
    let late = run_count (leaves (λ t. leb (misses u (k + 1)) t) (λ t. leb (misses v (k + 1)) t) true d k) (misses u (k + 1)) ((k + 1) - d) (k + 1)
    (λ t e. into_end true (misses u (k + 1)) (misses v (k + 1)) d k t e) in
    let each = termwise (λ t. cond (leb (t + d) k) 1 0) (λ t. cond (u t) 0 1 + cond (leaves u v true d k t) 1 0) (k + 1)
    (λ t l. exit_once (u t) (leb (t + d) k)) in
    omega (arith, late, each, in_time_count d k, sum_by-add (λ t. cond (u t) 0 1) (λ t. cond (leaves u v true d k t) 1 0) (below (k + 1)))
arc_le u v false d k =
    let late = run_count (leaves (λ t. leb (misses u (k + 1)) t) (λ t. leb (misses v (k + 1)) t) false d k) (misses u (k + 1)) (misses v (k + 1) - d) (k + 1)
    (λ t e. into_end false (misses u (k + 1)) (misses v (k + 1)) d k t e) in
    let each = termwise (λ t. cond (leb (t + d) k) 1 0)
    (λ t. cond (u t) 0 1 + (cond (leaves u v false d k t) 1 0 + cond (leb (t + d) k) (cond (v (t + d)) 1 0) 0)) (k + 1)
    (λ t l. node_once (u t) (v (t + d)) (leb (t + d) k)) in
    omega (
      arith,
      late,
      each,
      in_time_count d k,
      sum_by-add (λ t. cond (u t) 0 1) (λ t. cond (leaves u v false d k t) 1 0 + cond (leb (t + d) k) (cond (v (t + d)) 1 0) 0) (below (k + 1)),
      sum_by-add (λ t. cond (leaves u v false d k t) 1 0) (λ t. cond (leb (t + d) k) (cond (v (t + d)) 1 0) 0) (below (k + 1)),
      arrivals_count (λ s. cond (v s) 1 0) d k (k + 1),
      hits_and_misses v (k + 1),
    )

-- the same rate at each of the moments
pub at_rate : (b : ℕ → Bool) (r : ℕ → ℕ) (n : ℕ) → ((t : ℕ) → t < n → r t ≡ r 0) → sum_by (λ t. cond (b t) (r t) 0) (below n) ≡ r 0 * count b n
at_rate b r n steady =
    sum_below-same (λ t. cond (b t) (r t) 0) (λ t. r 0 * cond (b t) 1 0) n (λ t l. times (b t) (r t) (r 0) (steady t l))
    ∙ sum_by-times (r 0) (λ t. cond (b t) 1 0) (below n)
  where
    times : (x : Bool) (w c : ℕ) → w ≡ c → cond x w 0 ≡ c * cond x 1 0
    times x w c h = grind arith

-- ---- the whole

module _ (m : Model) (k : ℕ) where
  -- what a cut takes of a node, and of an arc
  abbrev pub of_node : Cut → ℕ → ℕ
  of_node y n =
      sum_by (λ t. cond (y n t || eqb (entry m n t) 0) 0 (entry m n t)) (moments_to k)
      + sum_by (λ t. cond (y n t && not (y n (t + 1))) (capacity m n) 0) (below k)

  abbrev pub of_arc : Cut → ℕ → ℕ
  of_arc y a = sum_by (λ t. cond (leaves_cut m y k t a) (rate m a t) 0) (moments_to k)

  pub nodes_and_arcs : (y : Cut) → cut_value m y k ≡ sum_by (of_node y) (places m.nodes) + sum_by (of_arc y) (places m.arcs)
  nodes_and_arcs y =
      omega (
        arith,
        value_is m y k,
        sum_by-add (λ n. sum_by (λ t. cond (y n t || eqb (entry m n t) 0) 0 (entry m n t)) (moments_to k))
            (λ n. sum_by (λ t. cond (y n t && not (y n (t + 1))) (capacity m n) 0) (below k)) (places m.nodes),
        sum_by-exchange (λ t a. cond (leaves_cut m y k t a) (rate m a t) 0) (moments_to k) (places m.arcs),
      )

module _ (m : Model) (x : Cut) (k : ℕ) (l : k ≤ m.horizon) (steady : HasSteadyRates m) (room : HasRoomForEntries m) where
  abbrev late : Cut
  late = from_moments (moments_outside x k)

  -- the rate of an arc, as often as a test holds
  pub rate_times : (a : ℕ) → a < length m.arcs → (b : ℕ → Bool) → sum_by (λ t. cond (b t) (rate m a t) 0) (moments_to k) ≡ rate m a 0 * count b (k + 1)
  rate_times a i b = at_rate b (rate m a) (k + 1) (λ t s. steady a t i (omega (arith, s, l)))

  pub waiting_arc : (a : ℕ) → a < length m.arcs → of_arc m k late a ≤ of_arc m k x a
  waiting_arc a i =
      omega (
        arith,
        rate_times a i (λ t. leaves_cut m late k t a),
        rate_times a i (λ t. leaves_cut m x k t a),
        mul-le-mul_left (rate m a 0) (arc_le (x (tail m a)) (x (head m a)) (is_exit_at m (head m a)) (arc_at m a).travel k),
      )

  pub waiting_node : (n : ℕ) → n < length m.nodes → of_node m k late n ≤ of_node m k x n
  waiting_node n i = node_le (x n) (capacity m n) (entry m n) k (omega (arith, sum_moments-le (entry m n) k m.horizon l, room n i))

  pub waiting_cut : cut_value m late k ≤ cut_value m x k
  waiting_cut =
      omega (
        arith,
        nodes_and_arcs m k late,
        nodes_and_arcs m k x,
        termwise (of_node m k late) (of_node m k x) (length m.nodes) waiting_node,
        termwise (of_arc m k late) (of_arc m k x) (length m.arcs) waiting_arc,
      )
