-- What a cut takes that has each node from a moment of its own on, and what it takes where some moments are left out.
use Rattle.std.proofs.Common.{◌≡◌, ℕ, ◌+◌, ◌-◌, ◌*◌, ◌<◌, ◌≤◌, Bool, true, cond, not, ◌&&◌, ◌||◌, eqb, leb, [], length, min, max, ap, ◌∙◌, arith}
use Rattle.std.specs.List.{sum_by}
use Rattle.std.proofs.Math.Nat.{mul-le-mul_left}
use Rattle.std.proofs.lemmas.Bool.{lt-ltb}
use Rattle.std.proofs.lemmas.Bool.Decides.{nat_tests}
use Rattle.evac_law.specs.declared.model.Model.{Model}
use Rattle.evac_law.specs.Building.{arc_at, capacity, entry, head, is_exit_at, no_node, people, rate, start, tail}
use Rattle.evac_law.specs.Cuts.{cut_value, leaves_cut}
use Rattle.evac_law.specs.Sums.{moments_to, places}
use Rattle.evac_law.proofs.SumLemmas.{sum_below-le, sum_below-pick, sum_by-same, sum_places}
use Rattle.building_laws.specs.Rooms.{HasSteadyRates}
use Rattle.building_laws.proofs.Counts.{count, run_all, run_count, termwise}
use Rattle.building_laws.proofs.Plain.{start_alone}
use Rattle.building_laws.proofs.WaitingCut.{at_rate, from_moments, into_end, leaves, no_holds, nodes_and_arcs, of_arc, of_node}

-- ---- arcs

back_from : (exit : Bool) (f g d k t : ℕ) → g ≤ k + 1 → f ≤ t → t < cond exit (k + 1) g - d
    → (leb f t && (leb (t + d) k && (exit || not (leb g (t + d))))) ≡ true
back_from exit f g d k t s l h = grind (arith, nat_tests)

ends_in : (exit : Bool) (g d k : ℕ) → g ≤ k + 1 → cond exit (k + 1) g - d ≤ k + 1
ends_in exit g d k l = grind arith

-- the moments by which the cut has the head of an arc too late for those who go along it
abbrev pub gap : Bool → ℕ → ℕ → ℕ → ℕ → ℕ
gap exit k d f g = cond exit (k + 1) g - (d + f)

pub gap_is : (exit : Bool) (k d f g : ℕ) → g ≤ k + 1 → count (leaves (λ t. leb f t) (λ t. leb g t) exit d k) (k + 1) ≡ gap exit k d f g
gap_is exit k d f g few =
    let test = leaves (λ t. leb f t) (λ t. leb g t) exit d k in
    let end = cond exit (k + 1) g - d in
    omega (
      arith,
      run_count test f end (k + 1) (into_end exit f g d k),
      run_all test f end (k + 1) (ends_in exit g d k few) (λ t. back_from exit f g d k t few),
    )

pub arc_worth : (m : Model) → HasSteadyRates m → (f : ℕ → ℕ) (k a : ℕ) → k ≤ m.horizon → a < length m.arcs → ((n : ℕ) → f n ≤ k + 1)
    → of_arc m k (from_moments f) a ≡ rate m a 0 * gap (is_exit_at m (head m a)) k (arc_at m a).travel (f (tail m a)) (f (head m a))
arc_worth m steady f k a l i few =
    at_rate (λ t. leaves_cut m (from_moments f) k t a) (rate m a) (k + 1) (λ t s. steady a t i (omega (arith, s, l)))
    ∙ ap (λ c. rate m a 0 * c) (gap_is (is_exit_at m (head m a)) k (arc_at m a).travel (f (tail m a)) (f (head m a)) (few (head m a)))

-- ---- nodes

module _ (m : Model) (nobody : m.entrants ≡ []) where
  pub people_start : people m ≡ sum_by (start m) (places m.nodes)
  unfolding people
  people_start = omega (arith, sum_places (λ n. n.start) m.nodes no_node, ap (sum_by (λ e. e.people)) nobody)

  at_start : (f s t : ℕ) → cond (leb f t || eqb (cond (eqb t 0) s 0) 0) 0 (cond (eqb t 0) s 0) ≡ cond (eqb 0 t) (cond (leb f 0) 0 s) 0
  at_start f s t = grind (arith, nat_tests)

  -- a node pays its start where the cut doesn't have it from the first moment on
  pub node_worth : (f : ℕ → ℕ) (k n : ℕ) → of_node m k (from_moments f) n ≡ cond (leb (f n) 0) 0 (start m n)
  node_worth f k n =
      omega (
        arith,
        no_holds (f n) k (capacity m n),
        sum_by-same (λ t. cond (leb (f n) t || eqb (entry m n t) 0) 0 (entry m n t)) (λ t. cond (eqb 0 t) (cond (leb (f n) 0) 0 (start m n)) 0) (moments_to k)
            (λ t. ap (λ e. cond (leb (f n) t || eqb e 0) 0 e) (start_alone m n t nobody) ∙ at_start (f n) (start m n) t),
        sum_below-pick (λ t. cond (leb (f n) 0) 0 (start m n)) (k + 1) 0,
        ap (λ b. cond b (cond (leb (f n) 0) 0 (start m n)) 0) (lt-ltb 0 (k + 1) (omega arith)),
      )

  -- so a cut that has no room with people from the first moment on is worth everybody
  pub all_paid : (f : ℕ → ℕ) (k : ℕ) → ((n : ℕ) → n < length m.nodes → start m n ≤ cond (leb (f n) 0) 0 (start m n))
      → people m ≤ cut_value m (from_moments f) k
  all_paid f k late =
      omega (
        arith,
        people_start,
        termwise (start m) (of_node m k (from_moments f)) (length m.nodes) (λ n i. omega (arith, node_worth f k n, late n i)),
        nodes_and_arcs m k (from_moments f),
      )

-- ---- w moments left out after a moment c

abbrev pub without_moments : ℕ → ℕ → ℕ → ℕ → ℕ
without_moments c k w x = min (k + 1) (max (min x c) (x - w))

pub gap_shrinks : (exit : Bool) (c k w d f g : ℕ) → gap exit k d (without_moments c k w f) (without_moments c k w g) ≤ gap exit (k + w) d f g
gap_shrinks exit c k w d f g = grind arith

-- where c is when the cut has the tail, the gap closes by w, or whole
pub gap_closes : (exit : Bool) (k w d f g : ℕ) → gap exit k d (without_moments f k w f) (without_moments f k w g) + w ≤ max w (gap exit (k + w) d f g)
gap_closes exit k w d f g = grind arith

module _ (m : Model) (k w c : ℕ) (f : ℕ → ℕ) (few : (n : ℕ) → f n ≤ (k + w) + 1) where
  abbrev pub fewer : ℕ → ℕ
  fewer n = without_moments c k w (f n)

  pub few_fewer : (n : ℕ) → fewer n ≤ k + 1
  few_fewer n = omega arith

  sooner : (f g t e : ℕ) → g ≤ f → cond (leb g t || eqb e 0) 0 e ≤ cond (leb f t || eqb e 0) 0 e
  sooner f g t e l = grind (arith, nat_tests)

  pub node_shrinks : (n : ℕ) → of_node m k (from_moments fewer) n ≤ of_node m (k + w) (from_moments f) n
  node_shrinks n =
      let part = λ (t : ℕ). cond (leb (f n) t || eqb (entry m n t) 0) 0 (entry m n t) in
      omega (
        arith,
        no_holds (fewer n) k (capacity m n),
        termwise (λ t. cond (leb (fewer n) t || eqb (entry m n t) 0) 0 (entry m n t)) part (k + 1)
            (λ t l. sooner (f n) (fewer n) t (entry m n t) (omega arith)),
        sum_below-le part (k + 1) ((k + w) + 1) (omega arith),
      )

  module _ (l : k + w ≤ m.horizon) (steady : HasSteadyRates m) where
    pub arc_shrinks : (a : ℕ) → a < length m.arcs → of_arc m k (from_moments fewer) a ≤ of_arc m (k + w) (from_moments f) a
    arc_shrinks a i =
        omega (
          arith,
          arc_worth m steady fewer k a (omega (arith, l)) i few_fewer,
          arc_worth m steady f (k + w) a l i few,
          mul-le-mul_left (rate m a 0) (gap_shrinks (is_exit_at m (head m a)) c k w (arc_at m a).travel (f (tail m a)) (f (head m a))),
        )
