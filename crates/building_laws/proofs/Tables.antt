-- What goes out of a node and comes into it at each moment, by tables of who enters each arc and of who stays in each node.
use Rattle.std.proofs.Common.{◌≡◌, ℕ, zero, suc, ◌+◌, ◌-◌, ◌<◌, ◌≤◌, Bool, true, cond, ◌&&◌, eqb, ltb, leb, List, length, refl, ap, ap₂, sym, ◌∙◌, arith, inl, inr, IsFalse}
use Rattle.std.specs.List.{sum_by, All}
use Rattle.std.proofs.lemmas.Bool.{cases_Bool, eq-eqb, eqb-true, le-leb, lt-ltb}
use Rattle.std.proofs.lemmas.Bool.Decides.{nat_tests}
use Rattle.std.proofs.lemmas.Int.{ints}
use Rattle.evac_law.specs.declared.model.Model.{Model}
use Rattle.evac_law.specs.declared.plan.Move.{Move}
use Rattle.evac_law.specs.Building.{arc_at, arrival, capacity, entry, head, is_exit_at, rate, tail}
use Rattle.evac_law.specs.Moves.{moves_of}
use Rattle.evac_law.specs.Plans.{IsFeasible, came, coming, held, leaving, left, moved, out_by}
use Rattle.evac_law.specs.Sums.{below, places}
use Rattle.evac_law.proofs.Curve.{by_arc}
use Rattle.evac_law.proofs.MoveLemmas.{arcs-moves_of, moved-moves_of}
use Rattle.evac_law.proofs.SumLemmas.{gather, gather_one, pick_le, same_pair, split_cond, sum2, sum2-add, sum2-same, sum_below-pick, sum_below-same, sum_by-add, sum_by-nothing, sum_by-same}
use Rattle.evac_law.proofs.WeakDuality.{came-suc, came-zero, left-suc, left-zero, within}

-- ---- tables

-- who goes out of a node at a moment, and who comes to it along arcs
unfoldable pub goes : Model → (ℕ → ℕ → ℕ) → ℕ → ℕ → ℕ
goes m f n t = sum_by (λ a. cond (eqb (tail m a) n) (f a t) 0) (places m.arcs)

unfoldable pub comes : Model → (ℕ → ℕ → ℕ) → ℕ → ℕ → ℕ
comes m f n t = sum_by (λ a. cond (eqb (head m a) n && leb (arc_at m a).travel t) (f a (t - (arc_at m a).travel)) 0) (places m.arcs)

-- who comes to an exit by moment k
unfoldable pub gone : Model → ℕ → (ℕ → ℕ → ℕ) → ℕ
gone m k f = sum2 (length m.arcs) (k + 1) (λ a t. cond (is_exit_at m (head m a) && leb (arrival m a t) k) (f a t) 0)

-- who stayed in a node from the moment before
abbrev pub before : (ℕ → ℕ → ℕ) → ℕ → ℕ → ℕ
before h n zero = 0
before h n (suc t) = h n t

-- rates and capacities are kept up to k, and whoever comes to a node goes on, stays, or is one of the extra people
pub record IsFlow (m : Model) (k : ℕ) (f h extra : ℕ → ℕ → ℕ) : Type 0 where
  pub rates : (a t : ℕ) → a < length m.arcs → t ≤ k → f a t ≤ rate m a t
  pub rooms : (n t : ℕ) → n < length m.nodes → IsFalse (is_exit_at m n) → t ≤ k → h n t ≤ capacity m n
  pub balance : (n t : ℕ) → n < length m.nodes → IsFalse (is_exit_at m n) → t ≤ k
      → (entry m n t + before h n t) + comes m f n t ≡ (goes m f n t + h n t) + extra n t

-- ---- of a plan

goes_moved : (m : Model) (q : List Move) (n t : ℕ) → All (λ v. v.arc < length m.arcs) q → leaving m q n t ≡ goes m (moved q) n t
unfolding leaving goes moved
goes_moved m q n t h = sym (by_arc (λ a. eqb (tail m a) n) (λ a. t) (length m.arcs) q h)

in_time : (e : Bool) (t d k w : ℕ) → cond ((e && leb d k) && eqb t (k - d)) w 0 ≡ cond (e && eqb (t + d) k) w 0
in_time e t d k w = grind (arith, nat_tests)

comes_moved : (m : Model) (q : List Move) (n t : ℕ) → All (λ v. v.arc < length m.arcs) q → coming m q n t ≡ comes m (moved q) n t
unfolding coming comes moved
comes_moved m q n t h =
    sym (
    by_arc (λ a. eqb (head m a) n && leb (arc_at m a).travel t) (λ a. t - (arc_at m a).travel) (length m.arcs) q h
    ∙ sum_by-same _ _ q (λ v. in_time (eqb (head m v.arc) n) v.moment (arc_at m v.arc).travel t v.people)
    )

arrived : (e : Bool) (t r k w : ℕ) → t ≤ r → cond (ltb t (k + 1) && (e && leb r k)) w 0 ≡ cond (e && leb r k) w 0
arrived e t r k w l = grind (arith, nat_tests)

pub gone_moved : (m : Model) (k : ℕ) (q : List Move) → All (λ v. v.arc < length m.arcs) q → out_by m q k ≡ gone m k (moved q)
unfolding out_by gone moved
gone_moved m k q h =
    sym (
    gather (λ v. v.arc) (λ v. v.moment) (λ v. v.people) (λ a t. is_exit_at m (head m a) && leb (arrival m a t) k) (length m.arcs) (k + 1) q h
    ∙ sum_by-same _ _ q (λ v. arrived (is_exit_at m (head m v.arc)) v.moment (arrival m v.arc v.moment) k v.people (omega arith))
    )

-- who is in a node
abbrev pub stays : Model → List Move → ℕ → ℕ → ℕ
stays m q n t = came m q n t - left m q n t

pub flow_of_plan : (m : Model) (k : ℕ) (q : List Move) → IsFeasible m q k → IsFlow m k (moved q) (stays m q) (λ _ _. 0)
flow_of_plan m k q feasible = record {
  rates = feasible.rates;
  rooms = λ n t i e l. let fits = within m q n t (capacity m n) (feasible.holds n t i e l) in omega (arith, fits.0, fits.1);
  balance = λ n t i e l. balanced n i e t l;
}
  where
    balanced : (n : ℕ) → n < length m.nodes → IsFalse (is_exit_at m n) → (t : ℕ) → t ≤ k
        → (entry m n t + before (stays m q) n t) + comes m (moved q) n t ≡ (goes m (moved q) n t + stays m q n t) + 0
    balanced n i e zero l =
        let fits = within m q n 0 (capacity m n) (feasible.holds n 0 i e l) in
        omega (arith, fits.0, came-zero m q n, left-zero m q n, goes_moved m q n 0 feasible.arcs, comes_moved m q n 0 feasible.arcs)
    balanced n i e (suc t) l =
        let now = within m q n (suc t) (capacity m n) (feasible.holds n (suc t) i e l) in
        let last = within m q n t (capacity m n) (feasible.holds n t i e (omega (arith, l))) in
        omega (
          arith,
          now.0,
          last.0,
          came-suc m q n t,
          left-suc m q n t,
          goes_moved m q n (suc t) feasible.arcs,
          comes_moved m q n (suc t) feasible.arcs,
        )

-- ---- a plan of tables

module _ (m : Model) (k : ℕ) (f h : ℕ → ℕ → ℕ) (flow : IsFlow m k f h (λ _ _. 0)) where
  abbrev pub plan : List Move
  plan = moves_of (length m.arcs) k f

  same : (a t : ℕ) → a < length m.arcs → t ≤ k → moved plan a t ≡ f a t
  same a t i l = moved-moves_of (length m.arcs) k f a t i l

  pub arcs_in : All (λ v. v.arc < length m.arcs) plan
  arcs_in = arcs-moves_of (length m.arcs) k f

  goes_same : (n t : ℕ) → t ≤ k → goes m (moved plan) n t ≡ goes m f n t
  unfolding goes
  goes_same n t l = grind (arith, sum_below-same, same)

  comes_same : (n t : ℕ) → t ≤ k → comes m (moved plan) n t ≡ comes m f n t
  unfolding comes
  comes_same n t l = grind (arith, sum_below-same, same)

  gone_same : (c : ℕ) → c ≤ k → gone m c (moved plan) ≡ gone m c f
  unfolding gone
  gone_same c s = grind (arith, sum_below-same, same)

  pub out_is : (c : ℕ) → c ≤ k → out_by m plan c ≡ gone m c f
  out_is c s = gone_moved m c plan arcs_in ∙ gone_same c s

  holds_is : (n : ℕ) → n < length m.nodes → IsFalse (is_exit_at m n) → (t : ℕ) → t ≤ k → came m plan n t ≡ left m plan n t + h n t
  holds_is n i e zero l = grind (arith, came-zero, left-zero, goes_moved, arcs_in, comes_moved, goes_same, comes_same)
  holds_is n i e (suc t) l =
      omega (
        arith,
        came-suc m plan n t,
        left-suc m plan n t,
        goes_moved m plan n (suc t) arcs_in,
        comes_moved m plan n (suc t) arcs_in,
        goes_same n (suc t) l,
        comes_same n (suc t) l,
        flow.balance n (suc t) i e l,
        holds_is n i e t (omega (arith, l)),
      )

  pub plan_is_feasible : IsFeasible m plan k
  unfolding held
  plan_is_feasible = record {
    arcs = arcs_in;
    rates = λ a t i l. omega (arith, same a t i l, flow.rates a t i l);
    holds = λ n t i e l.
        let is = holds_is n i e t l in
        let fits = flow.rooms n t i e l in
        (omega (arith, ints, is), omega (arith, ints, is, fits));
  }

-- ---- one person more on an arc, or in a node

-- a table is another one with one more at a pair
abbrev pub IsMore : (ℕ → ℕ → ℕ) → (ℕ → ℕ → ℕ) → ℕ → ℕ → Type 0
IsMore f g a t = (b s : ℕ) → g b s ≡ f b s + cond (eqb a b && eqb t s) 1 0

abbrev pub point : ℕ → ℕ → ℕ → ℕ → ℕ
point a t b s = cond (eqb a b && eqb t s) 1 0

pub one_added : (f : ℕ → ℕ → ℕ) (a t : ℕ) → IsMore f (λ b s. f b s + point a t b s) a t
one_added f a t b s = refl

pub one_taken : (f : ℕ → ℕ → ℕ) (a t : ℕ) → 0 < f a t → IsMore (λ b s. f b s - point a t b s) f a t
one_taken f a t some b s = elim (cases_Bool (eqb a b && eqb t s)) [
  | inl here ↦ at_pair here
  | inr away ↦ let none : point a t b s ≡ 0 = ap (λ z. cond z 1 0) away in omega (arith, none)
]
  where
    at_pair : (eqb a b && eqb t s) ≡ true → f b s ≡ (f b s - point a t b s) + point a t b s
    at_pair e =
        let pair = same_pair a b t s e in
        let one : point a t b s ≡ 1 = ap (λ z. cond z 1 0) e in
        omega (arith, one, some, ap₂ f pair.0 pair.1)

split : (p e q : Bool) (x : ℕ) → cond p (x + cond (e && q) 1 0) 0 ≡ cond p x 0 + cond e (cond (p && q) 1 0) 0
split p e q x = grind arith

-- a sum over the arcs, each at one moment
picked : (p : ℕ → Bool) (f g : ℕ → ℕ → ℕ) (s : ℕ → ℕ) (a t n : ℕ) → a < n → IsMore f g a t
    → sum_by (λ b. cond (p b) (g b (s b)) 0) (below n) ≡ sum_by (λ b. cond (p b) (f b (s b)) 0) (below n) + cond (p a && eqb t (s a)) 1 0
picked p f g s a t n l more =
    sum_by-same (λ b. cond (p b) (g b (s b)) 0) (λ b. cond (p b) (f b (s b)) 0 + cond (eqb a b) (cond (p b && eqb t (s b)) 1 0) 0) (below n)
    (λ b. ap (λ w. cond (p b) w 0) (more b (s b)) ∙ split (p b) (eqb a b) (eqb t (s b)) (f b (s b)))
    ∙ sum_by-add (λ b. cond (p b) (f b (s b)) 0) (λ b. cond (eqb a b) (cond (p b && eqb t (s b)) 1 0) 0) (below n)
    ∙ ap (λ w. sum_by (λ b. cond (p b) (f b (s b)) 0) (below n) + w)
    (sum_below-pick (λ b. cond (p b && eqb t (s b)) 1 0) n a ∙ ap (λ z. cond z (cond (p a && eqb t (s a)) 1 0) 0) (lt-ltb a n l))

pub goes_more : (m : Model) (f g : ℕ → ℕ → ℕ) (a t n s : ℕ) → a < length m.arcs → IsMore f g a t
    → goes m g n s ≡ goes m f n s + point (tail m a) t n s
unfolding goes
goes_more m f g a t n s l more = picked (λ b. eqb (tail m b) n) f g (λ b. s) a t (length m.arcs) l more

pub comes_more : (m : Model) (f g : ℕ → ℕ → ℕ) (a t n s : ℕ) → a < length m.arcs → IsMore f g a t
    → comes m g n s ≡ comes m f n s + point (head m a) (arrival m a t) n s
unfolding comes
comes_more m f g a t n s l more =
    picked (λ b. eqb (head m b) n && leb (arc_at m b).travel s) f g (λ b. s - (arc_at m b).travel) a t (length m.arcs) l more
    ∙ ap (λ w. sum_by (λ b. cond (eqb (head m b) n && leb (arc_at m b).travel s) (f b (s - (arc_at m b).travel)) 0) (places m.arcs) + w)
    (in_time (eqb (head m a) n) t (arc_at m a).travel s 1)

pub gone_more : (m : Model) (k : ℕ) (f g : ℕ → ℕ → ℕ) (a t : ℕ) → a < length m.arcs → IsMore f g a t
    → gone m k g ≡ gone m k f + cond (is_exit_at m (head m a) && leb (arrival m a t) k) 1 0
unfolding gone
gone_more m k f g a t i more =
    let p = λ (b s : ℕ). is_exit_at m (head m b) && leb (arrival m b s) k in
    sum2-same (length m.arcs) (k + 1) (λ b s. cond (p b s) (g b s) 0) (λ b s. cond (p b s) (f b s) 0 + cond (p b s) (point a t b s) 0)
    (λ b s. ap (λ w. cond (p b s) w 0) (more b s) ∙ split_cond (p b s) (f b s) (point a t b s))
    ∙ sum2-add (length m.arcs) (k + 1) (λ b s. cond (p b s) (f b s) 0) (λ b s. cond (p b s) (point a t b s) 0)
    ∙ ap (λ w. sum2 (length m.arcs) (k + 1) (λ b s. cond (p b s) (f b s) 0) + w)
    (gather_one p 1 a t (length m.arcs) (k + 1) i ∙ arrived (is_exit_at m (head m a)) t (arrival m a t) k 1 (omega arith))

pub before_more : (h j : ℕ → ℕ → ℕ) (n t : ℕ) → IsMore h j n t → (i s : ℕ) → before j i s ≡ before h i s + point n (t + 1) i s
before_more h j n t more i zero = later (eqb n i) t
  where
    later : (b : Bool) (t : ℕ) → 0 ≡ 0 + cond (b && eqb (t + 1) 0) 1 0
    later b t = grind (arith, nat_tests)
before_more h j n t more i (suc s) = more i s ∙ ap (λ w. h i s + w) (next (eqb n i) t s)
  where
    next : (b : Bool) (t s : ℕ) → ◌≡◌ {A = ℕ} (cond (b && eqb t s) 1 0) (cond (b && eqb (t + 1) (suc s)) 1 0)
    next b t s = grind (arith, nat_tests)

-- whoever sets out along an arc comes to its end
pub comes_least : (m : Model) (f : ℕ → ℕ → ℕ) (a t : ℕ) → a < length m.arcs → f a t ≤ comes m f (head m a) (arrival m a t)
unfolding comes
comes_least m f a t l =
    let d = (arc_at m a).travel in
    let term = λ (b : ℕ). cond (eqb (head m b) (head m a) && leb (arc_at m b).travel (t + d)) (f b (t + d - (arc_at m b).travel)) 0 in
    let now : t + d - d ≡ t = omega arith in
    let here : term a ≡ f a t = both (eqb (head m a) (head m a)) (leb d (t + d)) (eq-eqb (head m a) (head m a) refl) (le-leb d (t + d) (omega arith)) ∙ ap (f a) now in
    omega (arith, pick_le term (length m.arcs) a l, here)
  where
    both : (p q : Bool) {w : ℕ} → p ≡ true → q ≡ true → cond (p && q) w 0 ≡ w
    both p q e h = rw e (rw h refl)

-- nobody goes out of a node where nobody sets out along any of its arcs
pub goes_none : (m : Model) (f : ℕ → ℕ → ℕ) (n t : ℕ) → ((a : ℕ) → a < length m.arcs → tail m a ≡ n → f a t ≡ 0) → goes m f n t ≡ 0
unfolding goes
goes_none m f n t h =
    sum_below-same (λ a. cond (eqb (tail m a) n) (f a t) 0) (λ _. 0) (length m.arcs) (λ a i. each a i) ∙ sum_by-nothing (below (length m.arcs))
  where
    each : (a : ℕ) → a < length m.arcs → cond (eqb (tail m a) n) (f a t) 0 ≡ 0
    each a i = elim (cases_Bool (eqb (tail m a) n)) [
      | inl same ↦ ap (λ b. cond b (f a t) 0) same ∙ h a i (eqb-true (tail m a) n same)
      | inr other ↦ ap (λ b. cond b (f a t) 0) other
    ]
