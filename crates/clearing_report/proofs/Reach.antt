-- Whoever starts in a node from which no walk ends by a moment isn't out by then.
use Rattle.std.proofs.Common.{◌≡◌, ℕ, zero, suc, ◌+◌, ◌-◌, ◌<◌, ◌≤◌, ◌⊎◌, inl, inr, Bool, true, false, cond, not, ◌&&◌, ◌||◌, eqb, ltb, leb, List, [], ◌∷◌, length, get_or, refl, ap, ap₂, sym, ◌∙◌, arith, Some}
use Rattle.std.specs.List.{list_any, sum_by}
use Rattle.std.proofs.lemmas.Bool.{both_ways, cases_Bool, cases_lt, leb-true, lt-ltb, or_right}
use Rattle.std.proofs.lemmas.Bool.Decides.{nat_tests}
use Rattle.std.proofs.lemmas.List.Folds.{Any-from_list_any, list_any_at}
use Rattle.std.proofs.lemmas.List.FromFn.{get_or-range_with_len, length-range_with_len}
use Rattle.evac_law.specs.declared.model.Model.{Model}
use Rattle.evac_law.specs.declared.plan.Move.{Move}
use Rattle.evac_law.specs.Building.{IsValid, arc_at, arrival, capacity, entry, entered_by, head, is_exit_at, node_at, people, rate, start, tail}
use Rattle.evac_law.specs.Cuts.{Cut, cut_value, leaves_cut}
use Rattle.evac_law.specs.Plans.{IsFeasible, out_by}
use Rattle.evac_law.specs.Sums.{below, moments_to, places}
use Rattle.evac_law.specs.Windows.{is_closed_at}
use Rattle.evac_law.proofs.Entries.{entered_le}
use Rattle.evac_law.proofs.SumLemmas.{All-below, sum_below-pick, sum_by-add, sum_by-le_all, sum_by-nothing, sum_by-same, sum_by-same_all}
use Rattle.evac_law.proofs.ValidLemmas.{arc_is}
use Rattle.evac_law.proofs.WeakDuality.{out_le_value, value_is}
use Rattle.clearing_report.specs.Walks.{IsStartNode, IsUncongested, Walk, is_open, walk_time}
use Rattle.clearing_report.proofs.TimeLemmas.{time_cons}

-- ---- whether a walk is in time

-- whether a walk of at most so many arcs from a node takes no longer than d
abbrev near : Model → ℕ → ℕ → ℕ → Bool
near m zero d n = is_exit_at m n
near m (suc f) d n =
    is_exit_at m n
    || list_any (λ a. (is_open m a && eqb (tail m a) n) && (leb (arc_at m a).travel d && near m f (d - (arc_at m a).travel) (head m a))) (places m.arcs)

module _ (m : Model) (valid : IsValid m) where
  abbrev InTime : ℕ → ℕ → Type 0
  InTime d n = (arcs : List ℕ) × Walk m n arcs × (walk_time m arcs ≤ d)

  -- whether an arc leads from a node to one that is near in the rest of the time
  abbrev leads : ℕ → ℕ → ℕ → ℕ → Bool
  leads f d n a = (is_open m a && eqb (tail m a) n) && (leb (arc_at m a).travel d && near m f (d - (arc_at m a).travel) (head m a))

  leads_parts : (o near : Bool) (from n travel d : ℕ) → ((o && eqb from n) && (leb travel d && near)) ≡ true
      → (o ≡ true) × (from ≡ n) × (travel ≤ d) × (near ≡ true)
  leads_parts o near from n travel d e = (grind (arith, nat_tests), grind (arith, nat_tests), grind (arith, nat_tests), grind (arith, nat_tests))

  all_lead : (o near : Bool) (from n travel d : ℕ) → o ≡ true → from ≡ n → travel ≤ d → near ≡ true → ((o && eqb from n) && (leb travel d && near)) ≡ true
  all_lead o near from n travel d p q l e = grind (arith, nat_tests)

  second : (b c : Bool) → b ≡ false → (b || c) ≡ true → c ≡ true
  second b c e f = grind arith

  walk_of : (f d n : ℕ) → near m f d n ≡ true → InTime d n
  walk_of zero d n e = ([], e, omega arith)
  walk_of (suc f) d n e = elim (cases_Bool (is_exit_at m n)) [
    | inl exit ↦ ([], exit, omega arith)
    | inr inner ↦
        let some = Any-from_list_any (leads f d n) (places m.arcs) (second (is_exit_at m n) (list_any (leads f d n) (places m.arcs)) inner e) in
        let a = some.1 in
        let in_arcs : some.0 < length m.arcs = omega (arith, some.2, length-range_with_len 0 (length m.arcs)) in
        let place : a ≡ some.0 = omega (arith, sym some.3 ∙ get_or-range_with_len 0 (length m.arcs) some.0 a in_arcs) in
        let is = leads_parts (is_open m a) (near m f (d - (arc_at m a).travel) (head m a)) (tail m a) n (arc_at m a).travel d some.4 in
        let rest = walk_of f (d - (arc_at m a).travel) (head m a) is.3 in
        (a ∷ rest.0, (omega (arith, place, in_arcs), is.0, is.1, rest.1), omega (arith, time_cons m a rest.0, rest.2, is.2))
  ]

  near_by : (f d n : ℕ) (arcs : List ℕ) → Walk m n arcs → length arcs ≤ f → walk_time m arcs ≤ d → near m f d n ≡ true
  near_by zero d n [] w few short = w
  near_by zero d n (a ∷ arcs) w few short = absurd (omega (arith, few))
  near_by (suc f) d n [] w few short = ap (λ b. b || list_any (leads f d n) (places m.arcs)) w
  near_by (suc f) d n (a ∷ arcs) w few short =
      let time = time_cons m a arcs in
      let rest = near_by f (d - (arc_at m a).travel) (head m a) arcs w.3 (omega (arith, few)) (omega (arith, time, short)) in
      let place : get_or (places m.arcs) a 0 ≡ a = omega (arith, get_or-range_with_len 0 (length m.arcs) a 0 w.0) in
      let this = all_lead (is_open m a) (near m f (d - (arc_at m a).travel) (head m a)) (tail m a) n (arc_at m a).travel d w.1 w.2 (omega (arith, time, short)) rest in
      or_right (is_exit_at m n) (list_any (leads f d n) (places m.arcs))
      (list_any_at (leads f d n) (places m.arcs) a 0 (omega (arith, w.0, length-range_with_len 0 (length m.arcs)))
      (ap (leads f d n) place ∙ this))

  -- each arc takes time
  few_arcs : (n : ℕ) (arcs : List ℕ) → Walk m n arcs → length arcs ≤ walk_time m arcs
  few_arcs n [] w = omega arith
  few_arcs n (a ∷ arcs) w = omega (arith, time_cons m a arcs, few_arcs (head m a) arcs w.3, (arc_is m a valid w.0).travel_fits.0)

  near_in : (d n : ℕ) → InTime d n → near m d d n ≡ true
  near_in d n walk = near_by d d n walk.0 walk.1 (omega (arith, few_arcs n walk.0 walk.1, walk.2)) walk.2

  -- ---- the cut of those who come too late

  module _ (k : ℕ) where
    abbrev late : Cut
    late n t = not (near m (k - t) (k - t) n)

    no_hold : (n t : ℕ) → cond (late n t && not (late n (t + 1))) (capacity m n) 0 ≡ 0
    no_hold n t =
        none (near m (k - t) (k - t) n) (near m (k - (t + 1)) (k - (t + 1)) n) (capacity m n)
        (λ e. let walk = walk_of (k - (t + 1)) (k - (t + 1)) n e in near_in (k - t) n (walk.0, walk.1, omega (arith, walk.2)))
      where
        none : (a b : Bool) (c : ℕ) → (b ≡ true → a ≡ true) → cond (not a && not (not b)) c 0 ≡ 0
        none a b c h = grind arith

    shut_rate : (r : ℕ) (s x c : Bool) → (ltb 0 r && not (s || x)) ≡ false → cond ((s || x) || c) 0 r ≡ 0
    shut_rate r s x c e = grind (arith, nat_tests)

    crossing : (u l e v : Bool) → (not u && (l && (e || not (not v)))) ≡ true → (u ≡ false) × (l ≡ true) × ((e ≡ true) ⊎ (v ≡ true))
    crossing false true true v h = (refl, refl, inl refl)
    crossing false true false true h = (refl, refl, inr refl)
    crossing false true false false h = cc
    crossing false false e v h = cc
    crossing true l e v h = cc

    never : (t a : ℕ) → a < length m.arcs → is_open m a ≡ true → leaves_cut m late k t a ≡ true → ⊥
    never t a i o e =
        let is = crossing (near m (k - t) (k - t) (tail m a)) (leb (arrival m a t) k) (is_exit_at m (head m a))
        (near m (k - arrival m a t) (k - arrival m a t) (head m a)) e in
        let in_time = leb-true (arrival m a t) k is.1 in
        let rest : InTime (k - arrival m a t) (head m a) = elim is.2 [
          | inl exit ↦ ([], exit, omega arith)
          | inr on ↦ walk_of (k - arrival m a t) (k - arrival m a t) (head m a) on
        ] in
        both_ways (near m (k - t) (k - t) (tail m a))
        is.0
        (near_in (k - t) (tail m a) (a ∷ rest.0, (i, o, refl, rest.1), omega (arith, time_cons m a rest.0, rest.2, in_time)))

    no_rate : (t a : ℕ) → a < length m.arcs → cond (leaves_cut m late k t a) (rate m a t) 0 ≡ 0
    no_rate t a i = elim (cases_Bool (leaves_cut m late k t a)) [
      | inr stays ↦ ap (λ b. cond b (rate m a t) 0) stays
      | inl leaves ↦ ap (λ b. cond b (rate m a t) 0) leaves ∙ elim (cases_Bool (is_open m a)) [
        | inl open_arc ↦ absurd (never t a i open_arc leaves)
        | inr shut ↦ shut_rate (arc_at m a).rate (arc_at m a).shut (node_at m (head m a)).shut (is_closed_at (arc_at m a).windows.items t) shut
      ]
    ]

    abbrev paid : ℕ → ℕ → ℕ
    paid n t = cond (late n t || eqb (entry m n t) 0) 0 (entry m n t)

    value : cut_value m late k ≡ sum_by (λ n. sum_by (paid n) (moments_to k)) (places m.nodes)
    value =
        let holds : sum_by (λ n. sum_by (λ t. cond (late n t && not (late n (t + 1))) (capacity m n) 0) (below k)) (places m.nodes) ≡ 0 =
        sum_by-same _ (λ _. 0) (places m.nodes) (λ n. sum_by-same _ (λ _. 0) (below k) (no_hold n) ∙ sum_by-nothing (below k)) ∙ sum_by-nothing (places m.nodes) in
        let arcs : sum_by (λ t. sum_by (λ a. cond (leaves_cut m late k t a) (rate m a t) 0) (places m.arcs)) (moments_to k) ≡ 0 =
        sum_by-same _ (λ _. 0) (moments_to k)
        (λ t. sum_by-same_all _ (λ _. 0) (places m.arcs) (All-below (λ a. cond (leaves_cut m late k t a) (rate m a t) 0 ≡ 0) (length m.arcs) (no_rate t))
        ∙ sum_by-nothing (places m.arcs))
        ∙ sum_by-nothing (moments_to k) in
        omega (arith, value_is m late k, holds, arcs)

    -- ---- without those who start too far away

    module _ (i : ℕ) (l : i < length m.nodes) (far : late i 0 ≡ true) where
      abbrev own : ℕ → ℕ
      own n = cond (eqb i n) (start m n) 0

      spared : (n t s e : ℕ) (b : Bool) → (t ≡ 0 → e ≡ s) → (i ≡ n → t ≡ 0 → b ≡ true)
          → cond (b || eqb e 0) 0 e + cond (eqb 0 t) (cond (eqb i n) s 0) 0 ≤ e
      spared n t s e b h g = grind (arith, nat_tests)

      first : (n t : ℕ) → t ≡ 0 → entry m n t ≡ start m n
      first n t e = ap (entry m n) e

      far_at : (n t : ℕ) → i ≡ n → t ≡ 0 → late n t ≡ true
      far_at n t e f = sym (ap₂ late e (sym f)) ∙ far

      by_node : (n : ℕ) → sum_by (paid n) (moments_to k) + own n ≤ sum_by (entry m n) (moments_to k)
      by_node n =
          omega (
            arith,
            sum_by-le_all (λ t. paid n t + cond (eqb 0 t) (own n) 0) (entry m n) (moments_to k)
                (All-below _ (k + 1) (λ t _. spared n t (start m n) (entry m n t) (late n t) (first n t) (far_at n t))),
            sum_by-add (paid n) (λ t. cond (eqb 0 t) (own n) 0) (moments_to k),
            sum_below-pick (λ t. own n) (k + 1) 0,
            ap (λ b. cond b (own n) 0) (lt-ltb 0 (k + 1) (omega arith)),
          )

      fewer : cut_value m late k + start m i ≤ people m
      unfolding entered_by
      fewer =
          omega (
            arith,
            value,
            sum_by-le_all (λ n. sum_by (paid n) (moments_to k) + own n) (λ n. sum_by (entry m n) (moments_to k)) (places m.nodes)
                (All-below _ (length m.nodes) (λ n _. by_node n)),
            sum_by-add (λ n. sum_by (paid n) (moments_to k)) own (places m.nodes),
            sum_below-pick (start m) (length m.nodes) i,
            ap (λ b. cond b (start m i) 0) (lt-ltb i (length m.nodes) l),
            entered_le m k,
          )

  -- ---- plans

  too_far : (k n : ℕ) → ((arcs : List ℕ) → Walk m n arcs → k < walk_time m arcs) → late k n 0 ≡ true
  too_far k n h = elim (cases_Bool (near m (k - 0) (k - 0) n)) [
    | inl e ↦ let walk = walk_of (k - 0) (k - 0) n e in absurd (omega (arith, h walk.0 walk.1, walk.2))
    | inr e ↦ ap not e
  ]

  pub late_start : (p : List Move) (k n : ℕ) → IsFeasible m p k → IsStartNode m n → ((arcs : List ℕ) → Walk m n arcs → k < walk_time m arcs)
      → out_by m p k + start m n ≤ people m
  late_start p k n feasible s h = omega (arith, out_le_value m (late k) p k valid feasible, fewer k n s.0 (too_far k n h))

  pub some_walk : (p : List Move) → IsFeasible m p m.horizon → out_by m p m.horizon ≡ people m → (n : ℕ) → IsStartNode m n → ((arcs : List ℕ) → Walk m n arcs → ⊥) → ⊥
  some_walk p feasible all_out n s h = omega (arith, late_start p m.horizon n feasible s (λ arcs w. absurd (h arcs w)), all_out, s.1)

  pub uncongested_is_least : (p : List Move) (u k : ℕ) → IsUncongested m (Some u) → IsFeasible m p k → out_by m p k ≡ people m → u ≤ k
  uncongested_is_least p u k is feasible all_out = elim is.least [
    | inl none ↦ omega (arith, none)
    | inr far ↦ elim (cases_lt k u) [
      | inr enough ↦ enough
      | inl sooner ↦ absurd (omega (arith, late_start p k far.0 feasible far.1 (λ arcs w. omega (arith, far.2 arcs w, sooner)), all_out, far.1.1))
    ]
  ]
