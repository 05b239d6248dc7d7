-- A window of one arc, and one common window of any arcs.
use Rattle.std.proofs.Common.{◌≡◌, ◌≢◌, ℕ, ◌+◌, ◌-◌, ◌<◌, ◌≤◌, Bool, true, false, cond, not, ◌&&◌, ◌||◌, ◌⊎◌, eqb, leb, ltb, List, [], ◌∷◌, length, min, max, refl, ap, sym, ◌∙◌, subst, arith, inl, inr, Ok, IsFalse}
use Rattle.std.specs.List.{sum_by}
use Rattle.std.proofs.Math.Nat.{mul-le-mul_left}
use Rattle.std.proofs.lemmas.Bool.{and_parts, cases_Bool, cases_lt, eq-eqb, leb-true, not-true}
use Rattle.std.proofs.lemmas.Bool.Decides.{nat_tests}
use Rattle.std.proofs.lemmas.List.{length-set, get_or-set_same, get_or-set_other}
use Rattle.evac_law.specs.declared.edit.Edit.{Edit}
use Rattle.evac_law.specs.declared.edit.Edit.TheVariants.{Window}
use Rattle.evac_law.specs.declared.model.ArcRow.{ArcRow}
use Rattle.evac_law.specs.declared.model.Model.{Model}
use Rattle.evac_law.specs.declared.plan.Move.{Move}
use Rattle.evac_law.specs.declared.window.Window.{Window as ClosureWindow}
use Rattle.evac_law.specs.Building.{IsValid, arc_at, arrival, capacity, entry, head, is_exit_at, no_arc, node_at, people, rate, tail}
use Rattle.evac_law.specs.Cuts.{Cut, cut_value, leaves_cut}
use Rattle.evac_law.specs.Edits.{applied, checks, edited, inverse_of, windows_at, with_windows}
use Rattle.evac_law.specs.Plans.{IsFeasible, out_by}
use Rattle.evac_law.specs.Sums.{below, moments_to}
use Rattle.evac_law.specs.Windows.{is_closed_at, is_within, window_of, with_window}
use Rattle.evac_law.proofs.EditLemmas.{at-set, unless-Ok, valid_edited}
use Rattle.evac_law.proofs.Entries.{entries_le, exit_entry}
use Rattle.evac_law.proofs.Optimal.{out_le_people}
use Rattle.evac_law.proofs.SumLemmas.{pick_le, sum_below-same, sum_by-add, sum_by-nothing, sum_by-same}
use Rattle.evac_law.proofs.ValidLemmas.{arc_is, head_in, tail_in}
use Rattle.evac_law.proofs.WeakDuality.{out_le_value}
use Rattle.building_laws.specs.Delays.{DelaysBy, IsClosedBetween, IsDisturbed, HasRoomForAll}
use Rattle.building_laws.specs.Rooms.{HasRoomForEntries, HasSteadyRates}
use Rattle.building_laws.proofs.Counts.{count, found, run_count, termwise}
use Rattle.building_laws.proofs.Delays.{delayed, delayed_cut, f, few_f, few_g, g, leaves_same, node_same, one_arc_delays_little}
use Rattle.building_laws.proofs.Gaps.{arc_worth, gap, gap_is, without_moments}
use Rattle.building_laws.proofs.WaitingCut.{Settled, drop, drops, from_moments, leaves, nodes_and_arcs, of_arc, of_node, rate_times}

-- ---- a window

-- outside a window an arc is closed when it was without it
closed_with : (ws : List ClosureWindow) (w : ClosureWindow) (t : ℕ) → is_within w t ≡ false → is_closed_at (with_window ws w) t ≡ is_closed_at ws t
closed_with [] w t e = ap (λ b. b || false) e
closed_with (v ∷ vs) w t e = at (ltb w.from v.from) (closed_with vs w t e)
  where
    at : (first : Bool) → is_closed_at (with_window vs w) t ≡ is_closed_at vs t
        → is_closed_at (cond first (w ∷ v ∷ vs) (v ∷ with_window vs w)) t ≡ is_closed_at (v ∷ vs) t
    at first h = grind arith

module _ (m : Model) (a from until : ℕ) (i : a < length m.arcs) where
  abbrev closed : Model
  closed = with_windows m a (with_window (windows_at m a) (window_of from until))

  abbrev arc : ArcRow
  arc = record (arc_at m a) { windows = record { items = with_window (windows_at m a) (window_of from until) } }

  rate_there : (t : ℕ) → is_within (window_of from until) t ≡ false → rate closed a t ≡ rate m a t
  rate_there t e =
      ap (λ (r : ArcRow). cond (r.shut || (node_at m r.to).shut || is_closed_at r.windows.items t) 0 r.rate) (get_or-set_same m.arcs a arc no_arc i)
      ∙ ap (λ b. cond ((arc_at m a).shut || (node_at m (head m a)).shut || b) 0 (arc_at m a).rate) (closed_with (windows_at m a) (window_of from until) t e)

  elsewhere : (b t : ℕ) → b ≢ a → rate m b t ≡ rate closed b t
  elsewhere b t apart =
      ap (λ (r : ArcRow). cond (r.shut || (node_at m r.to).shut || is_closed_at r.windows.items t) 0 r.rate) (sym (get_or-set_other m.arcs a b arc no_arc apart))

  seldom_at : (b c : Bool) → (b ≡ false → c ≡ true) → cond c 0 1 ≤ cond b 1 0
  seldom_at b c h = grind arith

  bounds : (t : ℕ) → is_within (window_of from until) t ≡ true → (from ≤ t) × (t < until)
  bounds t e = (grind (arith, nat_tests), grind (arith, nat_tests))

  disturbed : IsDisturbed m closed a (until - from)
  disturbed = record {
    alike = record {
      horizon = refl;
      nodes = refl;
      entrants = refl;
      arcs = sym (length-set m.arcs a arc);
      tails = λ b. sym (at-set (λ r. r.from) m.arcs a arc no_arc refl b);
      heads = λ b. sym (at-set (λ r. r.to) m.arcs a arc no_arc refl b);
      travels = λ b. sym (at-set (λ r. r.travel) m.arcs a arc no_arc refl b);
    };
    others = λ b t _ apart _. elsewhere b t apart;
    seldom = omega (
      arith,
      run_count (is_within (window_of from until)) from until (m.horizon + 1) bounds,
      termwise (λ t. cond (eqb (rate closed a t) (rate m a t)) 0 1) (λ t. cond (is_within (window_of from until) t) 1 0) (m.horizon + 1)
          (λ t _. seldom_at (is_within (window_of from until) t) (eqb (rate closed a t) (rate m a t)) (λ e. eq-eqb _ _ (rate_there t e))),
    );
  }

pub window_delays_by_its_length : (m m' : Model) (a from until : ℕ) (e : Edit) → IsValid m → a < length m.arcs → applied m (Window a from until) ≡ Ok (m', e)
    → HasSteadyRates m → HasRoomForEntries m → DelaysBy m m' (until - from)
window_delays_by_its_length m m' a from until e valid i h steady room =
    let both = unless-Ok (checks m (Window a from until)) (edited m (Window a from until), inverse_of m (Window a from until)) (m', e) h in
    let same : edited m (Window a from until) ≡ m' = ap (λ t. t.0) both.1 in
    one_arc_delays_little m m' a (until - from) valid (subst IsValid same (valid_edited m (Window a from until) valid i both.0))
    (subst (λ s. IsDisturbed m s a (until - from)) same (disturbed m a from until i)) steady room

-- ---- a common window

-- a moment, where w moments from p on are left out: before them as it was, among them the first, after them w sooner
abbrev left_out : ℕ → ℕ → ℕ → ℕ
left_out p w x = max (min x p) (x - w)

left_out_is : (p w x : ℕ)
    → ((x ≤ p) × (left_out p w x ≡ x)) ⊎ (((p ≤ x) × (x ≤ p + w) × (left_out p w x ≡ p)) ⊎ ((p + w ≤ x) × (left_out p w x + w ≡ x)))
left_out_is p w x = elim (cases_lt x p) [
  | inl before ↦ inl (omega (arith, before), omega (arith, before))
  | inr from_on ↦ elim (cases_lt x (p + w)) [
    | inl among ↦ inr (inl (from_on, omega (arith, among), omega (arith, from_on, among)))
    | inr after ↦ inr (inr (after, omega (arith, after)))
  ]
]

-- so many moments of the window are left out between two
between : (p w d a b x y : ℕ) → ((a ≤ p) × (x ≡ a)) ⊎ (((p ≤ a) × (a ≤ p + w) × (x ≡ p)) ⊎ ((p + w ≤ a) × (x + w ≡ a)))
    → ((b ≤ p) × (y ≡ b)) ⊎ (((p ≤ b) × (b ≤ p + w) × (y ≡ p)) ⊎ ((p + w ≤ b) × (y + w ≡ b)))
    → (y - (d + x)) + (min (b - d) (p + w) - max a p) ≤ b - (d + a)
between p w d a b x y h g = grind arith

-- the end of time doesn't make a gap larger
capped : (exit : Bool) (k p w d a b : ℕ)
    → gap exit k d (without_moments p k w a) (without_moments p k w b) ≤ left_out p w (cond exit ((k + w) + 1) b) - (d + left_out p w a)
capped exit k p w d a b = grind arith

-- the moments of a gap that lie in a window are left out
gap_without : (exit : Bool) (k p w d a b : ℕ)
    → gap exit k d (without_moments p k w a) (without_moments p k w b) + (min (cond exit ((k + w) + 1) b - d) (p + w) - max a p)
    ≤ gap exit (k + w) d a b
gap_without exit k p w d a b =
    let end = cond exit ((k + w) + 1) b in
    omega (arith, capped exit k p w d a b, between p w d a end (left_out p w a) (left_out p w end) (left_out_is p w a) (left_out_is p w end))

end_in : (exit : Bool) (f g d k p q t : ℕ) → ((leb f t && (leb (t + d) k && (exit || not (leb g (t + d))))) && (leb p t && ltb t q)) ≡ true
    → (max f p ≤ t) × (t < min (cond exit (k + 1) g - d) q)
end_in exit f g d k p q t e = (grind (arith, nat_tests), grind (arith, nat_tests))

lost_in : (exit : Bool) (f g d k p q : ℕ)
    → count (λ t. leaves (λ s. leb f s) (λ s. leb g s) exit d k t && (leb p t && ltb t q)) (k + 1) ≤ min (cond exit (k + 1) g - d) q - max f p
lost_in exit f g d k p q =
    (run_count (λ t. leaves (λ s. leb f s) (λ s. leb g s) exit d k t && (leb p t && ltb t q)) (max f p) (min (cond exit (k + 1) g - d) q) (k + 1) (end_in exit f g d k p q)).1

in_or_out : (b c : Bool) → cond b 1 0 ≡ cond (b && not c) 1 0 + cond (b && c) 1 0
in_or_out b c = grind arith

same_leaves : (u u' i e v v' : Bool) → u ≡ u' → (i ≡ true → e ≡ false → v ≡ v') → (u && (i && (e || not v))) ≡ (u' && (i && (e || not v')))
same_leaves u u' i e v v' h j = grind arith

module _ (m m' : Model) (from until : ℕ) (d : IsClosedBetween m m' from until) (valid : IsValid m) (steady : HasSteadyRates m)
    (large : HasRoomForAll m) where
  abbrev w : ℕ
  w = until - from

  room : HasRoomForEntries m
  room n i = elim (cases_Bool (is_exit_at m n)) [
    | inr inner ↦ omega (arith, entries_le m n m.horizon i, large n i inner)
    | inl exit ↦
        let nobody = sum_by-same (entry m n) (λ _. 0) (moments_to m.horizon) (λ t. exit_entry m n t valid i exit) ∙ sum_by-nothing (moments_to m.horizon) in
        omega (arith, nobody)
  ]

  module _ (x : Cut) (k : ℕ) (l : k + w ≤ m.horizon) where
    abbrev outside : ℕ → ℕ
    outside = f m m' d.alike steady room x k w from l

    abbrev later_cut : ℕ → ℕ
    later_cut = g m m' d.alike steady room x k w from l

    -- where each node but the exits is in the cut from a moment on
    module _ (settled : (n : ℕ) → n < length m.nodes → IsFalse (is_exit_at m n) → Settled (x n) (capacity m n) (k + w)) where
      abbrev of_moments : ℕ → ℕ → Bool
      of_moments a t = leaves_cut m (from_moments outside) (k + w) t a

      leaves_too : (a t : ℕ) → a < length m.arcs → t ≤ k + w → leaves_cut m' x (k + w) t a ≡ of_moments a t
      leaves_too a t i s =
          sym (leaves_same m m' d.alike x (k + w) t a)
          ∙ same_leaves (x (tail m a) t) (from_moments outside (tail m a) t) (leb (arrival m a t) (k + w)) (is_exit_at m (head m a))
          (x (head m a) (arrival m a t)) (from_moments outside (head m a) (arrival m a t))
          (settled (tail m a) (tail_in m a valid i) (arc_is m a valid i).from_no_exit t s)
          (λ in_time inner. settled (head m a) (head_in m a valid i) inner (arrival m a t) (leb-true (arrival m a t) (k + w) in_time))

      -- the moments of the window
      abbrev in_window : ℕ → Bool
      in_window t = leb from t && ltb t until

      abbrev kept : ℕ → ℕ → Bool
      kept a t = of_moments a t && not (in_window t)

      outside_window : (t : ℕ) → not (leb from t && ltb t until) ≡ true → (t < from) ⊎ (until ≤ t)
      outside_window t e = elim (cases_lt t from) [
        | inl before ↦ inl before
        | inr from_on ↦ inr (after from_on e)
      ]
        where
          after : from ≤ t → not (leb from t && ltb t until) ≡ true → until ≤ t
          after h e = grind (arith, nat_tests)

      same_rate : (a t : ℕ) → a < length m.arcs → t ≤ m.horizon → not (in_window t) ≡ true → rate m a t ≡ rate m' a t
      same_rate a t i s e = elim (outside_window t e) [ inl before ↦ d.before a t i s before | inr after ↦ d.after a t i s after ]

      each : (b c : Bool) (r s : ℕ) → (c ≡ true → r ≡ s) → cond (b && c) r 0 ≤ cond b s 0
      each b c r s h = grind arith

      arc_part : (a : ℕ) → a < length m.arcs → of_arc m k (from_moments later_cut) a ≤ of_arc m' (k + w) x a
      arc_part a i =
          let e = is_exit_at m (head m a) in
          let t = (arc_at m a).travel in
          let all = ((k + w) + 1) in
          let few = few_f m m' d.alike steady room x k w from l in
          let enough : gap e k t (later_cut (tail m a)) (later_cut (head m a)) ≤ count (kept a) all =
          omega (
            arith,
            gap_without e k from w t (outside (tail m a)) (outside (head m a)),
            gap_is e (k + w) t (outside (tail m a)) (outside (head m a)) (few (head m a)),
            lost_in e (outside (tail m a)) (outside (head m a)) t (k + w) from until,
            sum_below-same (λ s. cond (of_moments a s) 1 0) (λ s. cond (kept a s) 1 0 + cond (of_moments a s && in_window s) 1 0) all
                (λ s _. in_or_out (of_moments a s) (in_window s)),
            sum_by-add (λ s. cond (kept a s) 1 0) (λ s. cond (of_moments a s && in_window s) 1 0) (below all),
          ) in
          omega (
            arith,
            arc_worth m steady later_cut k a (omega (arith, l)) i (few_g m m' d.alike steady room x k w from l),
            mul-le-mul_left (rate m a 0) enough,
            rate_times m x (k + w) l steady room a i (kept a),
            termwise (λ s. cond (kept a s) (rate m a s) 0) (λ s. cond (leaves_cut m' x (k + w) s a) (rate m' a s) 0) all
                (λ s h. omega (
                  arith,
                  each (of_moments a s) (not (in_window s)) (rate m a s) (rate m' a s) (same_rate a s i (omega (arith, h, l))),
                  ap (λ b. cond b (rate m' a s) 0) (leaves_too a s i (omega (arith, h))),
                )),
          )

      settled_cut : cut_value m (from_moments later_cut) k ≤ cut_value m' x (k + w)
      settled_cut = delayed_cut m m' d.alike steady room x k w from l arc_part

    -- a node that the cut leaves by waiting
    abbrev left_by_waiting : ℕ → Bool
    left_by_waiting n = not (is_exit_at m n) && leb (capacity m n) (sum_by (drop (x n) (capacity m n)) (below (k + w)))

    paid : (n : ℕ) → n < length m.nodes → left_by_waiting n ≡ true → people m ≤ cut_value m' x (k + w)
    paid n i e =
        let parts = and_parts (not (is_exit_at m n)) (leb (capacity m n) (sum_by (drop (x n) (capacity m n)) (below (k + w)))) e in
        omega (
          arith,
          large n i (not-true (is_exit_at m n) parts.0),
          leb-true (capacity m n) (sum_by (drop (x n) (capacity m n)) (below (k + w))) parts.1,
          node_same m m' d.alike x (k + w) n,
          pick_le (of_node m' (k + w) x) (length m'.nodes) n (omega (arith, i, ap length d.alike.nodes)),
          nodes_and_arcs m' (k + w) x,
        )

    never_left : (b : Bool) (c s : ℕ) → (not b && leb c s) ≡ false → b ≡ false → c ≤ s → ⊥
    never_left b c s e f l = grind (arith, nat_tests)

    pub bound : (p : List Move) → IsFeasible m p k → out_by m p k ≤ cut_value m' x (k + w)
    bound p feasible = elim (found left_by_waiting (length m.nodes)) [
      | inl some ↦ omega (arith, paid some.0 some.1 some.2, out_le_people m p k valid feasible)
      | inr never ↦
          let settled : (n : ℕ) → n < length m.nodes → IsFalse (is_exit_at m n) → Settled (x n) (capacity m n) (k + w) =
          λ n i inner. elim (drops (x n) (capacity m n) (k + w)) [
            | inl pays ↦ absurd (never_left (is_exit_at m n) (capacity m n) (sum_by (drop (x n) (capacity m n)) (below (k + w))) (never n i) inner pays)
            | inr is ↦ is
          ] in
          omega (arith, out_le_value m (from_moments later_cut) p k valid feasible, settled_cut settled)
    ]

pub common_window_delays_by_its_length : (m m' : Model) (from until : ℕ) → IsValid m → IsValid m' → IsClosedBetween m m' from until → HasSteadyRates m
    → HasRoomForAll m → DelaysBy m m' (until - from)
common_window_delays_by_its_length m m' from until valid valid' d steady large =
    delayed m m' d.alike (until - from) valid' (room m m' from until d valid steady large)
    (λ p x k l feasible. bound m m' from until d valid steady large x k l p feasible)
