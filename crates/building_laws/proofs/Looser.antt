-- Buildings with no smaller rates and capacities, and edits that make one.
use Rattle.std.proofs.Common.{◌≡◌, ℕ, ◌<◌, ◌≤◌, Bool, true, false, cond, ◌&&◌, ◌||◌, eqb, leb, List, [], ◌∷◌, length, refl, ap, ap₂, sym, ◌∙◌, subst, arith, inl, inr, Ok, pos, ◌-ℤ◌, ◌≤ℤ◌}
use Rattle.std.specs.List.{All, sum_by}
use Rattle.std.proofs.lemmas.Bool.{both_ways, cases_eq, or_cases, or_right}
use Rattle.std.proofs.lemmas.Int.{ints}
use Rattle.std.proofs.lemmas.List.{length-set, get_or-set_same, get_or-set_other}
use Rattle.evac_law.specs.declared.edit.Edit.{Edit}
use Rattle.evac_law.specs.declared.edit.Edit.TheVariants.{Enter, Leave, Rate, Reopen, ReopenExit, Room, Shift, Shut, ShutExit, Unwindow, Window}
use Rattle.evac_law.specs.declared.model.ArcRow.{ArcRow}
use Rattle.evac_law.specs.declared.model.Model.{Model}
use Rattle.evac_law.specs.declared.model.NodeRow.{NodeRow}
use Rattle.evac_law.specs.declared.plan.Move.{Move}
use Rattle.evac_law.specs.declared.window.Window.{Window as ClosureWindow}
use Rattle.evac_law.specs.Building.{arc_at, capacity, entry, head, no_node, node_at, people, rate, start}
use Rattle.evac_law.specs.Edits.{IsEditOf, applied, edited, windows_at, with_arc, with_node}
use Rattle.evac_law.specs.Names.{is_exit}
use Rattle.evac_law.specs.Plans.{IsFeasible, came, held, left, out_by}
use Rattle.evac_law.specs.Sums.{below, places}
use Rattle.evac_law.specs.Windows.{is_closed_at, is_same_window, is_within, window_of, without_window}
use Rattle.evac_law.proofs.EditLemmas.{at-set, unless-Ok}
use Rattle.evac_law.proofs.SumLemmas.{else_mono, sum_by-same, sum_places}
use Rattle.building_laws.specs.Looser.{IsLooser, IsLoosening, KeepsPlans}

-- ---- plans

module _ (m m' : Model) (d : IsLooser m m') where
  entry_same : (n t : ℕ) → entry m n t ≡ entry m' n t
  entry_same n t = grind arith

  came_same : (p : List Move) (n t : ℕ) → came m p n t ≡ came m' p n t
  unfolding came
  came_same p n t = grind (arith, sum_by-same, entry_same)

  left_same : (p : List Move) (n t : ℕ) → left m p n t ≡ left m' p n t
  unfolding left
  left_same p n t = sum_by-same _ _ p (λ v. ap (λ i. cond (eqb i n && leb v.moment t) v.people 0) (d.tails v.arc))

  held_same : (p : List Move) (n t : ℕ) → held m p n t ≡ held m' p n t
  unfolding held
  held_same p n t = ap₂ (λ x y. pos x -ℤ pos y) (came_same p n t) (left_same p n t)

  out_same : (p : List Move) (k : ℕ) → out_by m' p k ≡ out_by m p k
  unfolding out_by
  out_same p k = grind (arith, sum_by-same)

  people_same : people m ≡ people m'
  unfolding people
  people_same =
      omega (
        arith,
        sum_places (λ n. n.start) m.nodes no_node,
        sum_places (λ n. n.start) m'.nodes no_node,
        sum_by-same (start m) (start m') (places m.nodes) d.starts,
        ap (λ i. sum_by (start m') (below i)) d.places,
        ap (sum_by (λ e. e.people)) d.entrants,
      )

  feasible_too : (p : List Move) (k : ℕ) → k ≤ m.horizon → IsFeasible m p k → IsFeasible m' p k
  feasible_too p k l feasible = record {
    arcs = subst (λ i. All (λ v. v.arc < i) p) d.arcs feasible.arcs;
    rates = λ a t i s.
        let j : a < length m.arcs = omega (arith, i, d.arcs) in
        omega (arith, feasible.rates a t j s, d.rates a t j (omega (arith, s, l)));
    holds = λ n t i e s.
        let old = feasible.holds n t (omega (arith, i, d.places)) (d.exits n ∙ e) s in
        let same = held_same p n t in
        (subst (λ z. pos 0 ≤ℤ z) same old.0, omega (arith, ints, sym same, old.1, d.rooms n));
  }

  pub looser_keeps_plans : KeepsPlans m m'
  looser_keeps_plans = record {
    plans = feasible_too;
    out = out_same;
    clears = λ plan. (
      plan.0,
      subst (IsFeasible m' plan.0) d.horizon (feasible_too plan.0 m.horizon (omega arith) plan.1),
      omega (arith, plan.2, people_same, out_same plan.0 m.horizon, ap (out_by m' plan.0) d.horizon),
    );
  }

-- ---- another arc

-- the rate of an arc in a model
abbrev rate_in : Model → ArcRow → ℕ → ℕ
rate_in m r t = cond (r.shut || (node_at m r.to).shut || is_closed_at r.windows.items t) 0 r.rate

other_arc : (m : Model) (a : ℕ) (row : ArcRow) → a < length m.arcs → row.from ≡ (arc_at m a).from → row.to ≡ (arc_at m a).to
    → row.travel ≡ (arc_at m a).travel → ((t : ℕ) → rate m a t ≤ rate_in m row t) → IsLooser m (with_arc m a row)
other_arc m a row l from to travel more = grind (arith, length-set, at-set, cases_eq, get_or-set_same, get_or-set_other)

-- fewer marks leave an arc its rate
opened : (p q c p' q' c' : Bool) (r : ℕ) → (p' ≡ true → p ≡ true) → (q' ≡ true → q ≡ true) → (c' ≡ true → c ≡ true)
    → cond (p || q || c) 0 r ≤ cond (p' || q' || c') 0 r
opened p q c p' q' c' r e f g = grind arith

-- fewer windows close an arc at no more moments
closed_more : (v : ClosureWindow) (vs : List ClosureWindow) (w : ClosureWindow) (t : ℕ)
    → (is_closed_at (without_window vs w) t ≡ true → is_closed_at vs t ≡ true)
    → is_closed_at (without_window (v ∷ vs) w) t ≡ true → is_closed_at (v ∷ vs) t ≡ true
closed_more v vs w t before e = by_case (is_same_window v w) refl
  where
    first_or_later : is_closed_at (v ∷ without_window vs w) t ≡ true → is_closed_at (v ∷ vs) t ≡ true
    first_or_later h = elim (or_cases (is_within v t) (is_closed_at (without_window vs w) t) h) [
      | inl now ↦ ap (λ b. b || is_closed_at vs t) now
      | inr later ↦ or_right (is_within v t) (is_closed_at vs t) (before later)
    ]

    by_case : (b : Bool) → is_same_window v w ≡ b → is_closed_at (v ∷ vs) t ≡ true
    by_case true same = or_right (is_within v t) (is_closed_at vs t) (sym (ap (λ b. is_closed_at (cond b vs (v ∷ without_window vs w)) t) same) ∙ e)
    by_case false other = first_or_later (sym (ap (λ b. is_closed_at (cond b vs (v ∷ without_window vs w)) t) other) ∙ e)

still_closed : (ws : List ClosureWindow) (w : ClosureWindow) (t : ℕ) → is_closed_at (without_window ws w) t ≡ true → is_closed_at ws t ≡ true
still_closed [] w t e = e
still_closed (v ∷ vs) w t e = closed_more v vs w t (still_closed vs w t) e

-- ---- another node

other_node : (m : Model) (n : ℕ) (row : NodeRow) → n < length m.nodes → row.name ≡ (node_at m n).name → row.start ≡ start m n
    → capacity m n ≤ row.capacity → (row.shut ≡ true → (node_at m n).shut ≡ true) → IsLooser m (with_node m n row)
other_node m n row l name from room shut = record {
  horizon = refl;
  places = sym (length-set m.nodes n row);
  exits = λ i. sym (at-set (λ r. is_exit r.name.kind) m.nodes n row no_node (ap (λ x. is_exit x.kind) name) i);
  starts = λ i. sym (at-set (λ r. r.start) m.nodes n row no_node from i);
  entrants = refl;
  rooms = λ i. elim (cases_eq i n) [
    | inl same ↦
        omega (
          arith,
          room,
          ap (λ r. r.capacity) (get_or-set_same m.nodes n row no_node l),
          ap (capacity m) same,
          ap (capacity (with_node m n row)) same,
        )
    | inr apart ↦ omega (arith, ap (λ r. r.capacity) (get_or-set_other m.nodes n i row no_node apart))
  ];
  arcs = refl;
  tails = λ a. refl;
  heads = λ a. refl;
  travels = λ a. refl;
  rates = λ a t i _.
      opened (arc_at m a).shut (node_at m (head m a)).shut (is_closed_at (arc_at m a).windows.items t)
      (arc_at m a).shut (node_at (with_node m n row) (head m a)).shut (is_closed_at (arc_at m a).windows.items t)
      (arc_at m a).rate (λ e. e) (shut_before (head m a)) (λ e. e);
}
  where
    shut_before : (i : ℕ) → (node_at (with_node m n row) i).shut ≡ true → (node_at m i).shut ≡ true
    shut_before i e = elim (cases_eq i n) [
      | inl same ↦
          let there = sym (ap (λ r. r.shut) (get_or-set_same m.nodes n row no_node l)) ∙ sym (ap (λ j. (node_at (with_node m n row) j).shut) same) ∙ e in
          ap (λ j. (node_at m j).shut) same ∙ shut there
      | inr apart ↦ sym (ap (λ r. r.shut) (get_or-set_other m.nodes n i row no_node apart)) ∙ e
    ]

-- ---- edits

loosens : (m : Model) (e : Edit) → IsEditOf m e → IsLoosening m e → IsLooser m (edited m e)
loosens m (Shut a) l h = absurd h
loosens m (Reopen a) l h =
    other_arc m a (record (arc_at m a) { shut = false }) l refl refl refl
    (λ t. let door = (node_at m (head m a)).shut in let closed = is_closed_at (arc_at m a).windows.items t in
    opened (arc_at m a).shut door closed false door closed (arc_at m a).rate (λ e. absurd (both_ways false refl e)) (λ e. e) (λ e. e))
loosens m (ShutExit n) l h = absurd h
loosens m (ReopenExit n) l h = other_node m n (record (node_at m n) { shut = false }) l refl refl (omega arith) (λ e. absurd (both_ways false refl e))
loosens m (Rate a r) l h =
    other_arc m a (record (arc_at m a) { rate = r }) l refl refl refl
    (λ t. else_mono ((arc_at m a).shut || (node_at m (head m a)).shut || is_closed_at (arc_at m a).windows.items t) (arc_at m a).rate r h)
loosens m (Room n c) l h = other_node m n (record (node_at m n) { capacity = c }) l refl refl h (λ e. e)
loosens m (Shift a b p) l h = absurd h
loosens m (Enter n p) l h = absurd h
loosens m (Leave n p) l h = absurd h
loosens m (Window a p q) l h = absurd h
loosens m (Unwindow a p q) l h =
    other_arc m a (record (arc_at m a) { windows = record { items = without_window (windows_at m a) (window_of p q) } }) l refl refl refl
    (λ t. let own = (arc_at m a).shut in let door = (node_at m (head m a)).shut in
    opened own door (is_closed_at (windows_at m a) t) own door (is_closed_at (without_window (windows_at m a) (window_of p q)) t) (arc_at m a).rate
    (λ e. e) (λ e. e) (still_closed (windows_at m a) (window_of p q) t))

pub loosening_keeps_plans : (m m' : Model) (e i : Edit) → IsEditOf m e → IsLoosening m e → applied m e ≡ Ok (m', i) → KeepsPlans m m'
loosening_keeps_plans m m' e i names loose h = grind (arith, unless-Ok, looser_keeps_plans, loosens)
