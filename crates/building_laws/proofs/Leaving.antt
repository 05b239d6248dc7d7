-- A plan without some of the people: whoever isn't there is taken out of the plan, step by step up to where they went.
use Rattle.std.proofs.Common.{◌≡◌, ℕ, zero, suc, ◌+◌, ◌-◌, ◌<◌, ◌≤◌, Bool, true, false, cond, ◌&&◌, ◌||◌, eqb, ltb, leb, List, length, refl, ap, sym, ◌∙◌, add-one, subst, arith, inl, inr, IsFalse}
use Rattle.std.proofs.lemmas.Bool.{and_parts, cases_Bool, cases_eq, cases_lt, eq-eqb, eqb-true, ltb-true, ne_eqb}
use Rattle.std.proofs.lemmas.Bool.Decides.{nat_tests}
use Rattle.std.proofs.lemmas.List.{length-set, get_or-set_same, get_or-set_other, set-set, set-get_or}
use Rattle.evac_law.specs.declared.model.Model.{Model}
use Rattle.evac_law.specs.declared.model.NodeRow.{NodeRow}
use Rattle.evac_law.specs.declared.plan.Move.{Move}
use Rattle.evac_law.specs.Building.{IsValid, arc_at, arrival, capacity, entry, head, is_exit_at, no_node, node_at, rate, start, tail}
use Rattle.evac_law.specs.Edits.{with_start}
use Rattle.evac_law.specs.Entrants.{entering}
use Rattle.evac_law.specs.Names.{is_exit}
use Rattle.evac_law.specs.Plans.{IsFeasible, moved, out_by}
use Rattle.evac_law.specs.Windows.{is_closed_at}
use Rattle.evac_law.proofs.EditLemmas.{at-set, valid_start}
use Rattle.evac_law.proofs.SumLemmas.{cond_le, sum2-same}
use Rattle.evac_law.proofs.ValidLemmas.{arc_is, head_in, node_is}
use Rattle.building_laws.proofs.Counts.{found}
use Rattle.building_laws.proofs.Steps.{come_back, end_here, go_back, nobody, stay_back, wait_back}
use Rattle.building_laws.proofs.Tables.{IsFlow, before, comes, comes_least, flow_of_plan, goes, goes_none, gone, gone_more, gone_moved, one_taken, out_is, plan, plan_is_feasible, point, stays}

-- ---- one person's way

earlier : (n t i s : ℕ) → s < t → point n t i s ≡ 0
earlier n t i s l = grind (arith, nat_tests)

inner_out : (b c : Bool) → b ≡ false → ◌≡◌ {A = ℕ} (cond (b && c) 1 0) 0
inner_out b c e = ap (λ x. cond (x && c) 1 0) e

module _ (m : Model) (z : ℕ) (valid : IsValid m) where
  -- a flow with a person too many at a pair, the same as a given one at each moment before, and with at most one fewer out
  record Freed (f h : ℕ → ℕ → ℕ) (n t : ℕ) : Type 0 where
    pub g : ℕ → ℕ → ℕ
    pub j : ℕ → ℕ → ℕ
    pub moves : IsFlow m z g j (point n t)
    pub arcs : (a s : ℕ) → s < t → g a s ≡ f a s
    pub holds : (i s : ℕ) → s < t → j i s ≡ h i s
    pub out : gone m z f ≤ gone m z g + 1

  module _ (f h : ℕ → ℕ → ℕ) (flow : IsFlow m z f h nobody) where
    -- where somebody is left in the node, at the end
    at_end : (n t : ℕ) → t ≡ z → 0 < h n t → Freed f h n t
    at_end n t last some = record {
      g = f;
      j = λ b s. h b s - point n t b s;
      moves = end_here m z f h (λ b s. h b s - point n t b s) n t last (one_taken h n t some) flow;
      arcs = λ a s l. refl;
      holds = λ i s l. omega (arith, earlier n t i s l);
      out = omega arith;
    }

    -- where somebody waits
    by_waiting : (n t : ℕ) → 0 < h n t → Freed f h n (t + 1) → Freed f h n t
    by_waiting n t some rest =
        let j = λ (b s : ℕ). rest.j b s - point n t b s in
        let more = one_taken rest.j n t (omega (arith, some, rest.holds n t (omega arith))) in record {
          g = rest.g;
          j = j;
          moves = wait_back m z rest.g rest.j j n t more rest.moves;
          arcs = λ a s l. rest.arcs a s (omega (arith, l));
          holds = λ i s l. omega (arith, rest.holds i s (omega (arith, l)), earlier n t i s l);
          out = rest.out;
        }

    -- where somebody goes into an exit, or is under way at the end
    by_last_arc : (a t : ℕ) → a < length m.arcs → 0 < f a t → IsFlow m z (λ b s. f b s - point a t b s) h (point (tail m a) t) → Freed f h (tail m a) t
    by_last_arc a t i some moves = record {
      g = λ b s. f b s - point a t b s;
      j = h;
      moves = moves;
      arcs = λ b s l. omega (arith, earlier a t b s l);
      holds = λ i s l. refl;
      out = omega (
        arith,
        gone_more m z (λ b s. f b s - point a t b s) f a t i (one_taken f a t some),
        cond_le (is_exit_at m (head m a) && leb (arrival m a t) z) 1,
      );
    }

    -- where somebody goes on along an arc
    by_arc : (a t : ℕ) → a < length m.arcs → 0 < f a t → IsFalse (is_exit_at m (head m a)) → Freed f h (head m a) (arrival m a t) → Freed f h (tail m a) t
    by_arc a t i some inner rest =
        let later : t < arrival m a t = omega (arith, (arc_is m a valid i).travel_fits.0) in
        let g = λ (b s : ℕ). rest.g b s - point a t b s in
        let more = one_taken rest.g a t (omega (arith, some, rest.arcs a t later)) in record {
          g = g;
          j = rest.j;
          moves = go_back m z rest.g g rest.j a t i more rest.moves;
          arcs = λ b s l. omega (arith, rest.arcs b s (omega (arith, l, later)), earlier a t b s l);
          holds = λ c s l. rest.holds c s (omega (arith, l, later));
          out = omega (arith, rest.out, gone_more m z g rest.g a t i more, inner_out (is_exit_at m (head m a)) (leb (arrival m a t) z) inner);
        }

    by_some_arc : (a t : ℕ) → a < length m.arcs → 0 < f a t
        → (IsFalse (is_exit_at m (head m a)) → arrival m a t ≤ z → Freed f h (head m a) (arrival m a t)) → Freed f h (tail m a) t
    by_some_arc a t i some rest = elim (cases_Bool (is_exit_at m (head m a))) [
      | inl exit ↦ by_last_arc a t i some (come_back m z f (λ b s. f b s - point a t b s) h a t i exit (one_taken f a t some) flow)
      | inr inner ↦ elim (cases_lt z (arrival m a t)) [
        | inl late ↦ by_last_arc a t i some (stay_back m z f (λ b s. f b s - point a t b s) h a t i late (one_taken f a t some) flow)
        | inr soon ↦ by_arc a t i some inner (rest inner soon)
      ]
    ]

    nobody_goes : (b : Bool) (w : ℕ) → (b && ltb 0 w) ≡ false → b ≡ true → w ≡ 0
    nobody_goes b w e d = grind (arith, nat_tests)

    freed : (fuel n t : ℕ) → z < t + fuel → n < length m.nodes → IsFalse (is_exit_at m n) → t ≤ z → 0 < goes m f n t + h n t → Freed f h n t
    freed zero n t s i e l some = absurd (omega (arith, s, l))
    freed (suc fuel) n t s i e l some = elim (cases_lt 0 (h n t)) [
      | inl waits ↦ elim (cases_eq t z) [
        | inl last ↦ at_end n t last waits
        | inr on ↦
            let l' : t + 1 ≤ z = omega (arith, l, on) in
            let bal = flow.balance n (t + 1) i e l' in
            let here : before h n (t + 1) ≡ h n t = ap (before h n) (add-one t) in
            by_waiting n t waits (freed fuel n (t + 1) (omega (arith, s)) i e l' (omega (arith, bal, here, waits)))
      ]
      | inr none ↦ elim (found (λ a. eqb (tail m a) n && ltb 0 (f a t)) (length m.arcs)) [
        | inr never ↦
            let stopped = goes_none m f n t (λ a j same. nobody_goes (eqb (tail m a) n) (f a t) (never a j) (eq-eqb (tail m a) n same)) in
            absurd (omega (arith, some, none, stopped))
        | inl arc ↦
            let a = arc.0 in
            let j = arc.1 in
            let parts = and_parts (eqb (tail m a) n) (ltb 0 (f a t)) arc.2 in
            let goes_on = ltb-true 0 (f a t) parts.1 in
            subst (λ c. Freed f h c t) (eqb-true (tail m a) n parts.0)
            (by_some_arc a t j goes_on (λ inner soon.
            freed fuel (head m a) (arrival m a t) (omega (arith, s, (arc_is m a valid j).travel_fits.0)) (head_in m a valid j) inner soon
            (omega (arith, flow.balance (head m a) (arrival m a t) (head_in m a valid j) inner soon, comes_least m f a t j, goes_on))))
      ]
    ]

-- ---- a room with other people

module _ (m : Model) (n s : ℕ) (l : n < length m.nodes) where
  abbrev pub row : NodeRow
  row = record (node_at m n) { start = s }

  abbrev changed : Model
  changed = with_start m n s

  pub start_there : start changed n ≡ s
  start_there = ap (λ r. r.start) (get_or-set_same m.nodes n row no_node l)

  start_elsewhere : (i : ℕ) → (i ≡ n → ⊥) → start changed i ≡ start m i
  start_elsewhere i apart = ap (λ r. r.start) (get_or-set_other m.nodes n i row no_node apart)

  pub exits_same : (i : ℕ) → is_exit_at changed i ≡ is_exit_at m i
  exits_same i = at-set (λ r. is_exit r.name.kind) m.nodes n row no_node refl i

  pub rooms_same : (i : ℕ) → capacity changed i ≡ capacity m i
  rooms_same i = at-set (λ r. r.capacity) m.nodes n row no_node refl i

  shut_same : (i : ℕ) → (node_at changed i).shut ≡ (node_at m i).shut
  shut_same i = at-set (λ r. r.shut) m.nodes n row no_node refl i

  pub rates_same : (a t : ℕ) → rate changed a t ≡ rate m a t
  rates_same a t = ap (λ b. cond ((arc_at m a).shut || b || is_closed_at (arc_at m a).windows.items t) 0 (arc_at m a).rate) (shut_same (head m a))

  pub entry_less : (w : ℕ) → s + w ≡ start m n → (i t : ℕ) → entry m i t ≡ entry changed i t + cond (eqb n i && eqb 0 t) w 0
  entry_less w same i t = elim (cases_eq i n) [
    | inl here ↦
        let old : start m i ≡ start changed i + w = ap (start m) here ∙ omega (arith, same, start_there) ∙ ap (λ c. start changed c + w) (sym here) in
        at_start (eqb n i) t (start m i) (start changed i) (entering m.entrants i t) (eq-eqb n i (sym here)) old
    | inr apart ↦
        let away = ap (λ b. cond (b && eqb 0 t) w 0) (ne_eqb n i (λ e. apart (sym e))) in
        omega (arith, ap (λ c. cond (eqb t 0) c (entering m.entrants i t)) (start_elsewhere i apart), away)
  ]
    where
      at_start : (b : Bool) (t old new v : ℕ) → b ≡ true → old ≡ new + w → cond (eqb t 0) old v ≡ cond (eqb t 0) new v + cond (b && eqb 0 t) w 0
      at_start b t old new v e f = grind (arith, nat_tests)

  -- another number of people after that
  pub start_twice : (t : ℕ) → with_start changed n t ≡ with_start m n t
  start_twice t = grind (arith, get_or-set_same, set-set)

pub start_again : (m : Model) (n s : ℕ) → s ≡ start m n → with_start m n s ≡ m
start_again m n s e = ap (λ c. with_start m n c) e ∙ ap (λ (z : List NodeRow). record m { nodes = z }) (set-get_or m.nodes n no_node)

-- ---- plans

-- a plan of a model with w people fewer in a node, with at most w fewer out
abbrev pub Without : Model → ℕ → ℕ → Model → ℕ → Type 0
Without m out z less w = (q : List Move) × IsFeasible less q z × (out ≤ out_by less q z + w)

module _ (m : Model) (n : ℕ) (l : n < length m.nodes) (valid : IsValid m) (some : 0 < start m n) (p : List Move) (z : ℕ) (feasible : IsFeasible m p z) where
  abbrev one_fewer : Model
  one_fewer = with_start m n (start m n - 1)

  inner : IsFalse (is_exit_at m n)
  inner = grind (arith, cases_Bool, node_is)

  there : 0 < goes m (moved p) n 0 + stays m p n 0
  there =
      let bal = (flow_of_plan m z p feasible).balance n 0 l inner (omega arith) in
      let comes_in : entry m n 0 ≡ start m n = refl in
      omega (arith, bal, comes_in, some)

  without_one : Freed m z valid (moved p) (stays m p) n 0
  without_one = freed m z valid (moved p) (stays m p) (flow_of_plan m z p feasible) (z + 1) n 0 (omega arith) l inner (omega arith) there

  still_goes : (g : ℕ → ℕ → ℕ) (i t : ℕ) → goes one_fewer g i t ≡ goes m g i t
  unfolding goes
  still_goes g i t = refl

  still_comes : (g : ℕ → ℕ → ℕ) (i t : ℕ) → comes one_fewer g i t ≡ comes m g i t
  unfolding comes
  still_comes g i t = refl

  still_gone : (g : ℕ → ℕ → ℕ) → gone one_fewer z g ≡ gone m z g
  unfolding gone
  still_gone g = grind (arith, sum2-same, exits_same)

  flow : IsFlow one_fewer z without_one.g without_one.j nobody
  flow = grind (arith, rates_same, length-set, exits_same, rooms_same, entry_less, still_goes, still_comes)

  pub one_leaves : Without m (out_by m p z) z one_fewer 1
  one_leaves = (
    plan one_fewer z without_one.g without_one.j flow,
    plan_is_feasible one_fewer z without_one.g without_one.j flow,
    omega (
      arith,
      gone_moved m z p feasible.arcs,
      without_one.out,
      still_gone without_one.g,
      out_is one_fewer z without_one.g without_one.j flow z (omega arith),
    ),
  )

pub leaving : (w : ℕ) (m : Model) (n : ℕ) → IsValid m → n < length m.nodes → w ≤ start m n → (p : List Move) (z : ℕ) → IsFeasible m p z
    → Without m (out_by m p z) z (with_start m n (start m n - w)) w
leaving zero m n valid l enough p z feasible =
    subst (λ s. Without m (out_by m p z) z s 0) (sym (start_again m n (start m n - 0) (omega arith))) (p, feasible, omega arith)
leaving (suc w) m n valid l enough p z feasible =
    let first = one_leaves m n l valid (omega (arith, enough)) p z feasible in
    let one = with_start m n (start m n - 1) in
    let at : start one n ≡ start m n - 1 = start_there m n (start m n - 1) l in
    let valid' : IsValid one = valid_start m n (start m n - 1) valid l (omega (arith, (node_is m n valid l).start_fits)) (omega (arith, valid.people_fit)) in
    let l' : n < length one.nodes = omega (arith, l, length-set m.nodes n (row m n (start m n - 1) l)) in
    let rest = leaving w one n valid' l' (omega (arith, at, enough)) first.0 z first.1 in
    let left_over : start one n - w ≡ start m n - suc w = omega (arith, at) in
    let same = start_twice m n (start m n - 1) l (start one n - w) ∙ ap (with_start m n) left_over in
    subst (λ s. Without m (out_by m p z) z s (suc w)) same (rest.0, rest.1, omega (arith, first.2, rest.2))
