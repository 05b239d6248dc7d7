-- Where nobody comes from nowhere any more, nobody is left.
use Rattle.std.proofs.Common.{◌≡◌, ℕ, zero, suc, ◌+◌, ◌-◌, ◌<◌, ◌≤◌, false, cond, ◌&&◌, eqb, leb, length, arith}
use Rattle.std.proofs.lemmas.Bool.Decides.{nat_tests}
use Rattle.std.proofs.lemmas.List.Elements.{All-get_or}
use Rattle.evac_law.specs.Building.{IsArc, arc_at, head, is_exit_at, no_arc, tail}
use Rattle.evac_law.specs.Sums.{places}
use Rattle.evac_law.proofs.SumLemmas.{All-below, cond_nothing, sum_by-le_all, sum_by-nothing}
use Rattle.plan_layout.specs.Tables.{people_at}
use Rattle.route_decompose.specs.Stocks.{IsOpen, Stock, before, left_coming, going}
use Rattle.route_decompose.proofs.Balance.{going_some}
use Rattle.tables.proofs.TableLemmas.{item_at-past_last, item_at-past_rows}

module _ (s : Stock) (whole : IsOpen s) (none : (n t : ℕ) → people_at s.waiting n t ≡ 0) where
  -- nobody is left at a moment
  record IsEmptyAt (t : ℕ) : Type 0 where
    arcs : (a : ℕ) → a < length s.model.arcs → people_at s.left a t ≡ 0
    nodes : (n : ℕ) → n < length s.model.nodes → is_exit_at s.model n ≡ false → people_at s.holds n t ≡ 0

  arc_of : (a : ℕ) → a < length s.model.arcs → IsArc s.model.nodes (arc_at s.model a)
  arc_of a l = All-get_or (IsArc s.model.nodes) s.model.arcs a no_arc l whole.stock.valid.arcs

  no_term : (h n d t x : ℕ) → (d ≤ t → x ≡ 0) → cond (eqb h n && leb d t) x 0 ≤ 0
  no_term h n d t x e = grind (arith, nat_tests)

  nobody_comes : (n t : ℕ) → ((u : ℕ) → u < t → IsEmptyAt u) → left_coming s n t ≡ 0
  unfolding left_coming
  nobody_comes n t h =
      let m = s.model in
      let le = sum_by-le_all (λ a. cond (eqb (head m a) n && leb (arc_at m a).travel t) (people_at s.left a (t - (arc_at m a).travel)) 0) (λ _. 0) (places m.arcs)
      (All-below _ (length m.arcs)
      (λ a l. no_term (head m a) n (arc_at m a).travel t (people_at s.left a (t - (arc_at m a).travel))
      (λ d. let time = (arc_of a l).travel_fits.0 in (h (t - (arc_at m a).travel) (omega (arith, d, time))).arcs a l))) in
      omega (arith, le, sum_by-nothing (places m.arcs))

  nobody_before : (n t : ℕ) → n < length s.model.nodes → is_exit_at s.model n ≡ false → ((u : ℕ) → u < t → IsEmptyAt u) → before s n t ≡ 0
  nobody_before n zero l e h = omega (arith, none n 0)
  nobody_before n (suc t) l e h = omega (arith, none n (suc t), (h t (omega arith)).nodes n l e)

  nobody_here : (n t : ℕ) → n < length s.model.nodes → is_exit_at s.model n ≡ false → t ≤ s.model.horizon → ((u : ℕ) → u < t → IsEmptyAt u)
      → people_at s.holds n t + going s n t ≡ 0
  nobody_here n t l e k h = grind (arith, cond_nothing, nobody_comes, nobody_before)

  here : (t : ℕ) → t ≤ s.model.horizon → ((u : ℕ) → u < t → IsEmptyAt u) → IsEmptyAt t
  here t k h = record {
    arcs = λ a l.
        let arc = arc_of a l in
        omega (arith, nobody_here (tail s.model a) t arc.from_in arc.from_no_exit k h, going_some s a t l);
    nodes = λ n l e. omega (arith, nobody_here n t l e k h);
  }

  up_to : (k : ℕ) (t : ℕ) → t < k → t ≤ s.model.horizon → IsEmptyAt t
  up_to zero t l h = absurd (omega (arith, l))
  up_to (suc k) t l h = here t h (λ u b. up_to k u (omega (arith, b, l)) (omega (arith, b, h)))

  pub nobody_left : (a t : ℕ) → people_at s.left a t ≡ 0
  nobody_left a t =
      let inside : a < length s.model.arcs → t ≤ s.model.horizon → people_at s.left a t ≡ 0 = λ l h. (up_to (t + 1) t (omega arith) h).arcs a l in
      grind (arith, item_at-past_rows 0 s.left a t, item_at-past_last 0 s.left a t, inside, whole.stock.left_rows, whole.stock.left_last)
