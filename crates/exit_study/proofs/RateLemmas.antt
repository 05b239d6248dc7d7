-- A rate that is enough stays enough when it grows.
use Rattle.std.proofs.Common.{◌≡◌, ◌≢◌, ℕ, ◌+◌, ◌<◌, ◌≤◌, Bool, true, false, cond, ◌||◌, ◌&&◌, eqb, leb, List, length, refl, ap, ap₂, sym, ◌∙◌, arith, subst, pos, ℤ, ◌-ℤ◌, ◌≤ℤ◌}
use Rattle.std.specs.List.{sum_by}
use Rattle.std.proofs.lemmas.List.{length-set, get_or-set_same, get_or-set_other}
use Rattle.std.proofs.lemmas.List.Elements.{All-weaker}
use Rattle.std.proofs.lemmas.Bool.{eqb-true, eqb-false}
use Rattle.evac_law.specs.declared.model.Model.{Model}
use Rattle.evac_law.specs.declared.model.ArcRow.{ArcRow}
use Rattle.evac_law.specs.declared.plan.Move.{Move}
use Rattle.evac_law.specs.Building.{arc_at, entry, head, no_arc, node_at, people, rate, is_exit_at}
use Rattle.evac_law.specs.Plans.{IsFeasible, came, held, left, out_by}
use Rattle.evac_law.specs.Sums.{moments_to}
use Rattle.evac_law.specs.Windows.{is_closed_at}
use Rattle.evac_law.proofs.EditLemmas.{at-set}
use Rattle.evac_law.proofs.SumLemmas.{else_mono, sum_by-same}
use Rattle.exit_study.specs.Rates.{at_rate}
use Rattle.exit_study.specs.Laws.{EnoughStays}

-- an arc but for its rate
abbrev but_rate : ArcRow → ArcRow
but_rate x = record x { rate = 0 }

row_at : (m : Model) (a r b : ℕ) → but_rate (arc_at (at_rate m a r) b) ≡ but_rate (arc_at m b)
row_at m a r b = at-set but_rate m.arcs a (record (arc_at m a) { rate = r }) no_arc refl b

came_at : (m : Model) (a r : ℕ) (p : List Move) (n t : ℕ) → came (at_rate m a r) p n t ≡ came m p n t
unfolding came
came_at m a r p n t =
    ap (λ z. sum_by (entry m n) (moments_to t) + z)
    (sum_by-same _ _ p (λ v. ap (λ (x : ArcRow). cond (eqb x.to n && leb (v.moment + x.travel) t) v.people 0) (row_at m a r v.arc)))

left_at : (m : Model) (a r : ℕ) (p : List Move) (n t : ℕ) → left (at_rate m a r) p n t ≡ left m p n t
unfolding left
left_at m a r p n t = sum_by-same _ _ p (λ v. ap (λ (x : ArcRow). cond (eqb x.from n && leb v.moment t) v.people 0) (row_at m a r v.arc))

held_at : (m : Model) (a r : ℕ) (p : List Move) (n t : ℕ) → held (at_rate m a r) p n t ≡ held m p n t
unfolding held
held_at m a r p n t = ap₂ (λ x y. pos x -ℤ pos y) (came_at m a r p n t) (left_at m a r p n t)

out_at : (m : Model) (a r : ℕ) (p : List Move) (k : ℕ) → out_by (at_rate m a r) p k ≡ out_by m p k
unfolding out_by
out_at m a r p k =
    sum_by-same _ _ p (λ v. ap (λ (x : ArcRow). cond (is_exit_at m x.to && leb (v.moment + x.travel) k) v.people 0) (row_at m a r v.arc))

rate_le : (m : Model) (a r s b t : ℕ) → a < length m.arcs → r ≤ s → rate (at_rate m a r) b t ≤ rate (at_rate m a s) b t
rate_le m a r s b t l h =
    let rates = by (eqb a b) refl in
    let shut : Bool = (arc_at m b).shut || (node_at m (head m b)).shut || is_closed_at (arc_at m b).windows.items t in
    let flags : (q : ℕ) → ((arc_at (at_rate m a q) b).shut || (node_at m (head (at_rate m a q) b)).shut || is_closed_at (arc_at (at_rate m a q) b).windows.items t) ≡ shut
    = λ q. ap (λ (x : ArcRow). (x.shut || (node_at m x.to).shut) || is_closed_at x.windows.items t) (row_at m a q b) in
    let le = else_mono shut (arc_at (at_rate m a r) b).rate (arc_at (at_rate m a s) b).rate rates in
    let x = ap (λ z. cond z 0 (arc_at (at_rate m a r) b).rate) (flags r) in
    let y = ap (λ z. cond z 0 (arc_at (at_rate m a s) b).rate) (flags s) in
    omega (arith, le, x, y)
  where
    same : a ≡ b → (arc_at (at_rate m a r) b).rate ≤ (arc_at (at_rate m a s) b).rate
    same e =
        let P : ℕ → Type 0 = λ c. (arc_at (at_rate m a r) c).rate ≤ (arc_at (at_rate m a s) c).rate in
        subst P e (let x = ap (λ (z : ArcRow). z.rate) (get_or-set_same m.arcs a (record (arc_at m a) { rate = r }) no_arc l) in
        let y = ap (λ (z : ArcRow). z.rate) (get_or-set_same m.arcs a (record (arc_at m a) { rate = s }) no_arc l) in omega (arith, x, y, h))

    other : a ≢ b → (arc_at (at_rate m a r) b).rate ≤ (arc_at (at_rate m a s) b).rate
    other e =
        let x = ap (λ (z : ArcRow). z.rate) (get_or-set_other m.arcs a b (record (arc_at m a) { rate = r }) no_arc (λ z. e (sym z))) in
        let y = ap (λ (z : ArcRow). z.rate) (get_or-set_other m.arcs a b (record (arc_at m a) { rate = s }) no_arc (λ z. e (sym z))) in
        omega (arith, x, y)

    by : (z : Bool) → eqb a b ≡ z → (arc_at (at_rate m a r) b).rate ≤ (arc_at (at_rate m a s) b).rate
    by true e = same (eqb-true a b e)
    by false e = other (eqb-false a b e)

-- what is feasible at a rate is feasible at a greater one
raised_rates : (m : Model) (a r s : ℕ) {k : ℕ} {p : List Move} → a < length m.arcs → r ≤ s → IsFeasible (at_rate m a r) p k → IsFeasible (at_rate m a s) p k
raised_rates m a r s {p} l h f =
    let less = length-set m.arcs a (record (arc_at m a) { rate = r }) in
    let more = length-set m.arcs a (record (arc_at m a) { rate = s }) in
    record {
      arcs = All-weaker (λ v. v.arc < length (at_rate m a r).arcs) (λ v. v.arc < length (at_rate m a s).arcs) (λ v i. omega (arith, i, less, more)) p f.arcs;
      rates = λ b t i j. let x = f.rates b t (omega (arith, i, less, more)) j in let y = rate_le m a r s b t l h in omega (arith, x, y);
      holds = λ n t i e j.
          let P : ℤ → Type 0 = λ z. (pos 0 ≤ℤ z) × (z ≤ℤ pos (node_at m n).capacity) in
          subst P (held_at m a r p n t ∙ sym (held_at m a s p n t)) (f.holds n t i e j);
    }

pub enough_stays : EnoughStays
enough_stays m a k r s l h (p, f, o) = (p, raised_rates m a r s l h f, out_at m a s p k ∙ sym (out_at m a r p k) ∙ o)

-- the people don't look at rates
pub people_at : (m : Model) (a r : ℕ) → people (at_rate m a r) ≡ people m
unfolding people
people_at m a r = refl
