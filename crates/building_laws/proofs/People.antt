-- People who leave a room, come into one, or go from one to another.
use Rattle.std.proofs.Common.{◌≡◌, ℕ, ◌+◌, ◌-◌, ◌<◌, ◌≤◌, List, length, refl, ap, sym, ◌∙◌, subst, arith, Ok}
use Rattle.std.proofs.lemmas.Bool.{eqb-false, ltb-false}
use Rattle.std.proofs.lemmas.List.{length-set, get_or-set_other}
use Rattle.evac_law.specs.declared.edit.Edit.{Edit}
use Rattle.evac_law.specs.declared.edit.Edit.TheVariants.{Enter, Leave, Shift}
use Rattle.evac_law.specs.declared.model.Model.{Model}
use Rattle.evac_law.specs.declared.plan.Move.{Move}
use Rattle.evac_law.specs.Building.{IsValid, no_node, people, start}
use Rattle.evac_law.specs.Certificates.{IsClearable}
use Rattle.evac_law.specs.Cuts.{Cut, cut_value, leaves_cut}
use Rattle.evac_law.specs.Edits.{IsEditOf, applied, checks, edited, inverse_of, with_start}
use Rattle.evac_law.specs.Plans.{IsFeasible, out_by}
use Rattle.evac_law.proofs.EditLemmas.{inverse_undoes, people-set, unless-Ok, valid_edited, valid_start}
use Rattle.evac_law.proofs.Optimal.{out_le_people}
use Rattle.evac_law.proofs.ValidLemmas.{node_is}
use Rattle.evac_law.proofs.WeakDuality.{out_le_value}
use Rattle.building_laws.specs.Duality.{IsBestAt}
use Rattle.building_laws.specs.People.{HasFewer}
use Rattle.building_laws.proofs.Duality.{cut_of}
use Rattle.building_laws.proofs.Leaving.{Without, entry_less, exits_same, leaving, rates_same, rooms_same, row, start_again, start_there, start_twice}
use Rattle.building_laws.proofs.Values.{value_le}

-- a model is another one with w people fewer in a node
record IsWithout (m less : Model) (n w : ℕ) : Type 0 where
  pub valid : IsValid m
  pub valid_less : IsValid less
  pub node_in : n < length m.nodes
  pub enough : w ≤ start m n
  pub same : with_start m n (start m n - w) ≡ less

module _ (m less : Model) (n w : ℕ) (is : IsWithout m less n w) where
  abbrev fewer : Model
  fewer = with_start m n (start m n - w)

  leaves_same : (x : Cut) (k t a : ℕ) → leaves_cut fewer x k t a ≡ leaves_cut m x k t a
  leaves_same x k t a = grind (arith, exits_same)

  -- a cut is worth no more
  value_less : (x : Cut) (k : ℕ) → cut_value less x k ≤ cut_value m x k
  value_less x k =
      subst (λ s. cut_value s x k ≤ cut_value m x k) is.same
      (value_le m fewer x k
      (record {
        places = sym (length-set m.nodes n (row m n (start m n - w) is.node_in));
        arcs = refl;
        entries = λ i t j o. omega (arith, entry_less m n (start m n - w) is.node_in w (omega (arith, is.enough)) i t);
        holds = λ i t j e. omega (arith, rooms_same m n (start m n - w) is.node_in i);
        leaves = λ a t j e. (sym (leaves_same x k t a) ∙ e, omega (arith, rates_same m n (start m n - w) is.node_in a t));
      }))

  never_more : (p q : List Move) (k : ℕ) → k ≤ m.horizon → IsBestAt m p k → IsFeasible less q k → out_by less q k ≤ out_by m p k
  never_more p q k l best feasible =
      let x = cut_of m p k is.valid l best in
      omega (arith, x.1, value_less x.0 k, out_le_value less x.0 q k is.valid_less feasible)

  rest : (p : List Move) (k : ℕ) → IsFeasible m p k → Without m (out_by m p k) k less w
  rest p k feasible = subst (λ s. Without m (out_by m p k) k s w) is.same (leaving w m n is.valid is.node_in is.enough p k feasible)

  little_fewer : (p q : List Move) (k : ℕ) → IsFeasible m p k → IsBestAt less q k → out_by m p k ≤ out_by less q k + w
  little_fewer p q k feasible best = let r = rest p k feasible in omega (arith, r.2, best.most r.0 r.1)

  people_less : people m ≡ people less + w
  people_less = grind (arith, people-set, row)

  horizon_same : m.horizon ≡ less.horizon
  horizon_same = ap (λ s. s.horizon) is.same

  clears : IsClearable m → IsClearable less
  clears plan =
      let r = rest plan.0 m.horizon plan.1 in
      let all : out_by less r.0 m.horizon ≡ people less = omega (arith, r.2, plan.2, people_less, out_le_people less r.0 m.horizon is.valid_less r.1) in
      (r.0, subst (IsFeasible less r.0) horizon_same r.1, ap (out_by less r.0) (sym horizon_same) ∙ all)

  has_fewer : HasFewer m less w
  has_fewer = grind (arith, never_more, little_fewer, people_less, out_le_people, clears)

-- ---- edits

pub fewer_are_no_later : (m m' : Model) (n w : ℕ) (e : Edit) → IsValid m → n < length m.nodes → applied m (Leave n w) ≡ Ok (m', e) → HasFewer m m' w
fewer_are_no_later m m' n w e valid i h =
    let both = unless-Ok (checks m (Leave n w)) (edited m (Leave n w), inverse_of m (Leave n w)) (m', e) h in
    let same : edited m (Leave n w) ≡ m' = ap (λ t. t.0) both.1 in
    has_fewer m m' n w
    (record {
      valid = valid;
      valid_less = subst IsValid same (valid_edited m (Leave n w) valid i both.0);
      node_in = i;
      enough = ltb-false (start m n) w both.0.1.1.0;
      same = same;
    })

pub more_are_no_sooner : (m m' : Model) (n w : ℕ) (e : Edit) → IsValid m → n < length m.nodes → applied m (Enter n w) ≡ Ok (m', e) → HasFewer m' m w
more_are_no_sooner m m' n w e valid i h =
    let both = unless-Ok (checks m (Enter n w)) (edited m (Enter n w), inverse_of m (Enter n w)) (m', e) h in
    let same : edited m (Enter n w) ≡ m' = ap (λ t. t.0) both.1 in
    let back : Leave n w ≡ e = ap (λ t. t.1) both.1 in
    let undone = inverse_undoes m m' (Enter n w) e valid i h in
    fewer_are_no_later m' m n w (Enter n w) (subst IsValid same (valid_edited m (Enter n w) valid i both.0))
    (subst (IsEditOf m') (sym back) undone.0) (ap (applied m') back ∙ undone.1)

pub shifted_change_little : (m m' : Model) (a b w : ℕ) (e : Edit) → IsValid m → IsEditOf m (Shift a b w) → applied m (Shift a b w) ≡ Ok (m', e)
    → (p q : List Move) (k : ℕ) → k ≤ m.horizon → IsBestAt m p k → IsBestAt m' q k
    → (out_by m p k ≤ out_by m' q k + w) × (out_by m' q k ≤ out_by m p k + w)
shifted_change_little m m' a b w e valid i h p q k l best other =
    let both = unless-Ok (checks m (Shift a b w)) (edited m (Shift a b w), inverse_of m (Shift a b w)) (m', e) h in
    let same : edited m (Shift a b w) ≡ m' = ap (λ t. t.0) both.1 in
    let apart = eqb-false a b both.0.0 in
    let enough = ltb-false (start m a) w both.0.1.1.1.0 in
    let less = with_start m a (start m a - w) in
    let valid_less : IsValid less = valid_start m a (start m a - w) valid i.0 (omega (arith, (node_is m a valid i.0).start_fits)) (omega (arith, valid.people_fit)) in
    let b_in : b < length less.nodes = omega (arith, i.1, length-set m.nodes a (row m a (start m a - w) i.0)) in
    let b_same : start less b ≡ start m b =
    ap (λ r. r.start) (get_or-set_other m.nodes a b (row m a (start m a - w) i.0) no_node (λ e. apart (sym e))) in
    let new = with_start less b (start m b + w) in
    let b_new : start new b ≡ start m b + w = start_there less b (start m b + w) b_in in
    let first : IsWithout m less a w = record { valid = valid; valid_less = valid_less; node_in = i.0; enough = enough; same = refl } in
    let second : IsWithout new less b w = record {
      valid = valid_edited m (Shift a b w) valid i both.0;
      valid_less = valid_less;
      node_in = omega (arith, b_in, length-set less.nodes b (row less b (start m b + w) b_in));
      enough = omega (arith, b_new);
      same = start_twice less b (start m b + w) b_in (start new b - w) ∙ start_again less b (start new b - w) (omega (arith, b_new, b_same));
    } in
    let other' : IsBestAt new q k = subst (λ s. IsBestAt s q k) (sym same) other in
    let out_new : out_by new q k ≡ out_by m' q k = ap (λ s. out_by s q k) same in
    let from_first = rest m less a w first p k best.feasible in
    let from_second = rest new less b w second q k other'.feasible in (
      omega (arith, from_first.2, out_new, never_more new less b w second q from_first.0 k l other' from_first.1),
      omega (arith, from_second.2, out_new, never_more m less a w first p from_second.0 k l best from_second.1),
    )
