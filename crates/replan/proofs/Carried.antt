-- What is true of every replan: as it begins, as its plan is carried out, and as it is edited.
use Rattle.std.proofs.Common.{◌≡◌, ℕ, ◌+◌, ◌≤◌, Bool, true, false, ◌&&◌, ◌||◌, eqb, ltb, List, [], ◌∷◌, length, get_or, replicate, Result, Ok, Err, refl, ap, sym, subst, ◌∙◌, inl, inr, arith}
use Rattle.std.proofs.lemmas.List.{get_or-replicate, length-replicate}
use Rattle.std.specs.List.{All}
use Rattle.std.proofs.lemmas.List.Elements.{All-cons, All-head, All-tail, All-take}
use Rattle.std.proofs.lemmas.Bool.{cases_lt}
use Rattle.std.proofs.lemmas.Bool.Decides.{nat_tests}
use Rattle.evac_law.specs.Plans.{TakesAllOut}
use Rattle.evac_law.specs.declared.edit.Edit.{Edit}
use Rattle.evac_law.specs.declared.edit.Edit.TheVariants.{ShutExit, ReopenExit, Room, Shift, Enter, Leave}
use Rattle.evac_law.specs.declared.model.Model.{Model}
use Rattle.evac_law.specs.declared.plan.Move.{Move}
use Rattle.evac_law.specs.Building.{IsValid, node_at, people}
use Rattle.evac_law.specs.Certificates.{IsCertified, IsClearable}
use Rattle.evac_law.specs.Edits.{IsEditOf, edited}
use Rattle.evac_law.specs.Limits.{people_limit}
use Rattle.evac_law.proofs.EditLemmas.{is_edited, people-set}
use Rattle.evac_law.proofs.Optimal.{out_le_out}
use Rattle.evac_law.proofs.ShapeLemmas.{edited_keeps_shape}
use Rattle.edit_session.specs.declared.faults.BeginFault.{BeginFault}
use Rattle.edit_session.specs.declared.faults.BeginFault.TheVariants as begin_faults
use Rattle.edit_session.specs.declared.faults.Short.{Short}
use Rattle.edit_session.specs.declared.faults.EditRefusal.{EditRefusal}
use Rattle.edit_session.specs.declared.faults.EditRefusal.TheVariants.{Fault, NotCleared}
use Rattle.edit_session.specs.declared.faults.UndoRefusal.{UndoRefusal}
use Rattle.edit_session.specs.declared.faults.UndoRefusal.TheVariants.{NothingToUndo}
use Rattle.edit_session.specs.declared.work.Work.{Work}
use Rattle.edit_session.specs.Sessions.{BeginEnds, Begins, EditEnds, IsSolved, SessionState, SessionView, UndoEnds, kept_limit, no_labels}
use Rattle.edit_session.proofs.Standing.{takes_all_out}
use Rattle.replan.specs.Committed.{gone_by, moves_before}
use Rattle.replan.specs.Replans.{IsAdvanced, ReplanView, is_bad_moment, is_of_people}
use Rattle.replan.specs.Rest.{rest}
use Rattle.replan.specs.RestLaws.{IsLeftOver}
use Rattle.replan.specs.Kept.{IsLeftAfter, IsReplan, IsReachable}
use Rattle.replan.proofs.RestIs.{best_from, later, left_over}

-- ---- as it begins

pub replan_begun : (m : Model) (s : SessionState) (gone : List ℕ) → s.model ≡ m → s.former ≡ [] → gone ≡ replicate (m.horizon + 1) 0 → IsReplan s 0 gone
replan_begun m s gone same none e =
    let h : s.model.horizon ≡ m.horizon = ap (λ (x : Model). x.horizon) same in record {
      size = omega (arith, ap length e, length-replicate {A = ℕ} (m.horizon + 1) 0, h);
      none_gone = λ _ k l. ap (λ (g : List ℕ). get_or g k 0) e ∙ get_or-replicate (m.horizon + 1) k 0 0 (omega (arith, l, h));
      models = rw none (All-cons (IsReachable s.model.horizon 0 gone) s.model [] (record { horizon_same = refl; few = λ i. absurd (omega (arith, i)) }) (λ i d l. absurd (omega (arith, l))));
    }

-- ---- as its plan is carried out

not_bad : (s h last : ℕ) → (eqb s 0 || (ltb h s || ltb s last)) ≡ false → (1 ≤ s) × (s ≤ h)
not_bad s h last e = (grind (arith, nat_tests), grind (arith, nat_tests))

-- those who are gone and those who are in the model are few
pub few_now : {s : SessionState} {moment : ℕ} {gone : List ℕ} → IsReplan s moment gone → IsValid s.model → (k : ℕ) → k ≤ s.model.horizon
    → get_or gone k 0 + people s.model ≤ people_limit
few_now {s} {moment} {gone} replan valid k l = elim (cases_lt moment 1) [
  | inl none ↦ omega (arith, replan.none_gone (omega (arith, none)) k l, valid.people_fit)
  | inr some ↦ (All-head (IsReachable s.model.horizon moment gone) s.model s.former replan.models).few some k l
]

-- also of a model and a list that are the same
pub few_in : (v : ReplanView) (layout : Model) (slice : List ℕ) → IsReplan v.session.state v.moment v.gone → IsValid v.session.state.model
    → layout ≡ v.session.state.model → slice ≡ v.gone → (k : ℕ) → k ≤ layout.horizon → get_or slice k 0 + people layout ≤ people_limit
few_in v layout slice replan valid same same_gone k l =
    omega (
      arith,
      ap (λ (xs : List ℕ). get_or xs k 0) same_gone,
      ap people same,
      few_now replan valid k (omega (arith, l, ap (λ (x : Model). x.horizon) same)),
    )

-- what a layout of the model and a slice of those who are gone show
pub is_left_after : (v : ReplanView) (s : ℕ) (layout left : Model) (slice gone : List ℕ) → IsReplan v.session.state v.moment v.gone
    → IsSolved v.session.state → layout ≡ v.session.state.model → slice ≡ v.gone → left ≡ rest layout v.session.state.plan s → length gone ≡ length slice
    → ((k : ℕ) → k ≤ layout.horizon → get_or gone k 0 ≡ get_or slice k 0 + gone_by layout v.session.state.plan s k) → IsLeftAfter v s left gone
is_left_after v s layout left slice gone replan solved same same_gone is_rest long more =
    let p = v.session.state.plan in record {
      before = replan;
      solved = solved;
      left = is_rest ∙ ap (λ (x : Model). rest x p s) same;
      size = long ∙ ap length same_gone;
      gone = λ k l.
          omega (
            arith,
            more k (omega (arith, l, ap (λ (x : Model). x.horizon) same)),
            ap (λ (xs : List ℕ). get_or xs k 0) same_gone,
            ap (λ (x : Model). gone_by x p s k) same,
          );
    }

module _ (v : ReplanView) (s : ℕ) (fair : is_bad_moment s v.session.state.model.horizon v.moment ≡ false) (left : Model) (gone : List ℕ)
    (done : IsLeftAfter v s left gone) where
  abbrev m : Model
  m = v.session.state.model

  abbrev p : List Move
  p = v.session.state.plan

  abbrev valid : IsValid m
  valid = done.solved.valid

  good : (1 ≤ s) × (s ≤ m.horizon)
  good = not_bad s m.horizon v.moment fair

  all : TakesAllOut m p
  all = takes_all_out done.solved

  over : IsLeftOver m p s
  over = left_over m p s valid good.0 good.1 all

  pub left_is_valid : IsValid left
  left_is_valid = subst IsValid (sym done.left) over.valid

  pub left_is_clearable : IsClearable left
  left_is_clearable = subst IsClearable (sym done.left) over.clearable

  module _ (next : SessionView) (n : ℕ) (begun : BeginEnds left (Ok next) n) where
    begins : Begins (rest m p s) next.state
    begins = subst (λ (x : Model). Begins x next.state) done.left begun.0

    certified : IsCertified (rest m p s) next.state.plan next.state.labels next.state.last
    certified = subst (λ (x : Model). IsCertified x next.state.plan next.state.labels next.state.last) begins.begun begins.solved.certified

    h_same : next.state.model.horizon ≡ m.horizon
    h_same = ap (λ (x : Model). x.horizon) begins.begun

    few_next : (k : ℕ) → k ≤ next.state.model.horizon → get_or gone k 0 + people next.state.model ≤ people_limit
    few_next k l =
        omega (
          arith,
          ap people begins.begun,
          done.gone k (omega (arith, l, h_same)),
          few_now done.before valid k (omega (arith, l, h_same)),
          out_le_out m (moves_before s p) k m.horizon (omega (arith, l, h_same)),
          over.nobody_lost,
        )

    pub replan_advanced : IsReplan next.state s gone
    replan_advanced = record {
      size = omega (arith, done.size, done.before.size, h_same);
      none_gone = λ e. absurd (omega (arith, e, good.0));
      models = rw begins.none_former (All-cons (IsReachable next.state.model.horizon s gone) next.state.model []
          (record { horizon_same = refl; few = λ _. few_next }) (λ i d l. absurd (omega (arith, l))));
    }

    pub is_advanced : IsAdvanced v s (record { session = next; moment = s; gone = gone })
    is_advanced =
        let r = next.state.plan in
        let l = next.state.labels in record {
          begins = begins;
          refused = begun.1 ∙ ap no_labels (done.left ∙ sym begins.begun);
          moment = refl;
          size = done.size;
          gone = done.gone;
          later = λ i d h. later m p s valid good.0 good.1 all r l next.state.last certified i d h (begins.solved.ordered.somebody i d h);
          best = best_from m p s valid good.0 good.1 all r l next.state.last certified;
        }

-- ---- as it is edited

pub keeps_people : (m : Model) (e : Edit) → IsEditOf m e → is_of_people e ≡ false → people (edited m e) ≡ people m
unfolding people
keeps_people m (ShutExit n) i h = omega (arith, people-set m n (record (node_at m n) { shut = true }) i)
keeps_people m (ReopenExit n) i h = omega (arith, people-set m n (record (node_at m n) { shut = false }) i)
keeps_people m (Room n c) i h = omega (arith, people-set m n (record (node_at m n) { capacity = c }) i)
keeps_people m (Shift a b p) i h = absurd (cc)
keeps_people m (Enter n p) i h = absurd (cc)
keeps_people m (Leave n p) i h = absurd (cc)
keeps_people m _ i h = refl

-- a model of the same horizon, with no more people, may be come to as well
within_too : {h moment : ℕ} {gone : List ℕ} {m : Model} (m' : Model) → IsReachable h moment gone m → m'.horizon ≡ m.horizon → (1 ≤ moment → people m' ≡ people m)
    → IsReachable h moment gone m'
within_too m' w same few = record {
  horizon_same = same ∙ w.horizon_same;
  few = λ i k l. let e = few i in omega (arith, e, w.few i k l);
}

-- what is true over a horizon is true over the same horizon
replan_at : {s : SessionState} (s' : SessionState) {moment : ℕ} {gone : List ℕ} → IsReplan s moment gone → s'.model.horizon ≡ s.model.horizon
    → All (IsReachable s.model.horizon moment gone) (s'.model ∷ s'.former) → IsReplan s' moment gone
replan_at s' {moment} {gone} replan alike models = record {
  size = omega (arith, replan.size, alike);
  none_gone = λ e k l. replan.none_gone e k (omega (arith, l, alike));
  models = subst (λ (h : ℕ). All (IsReachable h moment gone) (s'.model ∷ s'.former)) (sym alike) models;
}

pub edit_keeps : (v v' : SessionView) (e : Edit) (r : Result Work EditRefusal) (n : ℕ) {moment : ℕ} {gone : List ℕ} → IsEditOf v.state.model e
    → (ltb 0 moment && is_of_people e) ≡ false → EditEnds v e r v' n → IsReplan v.state moment gone → IsReplan v'.state moment gone
edit_keeps v v' e (Ok work) n {moment} {gone} i free ends replan =
    let m = v.state.model in
    let m' = v'.state.model in
    let on = ends.0 in
    let is = is_edited m on.edited e on.inverse on.accepted ∙ sym on.goes_on.gone in
    let same : m'.horizon ≡ m.horizon = sym (ap (λ (x : Model). x.horizon) is) ∙ (edited_keeps_shape m e).horizon in
    let same_people = λ (l : 1 ≤ moment). sym (ap people is) ∙ keeps_people m e i (not_of_people moment (is_of_people e) l free) in
    let here = All-head (IsReachable m.horizon moment gone) m v.state.former replan.models in
    replan_at v'.state replan same (All-cons (IsReachable m.horizon moment gone) m' v'.state.former (within_too m' here same same_people)
    (rw on.goes_on.kept (All-take (IsReachable m.horizon moment gone) kept_limit (m ∷ v.state.former) replan.models)))
  where
    not_of_people : (moment : ℕ) (b : Bool) → 1 ≤ moment → (ltb 0 moment && b) ≡ false → b ≡ false
    not_of_people moment b l e = grind (arith, nat_tests)
edit_keeps v v' e (Err (Fault fault)) n {moment} {gone} i free ends replan =
    subst (λ (x : SessionView). IsReplan x.state moment gone) (sym ends.1) replan
edit_keeps v v' e (Err (NotCleared everybody most)) n {moment} {gone} i free ends replan =
    subst (λ (x : SessionState). IsReplan x moment gone) (sym ends.1) replan

pub undo_keeps : (v v' : SessionView) (r : Result Work UndoRefusal) (n : ℕ) {moment : ℕ} {gone : List ℕ} → UndoEnds v r v' n → IsReplan v.state moment gone
    → IsReplan v'.state moment gone
undo_keeps v v' (Ok work) n {moment} {gone} ends replan =
    let h = v.state.model.horizon in
    let on = ends.0 in
    let former : All (λ x. IsReachable h moment gone x) (on.before ∷ on.earlier) =
    rw on.last_kept at (All-tail (λ x. IsReachable h moment gone x) v.state.model v.state.former replan.models) in
    let same : v'.state.model.horizon ≡ h =
    ap (λ (x : Model). x.horizon) on.goes_on.gone ∙ (All-head (λ x. IsReachable h moment gone x) on.before on.earlier former).horizon_same in
    replan_at v'.state replan same (rw (on.goes_on.gone, on.goes_on.kept) former)
undo_keeps v v' (Err NothingToUndo) n {moment} {gone} ends replan =
    subst (λ (x : SessionView). IsReplan x.state moment gone) (sym ends.1) replan

-- a model that can be cleared isn't refused
pub never_short : (left : Model) (fault : BeginFault) (short : Short) (n : ℕ) → fault ≡ begin_faults.NotCleared short
    → BeginEnds left (Err fault) n → IsClearable left → ⊥
never_short left fault short n e ends clearable =
    let refused : BeginEnds left (Err (begin_faults.NotCleared short)) n = subst (λ (f : BeginFault). BeginEnds left (Err f) n) e ends in
    refused.2.barred_by.not_clearable clearable
