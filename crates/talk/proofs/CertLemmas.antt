-- What a session's edit of a rate shows in the texts of a study.
use Rattle.std.proofs.Common.{◌≡◌, ℕ, zero, suc, ◌<◌, ◌≤◌, List, ◌++◌, length, refl, ap, sym, ◌∙◌, subst, arith, inl, inr, ◌⊎◌, Result, Ok, Err}
use Rattle.std.proofs.lemmas.Bool.{cases_lt, le-ltb}
use Rattle.evac_law.specs.declared.edit.Edit.{Edit}
use Rattle.evac_law.specs.declared.edit.Edit.TheVariants as edits
use Rattle.evac_law.specs.declared.edit.EditFault.{EditFault}
use Rattle.evac_law.specs.declared.model.Model.{Model}
use Rattle.evac_law.specs.declared.plan.Move.{Move}
use Rattle.evac_law.specs.Building.{IsValid, head, people, tail}
use Rattle.evac_law.specs.Certificates.{IsCertified, IsClearable, label_cut}
use Rattle.evac_law.specs.Cuts.{cut_value}
use Rattle.evac_law.specs.LabelTable.{LabelTable}
use Rattle.evac_law.specs.Limits.{rate_limit}
use Rattle.evac_law.specs.Plans.{IsFeasible, out_by}
use Rattle.evac_law.specs.Edits.{checks, edited, inverse_of}
use Rattle.evac_law.proofs.EditLemmas.{unless-none}
use Rattle.edit_session.specs.declared.faults.EditRefusal.{EditRefusal}
use Rattle.edit_session.specs.declared.faults.EditRefusal.TheVariants.{Fault, NotCleared}
use Rattle.evac_law.proofs.Optimal.{certified_is_best, label_cut_is_cut, out_le_out}
use Rattle.certificate_text.specs.BlockText.{end_line, in_lines, move_lines, name_of_node}
use Rattle.report_text.specs.ReportText.{cut_line}
use Rattle.edit_session.specs.Sessions.{EditEnds, IsBarred, IsEdited, IsNotCleared, IsSolved, SessionState, SessionView}
use Rattle.edit_session.proofs.Ring.{edited_is}
use Rattle.exit_study.specs.Rates.{IsClearedBy, IsEnough, IsLeastRate, IsNoRate, at_rate}
use Rattle.exit_study.proofs.RateLemmas.{people_at}
use Rattle.evac_law.proofs.Thinned.{all_out_is_clearable}
use Rattle.exit_study.proofs.Trying.{cleared_is_enough, fewer_before, none_past, valid_at}
use Rattle.talk.specs.StudyTexts.{SaysCut, SaysCutBelow, SaysMoves, SaysNever, SaysRate, least_line, never_line}
use Rattle.talk.proofs.RowLemmas.{lines_edited}

-- ---- the edited model

pub now_at : (s t : SessionState) (a r : ℕ) → IsEdited s (edits.Rate a r) t → t.model ≡ at_rate s.model a r
now_at s t a r h = h.goes_on.gone ∙ (edited_is s.model h.edited (edits.Rate a r) h.inverse h.accepted).0

-- ---- a rate that is enough

-- a best plan of a model from which a plan has everybody out by k is over by k
in_time : (m : Model) (p q : List Move) (l : LabelTable) (c k : ℕ) → IsValid m → IsCertified m p l c → IsFeasible m q k → out_by m q k ≡ people m → c ≤ k
in_time m p q l zero k valid good feasible all = omega arith
in_time m p q l (suc b) k valid good feasible all = by (cases_lt k (suc b))
  where
    by : (k < suc b) ⊎ (suc b ≤ k) → suc b ≤ k
    by (inl early) =
        absurd (omega (arith, certified_is_best m p l (suc b) valid good q k feasible, all, out_le_out m p k b (omega arith), good.least b (omega arith)))
    by (inr late) = late

pub moves_said : (s t : SessionState) (a k r : ℕ) (text : List ℕ) → IsEdited s (edits.Rate a r) t → IsEnough s.model a k r → text ≡ move_lines t.model t.plan
    → SaysMoves (at_rate s.model a r) k text
moves_said s t a k r text h enough is =
    let now = now_at s t a r h in
    let good = h.goes_on.solved in
    let feasible = subst (λ (m : Model). IsFeasible m enough.0 k) (sym now) enough.1 in
    let all : out_by t.model enough.0 k ≡ people t.model =
    ap (λ (m : Model). out_by m enough.0 k) now ∙ enough.2 ∙ sym (people_at s.model a r) ∙ sym (ap people now) in
    subst (λ (m : Model). SaysMoves m k text) now (record {
      cleared = record {
        plan = t.plan;
        labels = t.labels;
        last = t.last;
        certified = good.certified;
        in_time = in_time t.model t.plan enough.0 t.labels t.last k good.valid good.certified feasible all;
      };
      says = is;
    })

-- at such a rate everybody can get out
pub never_barred : (s : SessionState) (a k r all most steps : ℕ) (l : LabelTable) → IsSolved s → a < length s.model.arcs → r ≤ rate_limit → k ≤ s.model.horizon
    → IsBarred s (edits.Rate a r) l all most steps → IsEnough s.model a k r → ⊥
never_barred s a k r all most steps l solved i few j h enough =
    let valid = valid_at s.model a r solved.valid i few in
    let now = (edited_is s.model h.edited (edits.Rate a r) h.inverse h.accepted).0 in
    let clears = all_out_is_clearable (at_rate s.model a r) enough.0 k valid j enough.1 (enough.2 ∙ sym (people_at s.model a r)) in
    h.not_cleared.barred_by.not_clearable (subst IsClearable (sym now) clears)

pub never_refused : (v v' : SessionView) (why : EditRefusal) (a k r steps : ℕ) → IsSolved v.state → a < length v.state.model.arcs → r ≤ rate_limit → k ≤ v.state.model.horizon
    → IsEnough v.state.model a k r → EditEnds v (edits.Rate a r) (Err why) v' steps → ⊥
never_refused v v' (NotCleared all most) a k r steps solved i few j enough h = never_barred v.state a k r all most steps v'.refused solved i few j h.0 enough
never_refused v v' (Fault fault) a k r steps solved i few j enough h =
    let m = v.state.model in
    let e = edits.Rate a r in
    let fine = unless-none (checks m e) (edited m e, inverse_of m e) (le-ltb rate_limit r few, tt) in
    let both : ◌≡◌ {A = Result (Model × Edit) EditFault} (Ok (edited m e, inverse_of m e)) (Err fault) = sym fine ∙ h.0 in absurd (cc)

-- ---- a rate that isn't enough

-- by the cut of the plan's labels
pub cut_said : (s t : SessionState) (a k r value : ℕ) (text : List ℕ) → IsSolved s → a < length s.model.arcs → r ≤ rate_limit → k ≤ s.model.horizon → IsEdited s (edits.Rate a r) t
    → ¬ IsEnough s.model a k r → value ≡ cut_value t.model (label_cut t.model t.labels k) k → text ≡ cut_line k value ++ in_lines t.model (label_cut t.model t.labels k)
    → SaysCut (at_rate s.model a r) k text
cut_said s t a k r value text solved l few j h slow worth is =
    let now = now_at s t a r h in
    let good = h.goes_on.solved in
    subst (λ (m : Model). SaysCut m k text) now (record {
      shown = record {
        cut = label_cut t.model t.labels k;
        moment = k;
        by = inl refl;
        is_cut = label_cut_is_cut t.model t.labels k (omega (arith, ap (λ (m : Model). m.horizon) now, j));
        none_later = none_past t.model t.labels k;
        below_people = fewer_before t.model t.plan t.labels t.last k (late (cases_lt k t.last)) good.certified;
      };
      says = is ∙ ap (λ (v : ℕ). cut_line k v ++ in_lines t.model (label_cut t.model t.labels k)) worth;
    })
  where
    late : (k < t.last) ⊎ (t.last ≤ k) → k < t.last
    late (inl after) = after
    late (inr soon) =
        let done : IsClearedBy t.model k = record { plan = t.plan; labels = t.labels; last = t.last; certified = h.goes_on.solved.certified; in_time = soon } in
        absurd (slow (cleared_is_enough s.model a k r solved.valid l few (subst (λ (m : Model). IsClearedBy m k) (now_at s t a r h) done)))

-- by the refused cut
barred_said : (s : SessionState) (a k r all most steps : ℕ) (l : LabelTable) (text : List ℕ) → IsBarred s (edits.Rate a r) l all most steps
    → text ≡ cut_line s.model.horizon most ++ in_lines s.model (label_cut s.model l s.model.horizon) → SaysCut (at_rate s.model a r) k text
barred_said s a k r all most steps l text h is =
    let now = (edited_is s.model h.edited (edits.Rate a r) h.inverse h.accepted).0 in
    let m = at_rate s.model a r in
    let shown : IsNotCleared m l all most = subst (λ (z : Model). IsNotCleared z l all most) now h.not_cleared in record {
      shown = record {
        cut = label_cut m l s.model.horizon;
        moment = s.model.horizon;
        by = inr refl;
        is_cut = shown.barred_by.shortfall.cut;
        none_later = none_past m l s.model.horizon;
        below_people = omega (arith, shown.barred_by.shortfall.worth, shown.barred_by.shortfall.below_people);
      };
      says = is ∙ ap (λ (x : List ℕ). cut_line s.model.horizon most ++ x) (lines_edited s.model (edits.Rate a r) l s.model.horizon)
          ∙ ap (λ (v : ℕ). cut_line s.model.horizon v ++ in_lines m (label_cut m l s.model.horizon)) (sym shown.barred_by.shortfall.worth);
    }

pub barred_said_by : (v v' : SessionView) (why : EditRefusal) (a k r all most steps : ℕ) (text : List ℕ) → why ≡ NotCleared all most → EditEnds v (edits.Rate a r) (Err why) v' steps
    → text ≡ cut_line v.state.model.horizon most ++ in_lines v.state.model (label_cut v.state.model v'.refused v.state.model.horizon) → SaysCut (at_rate v.state.model a r) k text
barred_said_by v v' why a k r all most steps text is h says =
    let ends = subst (λ (w : EditRefusal). EditEnds v (edits.Rate a r) (Err w) v' steps) is h in
    barred_said v.state a k r all most steps v'.refused text ends.0 says

-- ---- the whole of a reply

abbrev pub rate_text : Model → ℕ → ℕ → ℕ → List ℕ → List ℕ → List ℕ
rate_text m a k r moves cut = least_line (name_of_node m (tail m a)) (name_of_node m (head m a)) k r ++ moves ++ cut ++ end_line

pub rate_said : (m : Model) (a k r : ℕ) (moves cut : List ℕ) → IsLeastRate m a k r → SaysMoves (at_rate m a r) k moves → SaysCutBelow m a k r cut
    → SaysRate m a k r (rate_text m a k r moves cut)
rate_said m a k r moves cut least f g = record { least = least; moves = moves; cut = cut; says_moves = f; says_cut = g; says = refl }

abbrev pub never_text : Model → ℕ → ℕ → List ℕ → List ℕ
never_text m a k cut = never_line (name_of_node m (tail m a)) (name_of_node m (head m a)) k ++ cut ++ end_line

pub never_said : (m : Model) (a k : ℕ) (cut : List ℕ) → IsNoRate m a k → SaysCut (at_rate m a rate_limit) k cut → SaysNever m a k (never_text m a k cut)
never_said m a k cut none g = record { none = none; cut = cut; says_cut = g; says = refl }
