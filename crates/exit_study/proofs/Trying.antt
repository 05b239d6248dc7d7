-- What an edit of a session tells of the edited model, and what a search by halves comes to.
use Rattle.std.proofs.Common.{◌≡◌, ℕ, zero, suc, ◌+◌, ◌<◌, ◌≤◌, Bool, true, false, ◌&&◌, leb, List, length, refl, ap, sym, ◌∙◌, arith, inl, inr, ◌⊎◌, subst, IsTrue}
use Rattle.std.proofs.lemmas.Bool.{leb-false, leb-true}
use Rattle.std.proofs.lemmas.List.{set-get_or}
use Rattle.std.proofs.lemmas.List.Elements.{All-get_or}
use Rattle.evac_law.specs.declared.model.Model.{Model}
use Rattle.evac_law.specs.declared.plan.Move.{Move}
use Rattle.evac_law.specs.declared.edit.Edit.TheVariants as edits
use Rattle.evac_law.specs.declared.model.ArcRow.{ArcRow}
use Rattle.evac_law.specs.Building.{IsArc, IsValid, arc_at, no_arc, people}
use Rattle.evac_law.specs.Certificates.{IsCertified, label_cut}
use Rattle.evac_law.specs.Cuts.{cut_value}
use Rattle.evac_law.specs.LabelTable.{LabelTable}
use Rattle.evac_law.specs.Limits.{rate_limit}
use Rattle.evac_law.specs.Plans.{out_by}
use Rattle.exit_study.specs.Laws.{TooSlowIsNotEnough}
use Rattle.exit_study.specs.Rates.{IsClearedBy, IsEnough, IsLeastRate, IsNoRate, IsSearch, IsTooSlow, TellsEnough, at_rate}
use Rattle.evac_law.proofs.EditLemmas.{rate_of, valid_arc}
use Rattle.evac_law.proofs.Optimal.{certified_is_feasible, label_cut_is_cut, out_le_out, out_stays}
use Rattle.evac_law.proofs.WeakDuality.{out_le_value}
use Rattle.edit_session.specs.Sessions.{IsEdited, IsNotCleared, IsSolved, IsTrial, SessionState}
use Rattle.edit_session.proofs.Ring.{edited_is}
use Rattle.exit_study.specs.Exits.{IsClearedAt, without_exit}
use Rattle.exit_study.proofs.RateLemmas.{enough_stays, people_at}
use Rattle.evac_law.proofs.Thinned.{all_out_is_clearable}

-- ---- the edited model

past_first : (b c : Bool) → IsTrue (b && c) → b ≡ true
past_first true c h = refl
past_first false c h = h

-- a cut of labels has no pair past its moment
pub none_past : (m : Model) (l : LabelTable) (k n t : ℕ) → IsTrue (label_cut m l k n t) → t ≤ k
none_past m l k n t h = leb-true t k (past_first (leb t k) _ h)

-- before the last moment of a best plan the cut of its labels is worth fewer than the people
pub fewer_before : (m : Model) (p : List Move) (l : LabelTable) (c k : ℕ) → k < c → IsCertified m p l c → cut_value m (label_cut m l k) k < people m
fewer_before m p l zero k late good = absurd (omega (arith, late))
fewer_before m p l (suc b) k late good =
    omega (arith, good.cuts k (omega arith), good.least b (omega arith), out_le_out m p k b (omega arith))

pub slow_before : (m : Model) {s : SessionState} (k : ℕ) → s.model ≡ m → IsSolved s → k < s.last → IsTooSlow m k
slow_before m {s} k is h late =
    subst (λ (z : Model). IsTooSlow z k) is (record {
      cut = label_cut s.model s.labels k;
      moment = k;
      by = inl refl;
      is_cut = label_cut_is_cut s.model s.labels k (omega (arith, h.certified.in_horizon));
      none_later = none_past s.model s.labels k;
      below_people = fewer_before s.model s.plan s.labels s.last k late h.certified;
    })

pub cleared_by : (m : Model) {s : SessionState} (k : ℕ) → s.model ≡ m → IsSolved s → s.last ≤ k → IsClearedBy m k
cleared_by m {s} k is h soon =
    subst (λ (z : Model). IsClearedBy z k) is (record { plan = s.plan; labels = s.labels; last = s.last; certified = h.certified; in_time = soon })

pub slow_barred : {m : Model} (k : ℕ) {l : LabelTable} {all most : ℕ} → IsNotCleared m l all most → IsTooSlow m k
slow_barred {m} k {l} h = record {
  cut = label_cut m l m.horizon;
  moment = m.horizon;
  by = inr refl;
  is_cut = h.barred_by.shortfall.cut;
  none_later = none_past m l m.horizon;
  below_people = omega (arith, h.barred_by.shortfall.worth, h.barred_by.shortfall.below_people);
}

-- what an edit of the rate shows, by the last moment of its plan
tried_made : (m : Model) (a k r : ℕ) {s t : SessionState} → s.model ≡ m → k ≤ m.horizon → IsEdited s (edits.Rate a r) t → TellsEnough m a k r (leb t.last k)
tried_made m a k r {s} {t} is j h = by (leb t.last k) refl
  where
    now : t.model ≡ at_rate m a r
    now = h.goes_on.gone ∙ (edited_is s.model h.edited (edits.Rate a r) h.inverse h.accepted).0 ∙ ap (λ (z : Model). at_rate z a r) is

    by : (b : Bool) → leb t.last k ≡ b → TellsEnough m a k r b
    by true e = cleared_by (at_rate m a r) k now h.goes_on.solved (leb-true t.last k e)
    by false e = slow_before (at_rate m a r) k now h.goes_on.solved (leb-false t.last k e)

pub tried_told : {s : SessionState} (a k r : ℕ) {last steps : ℕ} → k ≤ s.model.horizon → IsTrial s (edits.Rate a r) last steps → TellsEnough s.model a k r (leb last k)
tried_told {s} a k r j h = subst (λ (c : ℕ). TellsEnough s.model a k r (leb c k)) h.out (tried_made s.model a k r refl j h.edited)

-- what shutting an exit shows
pub exit_tried : {s : SessionState} (x : ℕ) {last steps : ℕ} → IsTrial s (edits.ShutExit x) last steps → IsClearedAt (without_exit s.model x) last
exit_tried {s} x {last} h =
    let t = h.after in
    let now : t.model ≡ without_exit s.model x =
    h.edited.goes_on.gone ∙ (edited_is s.model h.edited.edited (edits.ShutExit x) h.edited.inverse h.edited.accepted).0 in
    let at : IsClearedAt t.model t.last = record { plan = t.plan; labels = t.labels; certified = h.edited.goes_on.solved.certified } in
    subst (λ (m : Model). IsClearedAt m last) now (subst (λ (c : ℕ). IsClearedAt t.model c) h.out at)

-- ---- what a rate is by its proof

pub valid_at : (m : Model) (a r : ℕ) → IsValid m → a < length m.arcs → r ≤ rate_limit → IsValid (at_rate m a r)
valid_at m a r valid l few = valid_arc m a _ valid l refl refl refl few (All-get_or (IsArc m.nodes) m.arcs a no_arc l valid.arcs).windows

too_slow : (m : Model) (a k r : ℕ) (x : IsTooSlow (at_rate m a r) k) → IsValid m → a < length m.arcs → r ≤ rate_limit → k ≤ m.horizon → ¬ IsEnough m a k r
too_slow m a k r x valid l few j (p, f, o) = by x.by
  where
    now : IsValid (at_rate m a r)
    now = valid_at m a r valid l few

    all : out_by (at_rate m a r) p k ≡ people (at_rate m a r)
    all = o ∙ sym (people_at m a r)

    by : (x.moment ≡ k) ⊎ (x.moment ≡ m.horizon) → ⊥
    by (inl e) = omega (arith, out_le_value (at_rate m a r) x.cut p k now f, ap (cut_value (at_rate m a r) x.cut) e, x.below_people, all)
    by (inr e) =
        let q = all_out_is_clearable (at_rate m a r) p k now j f all in
        omega (arith, out_le_value (at_rate m a r) x.cut q.0 m.horizon now q.1, ap (cut_value (at_rate m a r) x.cut) e, x.below_people, q.2)

pub too_slow_is_not_enough : TooSlowIsNotEnough
too_slow_is_not_enough m a k r valid l few j x = too_slow m a k r x valid l few j

pub cleared_is_enough : (m : Model) (a k r : ℕ) → IsValid m → a < length m.arcs → r ≤ rate_limit → IsClearedBy (at_rate m a r) k → IsEnough m a k r
cleared_is_enough m a k r valid l few h = (
  h.plan,
  certified_is_feasible (at_rate m a r) h.plan h.labels h.last k (valid_at m a r valid l few) h.certified,
  out_stays (at_rate m a r) h.plan h.last k h.in_time h.certified.arrives ∙ h.certified.all_out ∙ people_at m a r,
)

-- ---- the search

same_rate : (m : Model) (a : ℕ) → at_rate m a (arc_at m a).rate ≡ m
same_rate m a = ap (λ (arcs : List ArcRow). record m { arcs = arcs }) (set-get_or m.arcs a no_arc)

-- the session's plan is in time
pub search_from_enough : {s : SessionState} (a k : ℕ) → IsSolved s → a < length s.model.arcs → s.last ≤ k → IsSearch s.model a k 0 (arc_at s.model a).rate
search_from_enough {s} a k h l soon = record {
  ordered = omega arith;
  in_range = omega (arith, rate_of s.model a h.valid l);
  too_slow = λ q e. absurd (omega (arith, e));
  enough = λ _. cleared_by (at_rate s.model a (arc_at s.model a).rate) k (sym (same_rate s.model a)) h soon;
}

-- the session's plan is too late
pub search_from_slow : {s : SessionState} (a k : ℕ) → IsSolved s → a < length s.model.arcs → k < s.last
    → IsSearch s.model a k ((arc_at s.model a).rate + 1) (rate_limit + 1)
search_from_slow {s} a k h l late = record {
  ordered = omega (arith, rate_of s.model a h.valid l);
  in_range = omega arith;
  too_slow = λ q e.
      let same : (arc_at s.model a).rate ≡ q = omega (arith, e) in
      subst (λ (r : ℕ). IsTooSlow (at_rate s.model a r) k) same
      (slow_before (at_rate s.model a (arc_at s.model a).rate) k (sym (same_rate s.model a)) h late);
  enough = λ i. absurd (omega (arith, i));
}

pub search_down : {m : Model} {a k low high : ℕ} (middle : ℕ) → IsSearch m a k low high → low ≤ middle → middle < high → IsClearedBy (at_rate m a middle) k
    → IsSearch m a k low middle
search_down middle h l i done = record {
  ordered = l;
  in_range = omega (arith, h.in_range);
  too_slow = h.too_slow;
  enough = λ _. done;
}

pub search_up : {m : Model} {a k low high : ℕ} (middle : ℕ) → IsSearch m a k low high → middle < high → IsTooSlow (at_rate m a middle) k
    → IsSearch m a k (middle + 1) high
search_up {m} {a} {k} middle h i slow = record {
  ordered = omega arith;
  in_range = h.in_range;
  too_slow = λ q e. let same : middle ≡ q = omega (arith, e) in subst (λ (z : ℕ). IsTooSlow (at_rate m a z) k) same slow;
  enough = h.enough;
}

module _ (m : Model) (a k : ℕ) (valid : IsValid m) (l : a < length m.arcs) (j : k ≤ m.horizon) where
  none_at : (q r : ℕ) → q ≤ r → r ≤ rate_limit → IsTooSlow (at_rate m a r) k → ¬ IsEnough m a k q
  none_at q r i few slow enough = too_slow_is_not_enough m a k r valid l few j slow (enough_stays m a k q r l i enough)

  none_under : (low q : ℕ) → low ≤ rate_limit → q < low → ((r : ℕ) → r + 1 ≡ low → IsTooSlow (at_rate m a r) k) → ¬ IsEnough m a k q
  none_under zero q few i slow = λ enough. absurd (omega (arith, i))
  none_under (suc r) q few i slow = none_at q r (omega (arith, i)) (omega (arith, few)) (slow r (omega arith))

  pub search_least : (r high : ℕ) → r ≤ rate_limit → high ≤ r → IsSearch m a k r high → IsLeastRate m a k r
  search_least r high few i h =
      let same : high ≡ r = omega (arith, h.ordered) in
      let done = subst (λ (z : ℕ). IsClearedBy (at_rate m a z) k) same (h.enough (omega arith)) in record {
        in_range = few;
        enough = cleared_is_enough m a k r valid l few done;
        least = λ q e. none_under r q few e h.too_slow;
        cleared = done;
        too_slow = h.too_slow;
      }

  pub search_none : (low high : ℕ) → rate_limit < low → IsSearch m a k low high → IsNoRate m a k
  search_none low high past h =
      let slow = h.too_slow rate_limit (omega (arith, h.ordered, h.in_range)) in record {
        none = λ r few. none_at r rate_limit few (omega arith) slow;
        too_slow = slow;
      }
