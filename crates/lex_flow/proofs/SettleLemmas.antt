-- Moment after moment settled, and what it comes to.
use Rattle.std.proofs.Common.{◌≡◌, ◌≢◌, ℕ, zero, suc, ◌+◌, ◌-◌, ◌*◌, ◌<◌, ◌≤◌, leb, length, ap, sym, subst, ◌∙◌, refl, arith, inl, inr, add-one}
use Rattle.std.proofs.lemmas.Bool.{cases_lt}
use Rattle.evac_law.specs.declared.model.Model.{Model}
use Rattle.evac_law.specs.Building.{IsValid, people}
use Rattle.evac_law.specs.Certificates.{IsCertified, IsShortfall, label_cut}
use Rattle.evac_law.specs.Cuts.{Cut}
use Rattle.evac_law.specs.LabelTable.{LabelTable, label_at, unset_from}
use Rattle.evac_law.specs.Parts.{IsMost, TakesPartOut}
use Rattle.evac_law.proofs.FewerLemmas.{parts_are_bounded}
use Rattle.evac_law.proofs.LabelLemmas.{unset_at}
use Rattle.evac_law.proofs.Optimal.{at_most_last, label_cut_is_cut, lawful_down, shortfall_bars_clearing}
use Rattle.evac_law.proofs.SumLemmas as sums
use Rattle.residual_net.specs.Closed.{IsClosed}
use Rattle.residual_net.specs.Limits.{supply_limit}
use Rattle.residual_net.specs.Network.{Network, IsAllSent, IsNet, IsWithinLimits, arrived_by}
use Rattle.residual_net.specs.NetLaws.{labelled}
use Rattle.residual_net.specs.OfModel.{IsNetOf, last_move, plan_of}
use Rattle.residual_net.proofs.Begin.{supplies_are_people}
use Rattle.residual_net.proofs.Fit.{feasible, fits}
use Rattle.residual_net.proofs.Held.{horizon_same}
use Rattle.residual_net.proofs.LastArrival.{arrived_by_last, arrived_rises, last_by_arrived, last_fits}
use Rattle.residual_net.proofs.Law.{arrived_is_out, closed_is_cut}
use Rattle.residual_net.proofs.PartLemmas.{arrived_get_out}
use Rattle.residual_net.proofs.SentLemmas.{all_sent_arrive, arrived_all_sent, few_arrive}
use Rattle.terminal_augment.proofs.ClosedLemmas.{closed_same}
use Rattle.terminal_augment.proofs.KeptLemmas.{limits_stay, limits_then, net_of_kept, over_before}
use Rattle.terminal_augment.proofs.SendLemmas.{few_by, horizon_small}
use Rattle.terminal_augment.specs.Settled.{IsClosedBelow, IsCountedOn, IsLabelled, IsLabelsOf}
use Rattle.lex_flow.specs.declared.outcome.Outcome.{Outcome}
use Rattle.lex_flow.specs.declared.outcome.Outcome.TheVariants.{Cleared, Short}
use Rattle.lex_flow.specs.Outcomes.{AreLabelsSettled, IsAnswer, IsBounded, IsNetSettled, IsOutcome, last_settled, pushes_of}
use Rattle.lex_flow.specs.Settling.{IsOver, IsSettledThrough, IsSettledTo, arrivals_below}
use Rattle.lex_flow.proofs.UnsetLemmas.{early_same, relabelled_more, relabelled_unset}

-- ---- sums of arrivals

pub below_none : (w : Network) → arrivals_below w 0 ≡ 0
unfolding arrivals_below
below_none w = refl

pub below_more : (w : Network) (k : ℕ) → arrivals_below w (k + 1) ≡ arrivals_below w k + arrived_by w k
unfolding arrivals_below
below_more w k = sums.sum_below-more (λ i. arrived_by w i) k

pub below_le : (w v : Network) (n c : ℕ) → ((i : ℕ) → arrived_by w i ≤ arrived_by v i + c) → arrivals_below w n ≤ arrivals_below v n + n * c
below_le w v zero c h = omega (arith, below_none w)
below_le w v (suc k) c h = rw (sym (add-one k)) (omega (arith, below_more w k, below_more v k, below_le w v k c h, h k))

pub below_few : (w : Network) (k : ℕ) → IsNet w → arrivals_below w k ≤ k * supply_limit
below_few w zero n = omega (arith, below_none w)
below_few w (suc k) n = rw (sym (add-one k)) (omega (arith, below_more w k, below_few w k n, few_by w k n))

-- ---- moment after moment

-- with the labels from a moment on unset
pub settled_begins : (w : Network) (l : LabelTable) (from : ℕ) → IsNet w → IsWithinLimits w → IsLabelsOf w.site l → length l.list ≡ l.nodes * (l.horizon + 1)
    → from ≤ w.site.shape.horizon + 1 → IsClosedBelow w l from → IsSettledTo w w l (unset_from l from) from from 0
settled_begins w l from net within of full early closed = record {
  since = omega arith;
  limits = limits_stay w;
  within = within;
  net = net;
  earlier = λ i q. refl;
  later = λ i. omega arith;
  bounded = omega arith;
  idle = λ _. refl;
  none = λ _. refl;
  labels = relabelled_unset l from full;
  closed = λ i q. closed_same w (labelled l i) (labelled (unset_from l from) i) i net
      (λ n t a. same i n t q (omega (arith, a.node, of.nodes)) (omega (arith, a.moment, of.horizon))) (closed i q);
  needed = λ i q e over. omega (arith, q, e);
  rests = λ _. refl;
}
  where
    same : (i n t : ℕ) → i < from → n < l.nodes → t ≤ l.horizon → labelled (unset_from l from) i n t ≡ labelled l i n t
    same i n t q a b = ap (λ z. leb z i) (unset_at l from n t full a b) ∙ early_same from i (label_at l n t) q (omega (arith, early, horizon_small w net))

pub settled_more : (w v u : Network) (l m z : LabelTable) (from k p r before after : ℕ) → IsSettledTo w v l m from k p → (IsOver v k → ⊥)
    → k ≤ v.site.shape.horizon → IsCountedOn v u k r before after → IsLabelled m z k → IsClosedBelow u z (k + 1) → IsSettledTo w u l z from (k + 1) (p + r)
settled_more w v u l m z from k p r before after h not_over in_time counted labels closed =
    let pushed = counted.pushed in
    let sent = pushed.sent in
    record {
      since = omega (arith, h.since);
      limits = limits_then w v u h.limits pushed.limits;
      within = pushed.within;
      net = pushed.net;
      earlier = λ i q. sent.earlier i (omega (arith, q, h.since)) ∙ h.earlier i q;
      later = λ i. omega (arith, h.later i, sent.later i);
      bounded = omega (arith, below_more w k, below_more u k, below_le v u k 0 (λ i. omega (arith, sent.later i)), h.bounded, sent.risen, h.later k);
      idle = λ q. sent.idle (omega (arith, q)) ∙ h.idle (omega (arith, q));
      none = λ q. absurd (omega (arith, q, h.since));
      labels = relabelled_more l m z from k h.since (omega (arith, in_time, horizon_small v h.net)) h.labels labels;
      closed = closed;
      needed = λ i q e over.
          let same : i ≡ k = omega (arith, e) in
          let late : k ≤ v.site.shape.horizon + 1 = omega (arith, in_time) in
          let was = over_before v u k pushed.limits h.net h.within pushed.net pushed.within sent.earlier late over.sent (omega (arith, over.before, same)) in
          not_over (record { sent = was.0; before = was.1 });
      rests = λ over. let is = h.rests over in absurd (not_over (rw (h.idle (h.none is), is) over));
    }

-- ---- what it comes to

-- the moment of the last arrival is c
certified : (m : Model) (w : Network) (l : LabelTable) (c : ℕ) → IsValid m → IsNet w → IsNetOf m w → IsWithinLimits w → IsAllSent w
    → c ≡ last_move w.site (plan_of w) → IsClosedBelow w l (c + 1) → IsCertified m (plan_of w) l c
certified m w l c valid net of within all last closed =
    let everybody = all_sent_arrive m w valid net of within all in
    let horizon = horizon_same m w net of valid in
    let in_time : c ≤ m.horizon = omega (arith, last, last_fits w net, horizon) in
    record {
      in_horizon = in_time;
      feasible = lawful_down m (plan_of w) c m.horizon in_time (feasible m w valid net of within all);
      all_out = sym (arrived_is_out m w valid net of c) ∙ arrived_by_last w net c (omega (arith, last)) ∙ ap (arrived_by w) horizon ∙ everybody;
      arrives = λ j d q. omega (arith, last, at_most_last m (plan_of w) j d q, (fits m w valid net of within all).last_same);
      cuts = λ k q. sym (arrived_is_out m w valid net of k) ∙ closed_is_cut m w valid net of within l k (omega (arith, q, in_time)) (closed k (omega (arith, q)));
      least = λ b e.
          let fewer : arrived_by w b ≢ people m = λ q. omega (arith, e, last, last_by_arrived w net b (q ∙ sym everybody ∙ ap (arrived_by w) (sym horizon))) in
          omega (arith, arrived_is_out m w valid net of b, arrived_rises w b m.horizon (omega (arith, e, in_time)), everybody, fewer);
    }

shortfall : (m : Model) (w : Network) (l : LabelTable) → IsValid m → IsNet w → IsNetOf m w → IsWithinLimits w → (IsAllSent w → ⊥)
    → IsClosed w (labelled l m.horizon) m.horizon → IsShortfall m (label_cut m l m.horizon) (arrived_by w m.horizon)
shortfall m w l valid net of within unsent closed =
    let fewer : arrived_by w m.horizon ≢ people m = λ e. unsent (arrived_all_sent m w valid net of within e) in
    record {
      cut = label_cut_is_cut m l m.horizon (omega arith);
      worth = sym (closed_is_cut m w valid net of within l m.horizon (omega arith) closed);
      below_people = omega (arith, few_arrive w net within, supplies_are_people m w valid of, ap (arrived_by w) (horizon_same m w net of valid), fewer);
    }

-- those who arrive can get out, and a cut that is worth as many shows that no more can
greatest : (m : Model) (w : Network) (x : Cut) (v : ℕ) → IsValid m → IsNet w → IsNetOf m w → IsWithinLimits w → arrived_by w m.horizon ≡ v → IsShortfall m x v
    → IsMost m v
greatest m w x v valid net of within arrived short = record {
  reached = (plan_of w, subst (λ (n : ℕ). TakesPartOut m (plan_of w) n) arrived (arrived_get_out m w valid net of within));
  bound = λ u h. omega (arith, parts_are_bounded m x u h, short.worth);
}

module _ (w v : Network) (l m : LabelTable) (from k p : ℕ) (h : IsSettledThrough w v l m from k p) where
  done : IsSettledTo w v l m from k p
  done = h.settled

  -- the moments up to the last one are settled, and none after it
  reaches : (o : Outcome) → IsOutcome v o → last_settled v.site.shape.horizon o < k
  reaches (Cleared moment pushes) outcome = elim (cases_lt v.site.shape.horizon k) [
    | inl end ↦ omega (arith, outcome.1, last_fits v done.net, end)
    | inr early ↦ omega (arith, outcome.1, (h.over early).before)
  ]
  reaches (Short most pushes) outcome = elim (cases_lt v.site.shape.horizon k) [ inl end ↦ end | inr early ↦ absurd (outcome.0 (h.over early).sent) ]

  ends : (o : Outcome) → IsOutcome v o → from < k → k ≡ last_settled v.site.shape.horizon o + 1
  ends (Short most pushes) outcome some = omega (arith, reaches (Short most pushes) outcome, h.next)
  ends (Cleared moment pushes) outcome some = elim (cases_lt (last_move v.site (plan_of v)) (k - 1)) [
    | inl less ↦ absurd (done.needed (k - 1) (omega (arith, some)) (omega (arith, some)) (record { sent = outcome.0; before = less }))
    | inr late ↦ omega (arith, outcome.1, reaches (Cleared moment pushes) outcome, late)
  ]

  closed_to : (o : Outcome) → IsOutcome v o → IsClosedBelow v m (last_settled v.site.shape.horizon o + 1)
  closed_to o outcome i q = done.closed i (omega (arith, q, reaches o outcome))

  pub answer_is : (b : Model) (o : Outcome) → IsOutcome v o → IsValid b → IsNetOf b w → IsAnswer b v m o
  answer_is b (Cleared moment pushes) outcome valid before =
      let of = net_of_kept b w v done.limits before in
      record {
        arrived = all_sent_arrive b v valid done.net of done.within outcome.0;
        last = outcome.1;
        fits = fits b v valid done.net of done.within outcome.0;
        certified = certified b v m moment valid done.net of done.within outcome.0 outcome.1 (closed_to (Cleared moment pushes) outcome);
      }
  answer_is b (Short most pushes) outcome valid before =
      let of = net_of_kept b w v done.limits before in
      let horizon = horizon_same b v done.net of valid in
      let closed = closed_to (Short most pushes) outcome b.horizon (omega (arith, horizon)) in
      let most_is : arrived_by v b.horizon ≡ most = sym (outcome.1 ∙ ap (arrived_by v) horizon) in
      let short = subst (λ x. IsShortfall b (label_cut b m b.horizon) x) most_is (shortfall b v m valid done.net of done.within outcome.0 closed) in (
        most_is,
        record {
          shortfall = short;
          not_clearable = shortfall_bars_clearing b (label_cut b m b.horizon) most valid short;
          greatest = greatest b v (label_cut b m b.horizon) most valid done.net of done.within most_is short;
        },
      )

  bounded_to : (o : Outcome) → IsOutcome v o → pushes_of o ≡ p → IsBounded w v o
  bounded_to o outcome same = elim (cases_lt from k) [
    | inl some ↦ rw (sym (ends o outcome some)) (omega (arith, same, done.bounded))
    | inr early ↦ let none = done.none (omega (arith, early, done.since)) in rw (done.idle none) (omega (arith, same, none))
  ]

  pub net_is : (o : Outcome) → IsOutcome v o → pushes_of o ≡ p → IsNetSettled w v from o
  net_is o outcome same = record {
    limits = done.limits;
    net = done.net;
    within = done.within;
    earlier = done.earlier;
    later = done.later;
    idle = λ e. done.idle (sym same ∙ e);
    bounded = bounded_to o outcome same;
    rests = λ over. done.idle (done.none (done.rests over));
  }

  pub labels_are : (o : Outcome) → IsOutcome v o → AreLabelsSettled v l m from o
  labels_are o outcome = record {
    labels = record {
      nodes = done.labels.nodes;
      horizon = done.labels.horizon;
      kept = done.labels.kept;
      others = λ n t i j late. elim (done.labels.others n t i j late) [ inl now ↦ inl (now.0, omega (arith, now, ends o outcome)) | inr free ↦ inr free ];
    };
    closed = closed_to o outcome;
  }
