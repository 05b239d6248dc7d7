-- What a repair keeps: the people who aren't taken off keep their way, and labels stay below whatever came open.
use Rattle.std.proofs.Common.{◌≡◌, ℕ, ◌+◌, ◌<◌, ◌≤◌, Bool, true, false, cond, not, ◌&&◌, eqb, leb, ltb, List, [], ◌∷◌, length, refl, ap, ap₂, sym, subst, ◌∙◌, arith, ◌⊎◌, inl, inr}
use Rattle.std.specs.List.{All}
use Rattle.std.proofs.lemmas.Bool.{cases_Bool, cases_lt, lt-ltb}
use Rattle.std.proofs.lemmas.Bool.Decides.{nat_tests}
use Rattle.std.proofs.lemmas.List.Elements.{All-head, All-tail}
use Rattle.std.proofs.lemmas.List.Sums.{sum_by-cons}
use Rattle.evac_law.specs.declared.model.Model.{Model}
use Rattle.evac_law.specs.declared.plan.Move.{Move}
use Rattle.evac_law.specs.Building.{IsValid, arrival, capacity, entry, head, is_exit_at, rate}
use Rattle.evac_law.specs.LabelTable.{LabelTable, label_at, unset}
use Rattle.evac_law.specs.Limits.{horizon_limit}
use Rattle.evac_law.specs.Plans.{above, held, moved, staying}
use Rattle.evac_law.proofs.MoveLemmas.{moved-moves_of, moves_are_table}
use Rattle.residual_net.specs.declared.end.End.TheVariants.{Door, Pair}
use Rattle.residual_net.specs.declared.place.Place.{Place}
use Rattle.residual_net.specs.declared.place.Place.TheVariants.{Arc, Hold, Supply}
use Rattle.residual_net.specs.Network.{Network, IsNet, IsWithinLimits, arrived_by, flow_at, flow_out, limit_at, with_saved}
use Rattle.residual_net.specs.OfModel.{IsNetOf, plan_of}
use Rattle.residual_net.specs.Site.{Site, IsPlace, arc_count, arrival_at, is_source}
use Rattle.residual_net.proofs.Held.{arcs_same, arrival_is, head_is, horizon_same, nodes_same}
use Rattle.residual_net.proofs.Law.{arrived_is_out, entry_sent, exit_same, feasible, held_is, out_same, part}
use Rattle.residual_net.proofs.PartLemmas.{is_valid, people_sent}
use Rattle.residual_net.proofs.Sent.{sent_model}
use Rattle.residual_net.proofs.SentLemmas.{arrived_is_sent}
use Rattle.flow_repair.specs.Opened.{IsLeastOpened, IsOpened, end_number, head_number}
use Rattle.lex_flow.specs.Settling.{IsRelabelled}
use Rattle.edit_session.specs.Mended.{IsStanding, last_arrival_of}
use Rattle.edit_session.specs.Laws.{CutsStay}
use Rattle.edit_session.specs.Repairs.{AgreeBelow, IsRepairOf, OpensFrom}
use Rattle.edit_session.proofs.Standing.{contents_by}
use Rattle.evac_law.proofs.WeakDuality.{above_pos}

-- ---- who keeps the way

-- nobody enters an arc by moves of other arcs or moments
one_away : (v : Move) (a t n k : ℕ) → v.arc < n → v.moment ≤ k → (n ≤ a) ⊎ (k < t) → cond (eqb v.arc a && eqb v.moment t) v.people 0 ≡ 0
one_away v a t n k i j (inl late) = grind (arith, nat_tests)
one_away v a t n k i j (inr late) = grind (arith, nat_tests)

moved_away : (p : List Move) (a t n k : ℕ) → All (λ v. (v.arc < n) × (v.moment ≤ k)) p → (n ≤ a) ⊎ (k < t) → moved p a t ≡ 0
unfolding moved
moved_away [] a t n k h late = refl
moved_away (v ∷ p) a t n k h late =
    let In : Move → Type 0 = λ v. (v.arc < n) × (v.moment ≤ k) in
    let here = All-head In v p h in
    let more : moved (v ∷ p) a t ≡ cond (eqb v.arc a && eqb v.moment t) v.people 0 + moved p a t =
    sum_by-cons (λ (u : Move). cond (eqb u.arc a && eqb u.moment t) u.people 0) v p in
    omega (arith, more, one_away v a t n k here.0 here.1 late, moved_away p a t n k (All-tail In v p h) late)

-- what enters an arc by a net's plan is what flows there
moved_is : (w : Network) (a t : ℕ) → IsPlace w.site (Arc a t) → moved (plan_of w) a t ≡ flow_at w (Arc a t)
moved_is w a t i = moved-moves_of (arc_count w.site) w.site.shape.horizon (λ a t. flow_at w (Arc a t)) a t i.0 i.1

plan_in_range : (w : Network) → All (λ v. (v.arc < arc_count w.site) × (v.moment ≤ w.site.shape.horizon)) (plan_of w)
plan_in_range w = (moves_are_table (arc_count w.site) w.site.shape.horizon (λ a t. flow_at w (Arc a t))).ordered.in_range

moved_fewer : (w v : Network) (a t : ℕ) → v.site ≡ w.site → ((p : Place) → IsPlace w.site p → flow_at v p ≤ flow_at w p)
    → (a < arc_count w.site) ⊎ (arc_count w.site ≤ a) → (w.site.shape.horizon < t) ⊎ (t ≤ w.site.shape.horizon) → moved (plan_of v) a t ≤ moved (plan_of w) a t
moved_fewer w v a t site flows (inl i) (inr j) = grind (arith, moved_is, site, flows)
moved_fewer w v a t site flows (inr i) late =
    omega (arith, moved_away (plan_of v) a t (arc_count v.site) v.site.shape.horizon (plan_in_range v) (inl (omega (arith, i, ap arc_count site))))
moved_fewer w v a t site flows (inl i) (inl j) =
    omega (
      arith,
      moved_away (plan_of v) a t (arc_count v.site) v.site.shape.horizon (plan_in_range v)
          (inr (omega (arith, j, ap (λ (s : Site). s.shape.horizon) site))),
    )

-- ---- what came open

-- w stands for a plan of b with these labels; v is w brought under the limits of m, with no flow raised
pub record IsBrought (b m : Model) (w v : Network) (l : LabelTable) : Type 0 where
  pub standing : IsStanding b w l
  pub valid : IsValid m
  pub net : IsNet v
  pub of : IsNetOf m v
  pub within : IsWithinLimits v
  pub site : v.site ≡ w.site
  pub flows : (p : Place) → IsPlace w.site p → flow_at v p ≤ flow_at w p

rate-rose : (x y : Bool) (p q : ℕ) → x ≡ y → cond x 0 p < cond y 0 q → p < q
rate-rose true true p q e l = absurd (omega (arith, l))
rate-rose true false p q e l = absurd (cc)
rate-rose false true p q e l = absurd (cc)
rate-rose false false p q e l = l

number-is : (l : LabelTable) (e : Bool) (n t : ℕ) → end_number l (cond e (Door t) (Pair n t)) ≡ cond e t (label_at l n t)
number-is l true n t = refl
number-is l false n t = refl

module _ (b m : Model) (w v : Network) (l : LabelTable) (h : IsBrought b m w v l) where
  before : IsStanding b w l
  before = h.standing

  in_v : (p : Place) → IsPlace w.site p → IsPlace v.site p
  in_v p i = subst (λ (s : Site). IsPlace s p) (sym h.site) i

  horizons : m.horizon ≡ b.horizon
  horizons = grind (arith, horizon_same)

  arrivals : (a t : ℕ) → a < arc_count w.site → arrival m a t ≡ arrival b a t
  arrivals a t i =
      sym (arrival_is m a t (omega (arith, i, arcs_same m v h.net h.of h.valid, ap arc_count h.site)))
      ∙ ap (λ (s : Site). arrival_at s a t) (sym h.of.site ∙ h.site ∙ before.of.site)
      ∙ arrival_is b a t (omega (arith, i, arcs_same b w before.net before.of before.valid))

  arc-opened : (a t : ℕ) → IsPlace w.site (Arc a t) → IsOpened w v (Arc a t) → (rate b a t < rate m a t) ⊎ (moved (plan_of v) a t < moved (plan_of w) a t)
  arc-opened a t i (inl rose) =
      inl (rate-rose (ltb b.horizon (arrival b a t)) (ltb m.horizon (arrival m a t)) (rate b a t) (rate m a t)
      (ap₂ ltb (sym horizons) (sym (arrivals a t i.0))) (omega (arith, rose, before.of.limits (Arc a t) i, h.of.limits (Arc a t) (in_v (Arc a t) i))))
  arc-opened a t i (inr fell) = inr (omega (arith, fell, moved_is w a t i, moved_is v a t (in_v (Arc a t) i)))

  nodes-in : (n : ℕ) → n < w.site.shape.nodes → (n < length b.nodes) × (n < length m.nodes)
  nodes-in n i = grind (arith, nodes_same)

  moment-in : (t : ℕ) → t ≤ w.site.shape.horizon → (t ≤ b.horizon) × (t ≤ m.horizon)
  moment-in t i = let e = horizon_same b w before.net before.of before.valid in (omega (arith, i, e), omega (arith, i, e, horizons))

  some-stay : (n t : ℕ) → n < length m.nodes → t ≤ m.horizon → staying (sent_model m v) (plan_of v) n t ≤ flow_at v (Hold n t)
  some-stay n t i j = by (cases_Bool (is_exit_at (sent_model m v) n))
    where
      stayed : ℕ
      stayed = above (held (sent_model m v) (plan_of v) n t) 0

      by : (is_exit_at (sent_model m v) n ≡ true) ⊎ (is_exit_at (sent_model m v) n ≡ false) → staying (sent_model m v) (plan_of v) n t ≤ flow_at v (Hold n t)
      by (inl e) = omega (arith, ap (λ x. cond x 0 stayed) e)
      by (inr e) = grind (arith, exit_same, above_pos, sent_model, held_is, stayed)

  hold-opened : (n t : ℕ) → IsPlace w.site (Hold n t) → IsOpened w v (Hold n t)
      → (capacity b n < capacity m n) ⊎ (staying (sent_model m v) (plan_of v) n t < staying b (plan_of w) n t)
  hold-opened n t i (inl rose) = grind (arith, rate-rose, horizons, in_v)
  hold-opened n t i (inr fell) = grind (arith, nodes-in, moment-in, some-stay, contents_by, before)

  entry-opened : (n t : ℕ) → IsPlace w.site (Supply n t) → IsOpened w v (Supply n t) → (entry b n t < entry m n t) ⊎ (entry (sent_model m v) n t < entry b n t)
  entry-opened n t i (inl rose) = inl (omega (arith, rose, before.of.limits (Supply n t) i, h.of.limits (Supply n t) (in_v (Supply n t) i)))
  entry-opened n t i (inr fell) = grind (arith, nodes-in, moment-in, entry_sent)

  -- whatever came open leads to a number from k on, where all that the definition asks of does
  reaches : (k : ℕ) → OpensFrom b (plan_of w) l m (sent_model m v) (plan_of v) k → (p : Place) → IsPlace w.site p → IsOpened w v p → k ≤ head_number l w.site p
  reaches k opens (Arc a t) i o =
      let a_in : a < length b.arcs = omega (arith, i.0, arcs_same b w before.net before.of before.valid) in
      let at = opens.arcs a t a_in (moment-in t i.1).0 (arc-opened a t i o) in
      let is = ap (end_number l) (head_is b w before.net before.of before.valid a t a_in) ∙ number-is l (is_exit_at b (head b a)) (head b a) (arrival b a t) in
      omega (arith, at, is)
  reaches k opens (Hold n t) i o = opens.stays n t (nodes-in n i.0).0 (moment-in t i.1).0 (hold-opened n t i o)
  reaches k opens (Supply n t) i o = opens.entries n t (nodes-in n i.0).0 (moment-in t i.1).0 (entry-opened n t i o)

  below-least : (k first least : ℕ) → OpensFrom b (plan_of w) l m (sent_model m v) (plan_of v) k → k ≤ first → IsLeastOpened l w v first least → k ≤ least
  below-least k first least opens few is = by is.one
    where
      by : (least ≡ first) ⊎ ((p : Place) × IsPlace w.site p × IsOpened w v p × (least ≡ head_number l w.site p)) → k ≤ least
      by (inl e) = omega (arith, e, few)
      by (inr (p, i, o, e)) = omega (arith, e, reaches k opens p i o)

-- ---- labels

agree : (b : Model) {l m : LabelTable} {from next : ℕ} (k : ℕ) → l.nodes ≡ length b.nodes → l.horizon ≡ b.horizon → k ≤ from → k ≤ unset → IsRelabelled l m from next
    → AgreeBelow b l m k
agree b {l} {m} {from} {next} k nodes horizon few set h = record {
  same = λ n t i j less. h.kept n t (omega (arith, i, nodes)) (omega (arith, j, horizon)) (omega (arith, less, few));
  others = λ n t i j more. by n t (omega (arith, i, nodes)) (omega (arith, j, horizon)) more (cases_lt (label_at l n t) from);
}
  where
    new : (n t : ℕ) → ((from ≤ label_at m n t) × (label_at m n t < next)) ⊎ (label_at m n t ≡ unset) → k ≤ label_at m n t
    new n t (inl x) = omega (arith, x.0, few)
    new n t (inr x) = omega (arith, x, set)

    by : (n t : ℕ) → n < l.nodes → t ≤ l.horizon → k ≤ label_at l n t → (label_at l n t < from) ⊎ (from ≤ label_at l n t) → k ≤ label_at m n t
    by n t i j more (inl less) = omega (arith, h.kept n t i j less, more)
    by n t i j more (inr old) = new n t (h.others n t i j old)

-- ---- both

pub repair_of : {b m : Model} {w v : Network} {l k : LabelTable} (lost : ℕ) {first least next : ℕ} → IsBrought b m w v l
    → flow_out v is_source + lost ≡ flow_out w is_source → first ≡ last_arrival_of w + 1 → IsLeastOpened l w v first least → IsRelabelled l k least next
    → IsRepairOf b (plan_of w) l (last_arrival_of w) m k lost
unfolding horizon_limit
repair_of {b} {m} {w} {v} {l} lost {first} {least} h exact is_first is_least relabelled = record {
  way = record {
    moves = plan_of v;
    kept = arrived_by v m.horizon;
    fewer = λ a t. moved_fewer w v a t h.site h.flows (cases_lt a (arc_count w.site)) (cases_lt w.site.shape.horizon t);
    take_out = record {
      some = sent_model m v;
      valid = is_valid m v h.valid h.net h.of h.within;
      part = part m v h.valid h.net h.of h.within;
      feasible = feasible m v h.valid h.net h.of h.within m.horizon (omega arith);
      all_out =
          out_same m v h.valid h.net h.of m.horizon ∙ sym (arrived_is_out m v h.valid h.net h.of m.horizon)
          ∙ sym (people_sent m v h.valid h.net h.of h.within);
      count = people_sent m v h.valid h.net h.of h.within;
    };
    others = omega (
      arith,
      exact,
      arrived_is_sent w before.net,
      arrived_is_sent v h.net,
      ap (arrived_by w) (horizon_same b w before.net before.of before.valid),
      ap (arrived_by v) (horizon_same m v h.net h.of h.valid),
      arrived_is_out b w before.valid before.net before.of b.horizon,
    );
  };
  labels = λ i few opens.
      agree b i (before.labels.nodes ∙ nodes_same b w before.net before.of before.valid)
      (before.labels.horizon ∙ horizon_same b w before.net before.of before.valid)
      (below-least b m w v l h i first least opens (omega (arith, few, is_first)) is_least)
      (omega (arith, few, before.cleared.certified.in_horizon, before.valid.horizon)) relabelled;
}
  where
    before : IsStanding b w l
    before = h.standing

-- a net with its flow and limits saved opens as much
pub least_saved : {l : LabelTable} (w : Network) {v : Network} {first least : ℕ} → IsLeastOpened l (with_saved w) v first least → IsLeastOpened l w v first least
unfolding flow_at limit_at
least_saved w h = record { most = h.most; places = h.places; one = h.one }

-- ---- cuts

pub cuts-stay : CutsStay
cuts-stay m m' l l' k i exits h less n t in_nodes in_horizon =
    ap (λ e. leb t i && (not e && ltb i (label_at l' n t))) (exits n) ∙ ap (λ x. leb t i && (not (is_exit_at m n) && x)) (same-test (cases_lt (label_at l n t) k))
  where
    same-test : (label_at l n t < k) ⊎ (k ≤ label_at l n t) → ltb i (label_at l' n t) ≡ ltb i (label_at l n t)
    same-test (inl low) = ap (ltb i) (h.same n t in_nodes in_horizon low)
    same-test (inr high) =
        let high' = h.others n t in_nodes in_horizon high in
        lt-ltb i (label_at l' n t) (omega (arith, less, high')) ∙ sym (lt-ltb i (label_at l n t) (omega (arith, less, high)))
