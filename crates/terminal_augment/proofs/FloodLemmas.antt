-- A search that goes on from all pairs that it has met.
use Rattle.std.proofs.Common.{◌≡◌, ◌≢◌, ℕ, zero, suc, ◌+◌, ◌-◌, ◌*◌, ◌<◌, ◌≤◌, Bool, true, false, cond, ◌&&◌, ◌||◌, eqb, leb, List, [], ◌∷◌, length, get_or, drop, Option, Some, None, ap, sym, subst, ◌∙◌, ◌⊎◌, refl, arith, add-one, drop-cons, inl, inr}
use Rattle.std.specs.List.{All}
use Rattle.std.proofs.lemmas.Bool.{and_from, cases_eq, cases_lt, eq-eqb, le-leb, ne_eqb, or_left, or_right}
use Rattle.std.proofs.lemmas.List.{drop-drop, get_or-set_other, get_or-set_same, length-set}
use Rattle.evac_law.proofs.LabelLemmas.{label_within}
use Rattle.evac_law.specs.LabelTable.{LabelTable, label_at, label_place, with_label}
use Rattle.time_expansion.specs.Expansion.{arcs_to, from_at, no_ends, to_at}
use Rattle.time_expansion.proofs.Cells.{sizes}
use Rattle.time_expansion.proofs.Lists as lists
use Rattle.residual_net.specs.Closed.{reached}
use Rattle.residual_net.specs.NetLaws.{labelled}
use Rattle.residual_net.specs.Network.{Network, IsNet, residual_room}
use Rattle.residual_net.specs.Site.{Site, IsOpenPair, IsPlace, IsSite, arc_count, arrival_at, exit_at, start_of, stop_of}
use Rattle.residual_net.specs.declared.end.End.{End}
use Rattle.residual_net.specs.declared.end.End.TheVariants.{Door, Pair, Source}
use Rattle.residual_net.specs.declared.place.PathStep.{PathStep}
use Rattle.residual_net.specs.declared.place.Place.TheVariants.{Arc, Hold}
use Rattle.terminal_augment.specs.declared.spot.Met.{Met}
use Rattle.terminal_augment.specs.Chains.{AreMet, IsAmong, spots}
use Rattle.terminal_augment.specs.Floods.{IsSeededBelow, AreExpanded, IsDone, IsExpanded, IsFlooding, IsGrown, IsWayDone, open_count}
use Rattle.terminal_augment.specs.Queues.{Queue}
use Rattle.terminal_augment.specs.Settled.{IsSettledBelow}
use Rattle.terminal_augment.specs.Spots.{has}
use Rattle.terminal_augment.specs.Ways.{in_count, way_before, way_in}
use Rattle.terminal_augment.proofs.LabelLemmas.{label_set, open_few, open_labelled}
use Rattle.terminal_augment.proofs.SpotLemmas.{all_cons, has_drop}

-- ---- what was met grows

below_grown : {k : ℕ} {l m : LabelTable} {x y : Queue Met} (j : ℕ) → IsGrown k l m x y → j ≤ length x.list → drop (length y.list - j) y.list ≡ drop (length x.list - j) x.list
below_grown {x} {y} j g few = grind (arith, drop-drop)

pub grown_then : {k : ℕ} {l m v : LabelTable} {x y z : Queue Met} → IsGrown k l m x y → IsGrown k m v y z → IsGrown k l v x z
grown_then {k} {l} {m} {v} {x} g h = record {
  nodes = h.nodes ∙ g.nodes;
  horizon = h.horizon ∙ g.horizon;
  labels = λ n t. both n t (g.labels n t) (h.labels n t);
  room = h.room ∙ g.room;
  more = omega (arith, g.more, h.more);
  below = below_grown (length x.list) h g.more ∙ g.below;
}
  where
    both : (n t : ℕ) → (label_at m n t ≡ label_at l n t) ⊎ ((k < label_at l n t) × (label_at m n t ≡ k))
        → (label_at v n t ≡ label_at m n t) ⊎ ((k < label_at m n t) × (label_at v n t ≡ k)) → (label_at v n t ≡ label_at l n t) ⊎ ((k < label_at l n t) × (label_at v n t ≡ k))
    both n t (inl a) (inl b) = inl (b ∙ a)
    both n t (inl a) (inr b) = inr (omega (arith, a, b.0), b.1)
    both n t (inr a) (inl b) = inr (a.0, b ∙ a.1)
    both n t (inr a) (inr b) = absurd (omega (arith, a.1, b.0))

pub has_later : {k : ℕ} {l m : LabelTable} {x y : Queue Met} (n t : ℕ) → IsGrown k l m x y → has (spots x.list) n t ≡ true → has (spots y.list) n t ≡ true
has_later {x} {y} n t g h = has_drop (length y.list - length x.list) y.list n t (subst (λ (z : List Met). has (spots z) n t ≡ true) (sym g.below) h)

pub among_later : {k : ℕ} {l m : LabelTable} {x y : Queue Met} (e : End) → IsGrown k l m x y → IsAmong k (spots x.list) e → IsAmong k (spots y.list) e
among_later Source g h = absurd h
among_later (Pair n t) g h = has_later n t g h
among_later (Door j) g h = h

-- what is done stays so while labels are set
pub done_later : (w : Network) {k : ℕ} {l m : LabelTable} {x y : Queue Met} (z : PathStep) → IsGrown k l m x y → IsDone w l k z → IsDone w m k z
done_later w {k} {l} {m} z g done room = reach (start_of w.site z) (done room)
  where
    reach : (e : End) → reached (labelled l k) k e ≡ true → reached (labelled m k) k e ≡ true
    reach Source h = absurd (cc)
    reach (Pair n t) h = elim (g.labels n t) [
      | inl same ↦ ap (λ u. leb u k) same ∙ h
      | inr new ↦ le-leb _ _ (omega (arith, new.1))
    ]
    reach (Door j) h = h

pub way_later : (w : Network) {k : ℕ} {l m : LabelTable} {x y : Queue Met} (o : Option PathStep) → IsGrown k l m x y → IsWayDone w l k o → IsWayDone w m k o
way_later w None g h = tt
way_later w (Some z) g h = done_later w z g h

-- the wait before a pair is done once the waits before it are gone through, the last of them first
pub before_later : (w : Network) {k : ℕ} (n t u : ℕ) {l m : LabelTable} {x y : Queue Met} → IsGrown k l m x y → 0 < u → u ≤ t → (u < t → IsWayDone w l k (way_before n t))
    → IsDone w m k (record { place = Hold n (u - 1); back = false }) → IsWayDone w m k (way_before n t)
before_later w {k} n t u {m} g some few old here = elim (cases_lt u t) [
  | inl before ↦ way_later w (way_before n t) g (old before)
  | inr after ↦
      let same : u ≡ t = omega (arith, few, after) in
      let there : IsDone w m k (record { place = Hold n (t - 1); back = false }) = subst (λ z. IsDone w m k (record { place = Hold n (z - 1); back = false })) same here in
      let later : eqb t 0 ≡ false = ne_eqb _ _ (omega (arith, some, same)) in
      rw later there
]

pub seeded_later : (w : Network) {k : ℕ} (n : ℕ) {l m : LabelTable} {x y : Queue Met} → IsGrown k l m x y → IsSeededBelow w l k n → IsSeededBelow w m k n
seeded_later w n g h a t q place stop = done_later w (record { place = Arc a t; back = false }) g (h a t q place stop)

-- at an exit the flood has begun once each way into it is done
pub seeded_more : (w : Network) (l : LabelTable) (k n : ℕ) → exit_at w.site n ≡ true
    → ((i : ℕ) → i < in_count w.site n → IsWayDone w l k (way_in w.site (get_or (arcs_to w.site.shape n) i 0) k)) → IsSeededBelow w l k n → IsSeededBelow w l k (n + 1)
seeded_more w l k n exit entering old a t few place stop = elim (cases_lt (to_at w.site.shape a) n) [
  | inl before ↦ old a t before place stop
  | inr after ↦
      let here : to_at w.site.shape a ≡ n = omega (arith, few, after) in
      let listed = lists.into_listed w.site.shape n a place.0 here in
      let way : IsWayDone w l k (way_in w.site a k) = subst (λ z. IsWayDone w l k (way_in w.site z k)) listed.2 (entering listed.0 listed.1) in
      let moment : arrival_at w.site a t ≡ k = cc (stop, ap (exit_at w.site) here, exit) in
      let early : leb (arrival_at w.site a 0) k ≡ true = le-leb _ _ (omega (arith, moment)) in
      let when : k - arrival_at w.site a 0 ≡ t = omega (arith, moment) in
      subst (λ z. IsDone w l k (record { place = Arc a z; back = false })) when (rw early at way)
]

-- ---- a search begins

pub flooding_begins : {w : Network} {l : LabelTable} {k : ℕ} (x y : Queue Met) → IsNet w → IsSettledBelow w l k → length l.list ≡ l.nodes * (l.horizon + 1)
    → w.site.shape.nodes * (w.site.shape.horizon + 1) ≤ x.room → y ≡ record { list = []; room = x.room } → IsFlooding w l k y
flooding_begins {w} {l} {k} x y net settled full room same = subst (λ (p : Queue Met). IsFlooding w l k p) (sym same) (record {
  net = net;
  within = settled.within;
  labels = settled.labels;
  full = full;
  moment = settled.moment;
  room = omega (arith, open_few l k, full, room, size);
  listed = λ n t i. ne_eqb _ _ (other n t i);
  met = tt;
})
  where
    size : l.nodes * (l.horizon + 1) ≡ w.site.shape.nodes * (w.site.shape.horizon + 1)
    size = rw (settled.labels.nodes, settled.labels.horizon)

    other : (n t : ℕ) → IsOpenPair w.site n t → label_at l n t ≢ k
    other n t i e = grind (arith, sizes)

-- ---- a pair is met

-- a pair that may be met by a step with room
pub record IsNew (w : Network) (l : LabelTable) (k : ℕ) (p : Queue Met) (m : Met) : Type 0 where
  pub inside : IsOpenPair w.site m.spot.node m.spot.moment
  pub place : IsPlace w.site m.step.place
  pub start : start_of w.site m.step ≡ Pair m.spot.node m.spot.moment
  pub stop : IsAmong k (spots p.list) (stop_of w.site m.step)
  pub above : k < label_at l m.spot.node m.spot.moment

-- the labels and the queue with one more pair
abbrev pub labelled_too : LabelTable → ℕ → Met → LabelTable
labelled_too l k m = with_label l m.spot.node m.spot.moment k

abbrev pub met_too : Queue Met → Met → Queue Met
met_too p m = record { list = m ∷ p.list; room = p.room }

one_less : {w : Network} {l : LabelTable} {k : ℕ} {p : Queue Met} {m : Met} → IsFlooding w l k p → IsNew w l k p m → open_count (labelled_too l k m) k + 1 ≡ open_count l k
one_less {l} {k} {m} h e = grind (arith, open_labelled)

pub met_room : {w : Network} {l : LabelTable} {k : ℕ} {p : Queue Met} {m : Met} → IsFlooding w l k p → IsNew w l k p m → length p.list < p.room
met_room h e = omega (arith, one_less h e, h.room)

noted_here : {w : Network} {l : LabelTable} {k : ℕ} {p : Queue Met} {m : Met} → IsFlooding w l k p → IsNew w l k p m → 0 < residual_room w m.step
    → IsFlooding w (labelled_too l k m) k (met_too p m)
noted_here {w} {l} {k} {p} {m} h e room = record {
  net = h.net;
  within = h.within;
  labels = record { nodes = h.labels.nodes; horizon = h.labels.horizon };
  full = length-set l.list (label_place l m.spot.node m.spot.moment) k ∙ h.full;
  moment = h.moment;
  room = omega (arith, one_less h e, h.room);
  listed = λ n t i. by n t i (eqb m.spot.node n && eqb m.spot.moment t)
      (label_set l m.spot.node m.spot.moment n t k h.full (omega (arith, e.inside.node, h.labels.nodes)) (omega (arith, e.inside.moment, h.labels.horizon))
      (omega (arith, i.node, h.labels.nodes)) (omega (arith, i.moment, h.labels.horizon)));
  met = (record { inside = e.inside; place = e.place; room = room; start = e.start; stop = e.stop; fresh = fresh }, h.met);
}
  where
    by : (n t : ℕ) → IsOpenPair w.site n t → (b : Bool) → label_at (labelled_too l k m) n t ≡ cond b k (label_at l n t)
        → eqb (label_at (labelled_too l k m) n t) k ≡ (b || has (spots p.list) n t)
    by n t i true q = eq-eqb _ _ q
    by n t i false q = ap (λ z. eqb z k) q ∙ h.listed n t i

    fresh : has (spots p.list) m.spot.node m.spot.moment ≡ false
    fresh = sym (h.listed m.spot.node m.spot.moment e.inside) ∙ ne_eqb _ _ (omega (arith, e.above))

pub flooding_noted : {w : Network} {l : LabelTable} (v : LabelTable) {k : ℕ} {p : Queue Met} (q : Queue Met) {m : Met} → IsFlooding w l k p → IsNew w l k p m → 0 < residual_room w m.step
    → v ≡ labelled_too l k m → q ≡ met_too p m → IsFlooding w v k q
flooding_noted {w} {l} v {k} q {m} h e room a b =
    subst (λ (z : LabelTable). IsFlooding w z k q) (sym a) (subst (λ (z : Queue Met). IsFlooding w (labelled_too l k m) k z) (sym b) (noted_here h e room))

grown_here : (k : ℕ) (l : LabelTable) (p : Queue Met) (m : Met) → k < label_at l m.spot.node m.spot.moment → label_place l m.spot.node m.spot.moment < length l.list
    → IsGrown k l (labelled_too l k m) p (met_too p m)
grown_here k l p m above within = record {
  nodes = refl;
  horizon = refl;
  labels = λ n t. elim (cases_eq (label_place l n t) (label_place l m.spot.node m.spot.moment)) [
    | inl same ↦ inr (subst (λ i. k < get_or l.list i 0) (sym same) above, subst (λ i. get_or (labelled_too l k m).list i 0 ≡ k) (sym same) (get_or-set_same l.list _ k 0 within))
    | inr other ↦ inl (get_or-set_other l.list (label_place l m.spot.node m.spot.moment) (label_place l n t) k 0 other)
  ];
  room = refl;
  more = omega arith;
  below = ap (λ i. drop i (m ∷ p.list)) (let one : length (m ∷ p.list) - length p.list ≡ 1 = omega arith in one);
}

pub grown_noted : {w : Network} {l : LabelTable} (v : LabelTable) {k : ℕ} {p : Queue Met} (q : Queue Met) {m : Met} → IsFlooding w l k p → IsNew w l k p m → v ≡ labelled_too l k m → q ≡ met_too p m
    → IsGrown k l v p q
grown_noted {l} v {k} {p} q {m} h e a b =
    let within = label_within l m.spot.node m.spot.moment h.full (omega (arith, e.inside.node, h.labels.nodes)) (omega (arith, e.inside.moment, h.labels.horizon)) in
    subst (λ (z : LabelTable). IsGrown k l z p q) (sym a) (subst (λ (z : Queue Met). IsGrown k l (labelled_too l k m) p z) (sym b) (grown_here k l p m e.above within))

pub done_noted : {w : Network} {l : LabelTable} (v : LabelTable) {k : ℕ} {p : Queue Met} {m : Met} → IsFlooding w l k p → IsNew w l k p m → v ≡ labelled_too l k m → IsDone w v k m.step
done_noted {l} v {k} {m} h e a room = grind (arith, label_within, get_or-set_same, le-leb)

pub has_noted : (p q : Queue Met) (m : Met) → q ≡ met_too p m → has (spots q.list) m.spot.node m.spot.moment ≡ true
has_noted p q m same = grind (arith, same, or_left, and_from, eq-eqb)

-- ---- arcs

-- an arc leads from a pair that people can be at
pub arc_inside : {s : Site} (a t : ℕ) → IsSite s → a < arc_count s → t ≤ s.shape.horizon → IsOpenPair s (from_at s.shape a) t
arc_inside a t h i j = record { node = (h.shape.ends_in a no_ends i).0; moment = j; no_exit = h.from_no_exit a i }

-- ---- all that was met

met_each : (ms : List Met) (i : ℕ) (d : Met) → i < length ms → has (spots ms) (get_or ms i d).spot.node (get_or ms i d).spot.moment ≡ true
met_each [] i d q = absurd (omega (arith, q))
met_each (m ∷ ms) zero d q = or_left _ _ (and_from _ _ (eq-eqb m.spot.node m.spot.node refl) (eq-eqb m.spot.moment m.spot.moment refl))
met_each (m ∷ ms) (suc i) d q = or_right _ _ (met_each ms i d (omega (arith, q)))

open_each : (w : Network) (k : ℕ) (ms : List Met) (i : ℕ) (d : Met) → AreMet w k ms → i < length ms → IsOpenPair w.site (get_or ms i d).spot.node (get_or ms i d).spot.moment
open_each w k [] i d met q = absurd (omega (arith, q))
open_each w k (m ∷ ms) zero d met q = met.0.inside
open_each w k (m ∷ ms) (suc i) d met q = open_each w k ms i d met.1 (omega (arith, q))

-- a pair that was met as the one after so many others
pub has_each : (ms : List Met) {i : ℕ} {m : Met} → m ≡ get_or ms (length ms - i - 1) m → i < length ms → has (spots ms) m.spot.node m.spot.moment ≡ true
has_each ms {i} {m} is q = grind (arith, met_each)

pub inside_each : (w : Network) (k : ℕ) (ms : List Met) {i : ℕ} {m : Met} → AreMet w k ms → m ≡ get_or ms (length ms - i - 1) m → i < length ms
    → IsOpenPair w.site m.spot.node m.spot.moment
inside_each w k ms {i} {m} met is q =
    subst (λ (z : Met). IsOpenPair w.site z.spot.node z.spot.moment) (sym is) (open_each w k ms (length ms - i - 1) m met (omega (arith, q)))

pub expanded_more : (w : Network) {k : ℕ} (done : ℕ) {l m : LabelTable} {x y : Queue Met} (blank : Met) → IsGrown k l m x y → done < length x.list → AreExpanded w l k done x.list
    → IsExpanded w m k (get_or x.list (length x.list - done - 1) blank).spot.node (get_or x.list (length x.list - done - 1) blank).spot.moment
    → AreExpanded w m k (done + 1) y.list
expanded_more w {k} done {m} {x} {y} blank g q old here =
    subst (λ (z : List Met). All (λ r. IsExpanded w m k r.spot.node r.spot.moment) z) (sym same)
    (all_cons (λ (r : Met). IsExpanded w m k r.spot.node r.spot.moment) _ _ last (λ j d a z place stop. done_later w z g (old j d a z place stop)))
  where
    left : ℕ
    left = length x.list - done

    last : IsExpanded w m k (get_or x.list (left - 1) blank).spot.node (get_or x.list (left - 1) blank).spot.moment
    last = here

    lt : left - 1 < length x.list
    lt = omega (arith, q)

    next : (left - 1) + 1 ≡ left
    next = omega (arith, q)

    first : length x.list - (done + 1) ≡ left - 1
    first = omega arith

    same : drop (length y.list - (done + 1)) y.list ≡ get_or x.list (left - 1) blank ∷ drop left x.list
    same = below_grown (done + 1) g (omega (arith, q)) ∙ ap (λ i. drop i x.list) first ∙ drop-cons x.list (left - 1) blank lt
        ∙ ap (λ (i : ℕ). get_or x.list (left - 1) blank ∷ drop i x.list) (sym (add-one (left - 1)) ∙ next)
