-- What a flood that came to nobody shows: the pairs labelled at most its moment are closed.
use Rattle.std.proofs.Common.{◌≡◌, ℕ, ◌+◌, ◌-◌, ◌*◌, ◌<◌, ◌≤◌, Bool, true, false, leb, length, drop, ap, sym, subst, ◌∙◌, ◌⊎◌, refl, arith, inl, inr}
use Rattle.std.specs.List.{All}
use Rattle.std.proofs.lemmas.Bool.{cases_lt, eq-eqb, le-leb, le-ltb, leb-true, lt-leb, lt-ltb}
use Rattle.evac_law.proofs.LabelLemmas.{unset_at}
use Rattle.evac_law.specs.LabelTable.{LabelTable, below_or_unset, label_at, unset, unset_from}
use Rattle.time_expansion.specs.Expansion.{no_ends}
use Rattle.residual_net.specs.Closed.{IsClosed, reached}
use Rattle.residual_net.specs.Labelled.{IsClosedBelow}
use Rattle.residual_net.specs.Network.{Network, IsNet, residual_room}
use Rattle.residual_net.specs.NetLaws.{labelled}
use Rattle.residual_net.specs.Site.{IsOpenEnd, IsOpenPair, IsPlace, start_of, stop_of}
use Rattle.residual_net.specs.declared.end.End.{End}
use Rattle.residual_net.specs.declared.end.End.TheVariants.{Source, Pair, Door}
use Rattle.residual_net.specs.declared.place.PathStep.{PathStep}
use Rattle.residual_net.specs.declared.place.Place.{Place}
use Rattle.residual_net.specs.declared.place.Place.TheVariants.{Arc, Hold, Supply}
use Rattle.residual_net.proofs.Walks.{start_open, stop_open}
use Rattle.terminal_augment.specs.declared.spot.Met.{Met}
use Rattle.terminal_augment.specs.Floods.{HaveSameLabels, IsSeededBelow, AreExpanded, IsExpanded, IsFlooding, IsGrown, IsFloodOver}
use Rattle.terminal_augment.specs.Queues.{Queue}
use Rattle.terminal_augment.specs.Settled.{IsLabelled, IsSettledBelow, IsUnsetFrom}
use Rattle.terminal_augment.proofs.SpotLemmas.{all_has}

-- sets that agree on the network's pairs are closed together
pub closed_same : (w : Network) (x y : ℕ → ℕ → Bool) (k : ℕ) → IsNet w → ((n t : ℕ) → IsOpenPair w.site n t → y n t ≡ x n t) → IsClosed w x k → IsClosed w y k
closed_same w x y k net same closed r place room inside =
    at_end (start_of w.site r) refl (closed r place room (from_end (stop_of w.site r) refl inside))
  where
    at_end : (e : End) → start_of w.site r ≡ e → reached x k e ≡ true → reached y k e ≡ true
    at_end (Pair n t) q h = same n t (subst (IsOpenEnd w.site) q (start_open w r net place room)) ∙ h
    at_end _ q h = h

    from_end : (e : End) → stop_of w.site r ≡ e → reached y k e ≡ true → reached x k e ≡ true
    from_end (Pair n t) q h = sym (same n t (subst (IsOpenEnd w.site) q (stop_open w r net place room))) ∙ h
    from_end _ q h = h

-- the pairs labelled at most a moment before k are the same after a flood
before_same : {k : ℕ} (i : ℕ) {l m : LabelTable} {x y : Queue Met} (n t : ℕ) → IsGrown k l m x y → i < k → labelled m i n t ≡ labelled l i n t
before_same i n t g before = elim (g.labels n t) [
  | inl same ↦ ap (λ z. leb z i) same
  | inr new ↦ lt-leb _ _ (omega (arith, new.1, before)) ∙ sym (lt-leb _ _ (omega (arith, new.0, before)))
]

pub labelled_after : {k : ℕ} {l m : LabelTable} {x y : Queue Met} → IsGrown k l m x y → IsUnsetFrom l k → IsLabelled l m k
labelled_after g free = record {
  nodes = g.nodes;
  horizon = g.horizon;
  kept = λ n t a b less. elim (g.labels n t) [
    | inl same ↦ same
    | inr new ↦ absurd (omega (arith, less, new.0))
  ];
  others = λ n t a b more. elim (g.labels n t) [
    | inl same ↦ inr (same ∙ free n t a b more)
    | inr new ↦ inl new.1
  ];
}

-- what is reached before k is so at k
earlier_reached : (l : LabelTable) (k i : ℕ) (e : End) → i < k → reached (labelled l i) i e ≡ true → reached (labelled l k) k e ≡ true
earlier_reached l k i Source q h = absurd (cc)
earlier_reached l k i (Pair n t) q h = le-leb _ _ (omega (arith, leb-true _ _ h, q))
earlier_reached l k i (Door j) q h = le-leb _ _ (omega (arith, leb-true _ _ h, q))

-- the pairs labelled at most k are closed where those labelled less are, and each step with room into a pair labelled k or an arrival at k starts within
pub closed_with : {w : Network} (m : LabelTable) (k : ℕ) → IsNet w → IsClosedBelow w m k
    → ((y : PathStep) → IsPlace w.site y.place → 0 < residual_room w y → (n t : ℕ) → stop_of w.site y ≡ Pair n t → IsOpenPair w.site n t → label_at m n t ≡ k
    → reached (labelled m k) k (start_of w.site y) ≡ true)
    → ((y : PathStep) → IsPlace w.site y.place → 0 < residual_room w y → stop_of w.site y ≡ Door k → reached (labelled m k) k (start_of w.site y) ≡ true)
    → IsClosed w (labelled m k) k
closed_with {w} m k net closed at_pair at_door y place room inside = by (stop_of w.site y) refl inside
  where
    old : (i : ℕ) → i < k → reached (labelled m i) i (stop_of w.site y) ≡ true → reached (labelled m k) k (start_of w.site y) ≡ true
    old i q h = earlier_reached m k i (start_of w.site y) q (closed i q y place room h)

    by : (e : End) → stop_of w.site y ≡ e → reached (labelled m k) k e ≡ true → reached (labelled m k) k (start_of w.site y) ≡ true
    by Source q h = absurd (cc)
    by (Pair n t) q h = elim (cases_lt (label_at m n t) k) [
      | inl before ↦ old (label_at m n t) before (ap (reached (labelled m (label_at m n t)) (label_at m n t)) q ∙ le-leb _ _ (omega arith))
      | inr after ↦ at_pair y place room n t q (subst (IsOpenEnd w.site) q (stop_open w y net place room)) (omega (arith, after, leb-true _ _ h))
    ]
    by (Door j) q h = elim (cases_lt j k) [
      | inl before ↦ old j before (ap (reached (labelled m j) j) q ∙ le-leb _ _ (omega arith))
      | inr after ↦ at_door y place room (q ∙ ap (λ z. Door z) (let same : j ≡ k = omega (arith, after, leb-true _ _ h) in same))
    ]

-- where each step is done into the pairs labelled k and into the arrivals at k, the pairs labelled at most k are closed
now_closed : {w : Network} (m : LabelTable) (k : ℕ) → IsNet w → IsClosedBelow w m k → ((n t : ℕ) → IsOpenPair w.site n t → label_at m n t ≡ k → IsExpanded w m k n t)
    → IsSeededBelow w m k w.site.shape.nodes → IsClosed w (labelled m k) k
now_closed {w} m k net closed expanded seeded =
    closed_with m k net closed (λ y place room n t q inside same. expanded n t inside same y place q room) (λ y place room q. at_door y.place y.back place room q)
  where
    at_door : (p : Place) (b : Bool) → IsPlace w.site p → 0 < residual_room w (record { place = p; back = b }) → stop_of w.site (record { place = p; back = b }) ≡ Door k
        → reached (labelled m k) k (start_of w.site (record { place = p; back = b })) ≡ true
    at_door (Arc a t) false at some q = seeded a t (net.site.shape.ends_in a no_ends at.0).1 at q some
    at_door (Arc a t) true at some q = absurd (cc)
    at_door (Hold n t) true at some q = absurd (cc)
    at_door (Hold n t) false at some q = absurd (cc)
    at_door (Supply n t) true at some q = absurd (cc)
    at_door (Supply n t) false at some q = absurd (cc)

-- a flood that came to nobody is over
pub over_after : {w : Network} {l m : LabelTable} {k : ℕ} {x y : Queue Met} → IsSettledBelow w l k → IsGrown k l m x y → IsFlooding w m k y
    → AreExpanded w m k (length y.list) y.list → IsSeededBelow w m k w.site.shape.nodes → IsFloodOver w l m k
over_after {w} {l} {m} {k} {y} settled g flooding all seeded = record {
  labels = labelled_after g settled.unset;
  closed = λ i q. elim (cases_lt i k) [
    | inl before ↦ earlier i before
    | inr after ↦
        let same : k ≡ i = omega (arith, after, q) in
        subst (λ z. IsClosed w (labelled m z) z) same (now_closed m k flooding.net earlier expanded seeded)
  ];
}
  where
    earlier : IsClosedBelow w m k
    earlier i before = closed_same w (labelled l i) (labelled m i) i flooding.net (λ n t a. before_same i n t g before) (settled.closed i before)

    whole : All (λ r. IsExpanded w m k r.spot.node r.spot.moment) y.list
    whole = subst (λ (i : ℕ). All (λ r. IsExpanded w m k r.spot.node r.spot.moment) (drop i y.list)) (let none : length y.list - length y.list ≡ 0 = omega arith in none) all

    expanded : (n t : ℕ) → IsOpenPair w.site n t → label_at m n t ≡ k → IsExpanded w m k n t
    expanded n t inside same = all_has (λ u v. IsExpanded w m k u v) y.list whole n t (sym (flooding.listed n t inside) ∙ eq-eqb _ _ same)

-- the labels of a flood taken back are those before it
pub alike_after : {k : ℕ} {l m : LabelTable} (v : LabelTable) {x y : Queue Met} → IsGrown k l m x y → IsUnsetFrom l k → length m.list ≡ m.nodes * (m.horizon + 1)
    → v ≡ unset_from m k → HaveSameLabels l v
alike_after {k} {l} {m} v g free full same = record {
  nodes = ap (λ (z : LabelTable). z.nodes) same ∙ g.nodes;
  horizon = ap (λ (z : LabelTable). z.horizon) same ∙ g.horizon;
  labels = λ n t a b.
      ap (λ (z : LabelTable). label_at z n t) same ∙ unset_at m k n t full (omega (arith, a, g.nodes)) (omega (arith, b, g.horizon)) ∙ by n t a b (cases_lt (label_at l n t) k);
}
  where
    below : (z : ℕ) → z < k → below_or_unset k z ≡ z
    below z q = rw (lt-ltb z k q)

    above : (z : ℕ) → k ≤ z → below_or_unset k z ≡ unset
    above z q = rw (le-ltb z k q)

    by : (n t : ℕ) → n < l.nodes → t ≤ l.horizon → (label_at l n t < k) ⊎ (k ≤ label_at l n t) → below_or_unset k (label_at m n t) ≡ label_at l n t
    by n t a b (inl less) = elim (g.labels n t) [
      | inl kept ↦ below _ (omega (arith, less, kept)) ∙ kept
      | inr new ↦ absurd (omega (arith, less, new.0))
    ]
    by n t a b (inr more) = elim (g.labels n t) [
      | inl kept ↦ above _ (omega (arith, more, kept)) ∙ sym (free n t a b more)
      | inr new ↦ above _ (omega (arith, new.1)) ∙ sym (free n t a b more)
    ]

-- labels that are alike serve a net alike
pub settled_alike : {w : Network} {l m : LabelTable} {k : ℕ} → IsNet w → HaveSameLabels l m → IsSettledBelow w l k → IsSettledBelow w m k
settled_alike {w} {l} {m} net alike old = record {
  within = old.within;
  labels = record { nodes = alike.nodes ∙ old.labels.nodes; horizon = alike.horizon ∙ old.labels.horizon };
  moment = old.moment;
  closed = λ i q. closed_same w (labelled l i) (labelled m i) i net
      (λ n t a. ap (λ z. leb z i) (alike.labels n t (omega (arith, a.node, old.labels.nodes)) (omega (arith, a.moment, old.labels.horizon)))) (old.closed i q);
  unset = λ n t a b q.
      let same = alike.labels n t (omega (arith, a, alike.nodes)) (omega (arith, b, alike.horizon)) in
      same ∙ old.unset n t (omega (arith, a, alike.nodes)) (omega (arith, b, alike.horizon)) (omega (arith, q, same));
}

pub labelled_alike : {l m v : LabelTable} {k : ℕ} → HaveSameLabels l m → IsLabelled m v k → IsLabelled l v k
labelled_alike alike after = record {
  nodes = after.nodes ∙ alike.nodes;
  horizon = after.horizon ∙ alike.horizon;
  kept = λ n t a b less.
      let same = alike.labels n t a b in
      after.kept n t (omega (arith, a, alike.nodes)) (omega (arith, b, alike.horizon)) (omega (arith, less, same)) ∙ same;
  others = λ n t a b more. after.others n t (omega (arith, a, alike.nodes)) (omega (arith, b, alike.horizon)) (omega (arith, more, alike.labels n t a b));
}

pub alike_then : {l m v : LabelTable} → HaveSameLabels l m → HaveSameLabels m v → HaveSameLabels l v
alike_then a b = record {
  nodes = b.nodes ∙ a.nodes;
  horizon = b.horizon ∙ a.horizon;
  labels = λ n t p q. b.labels n t (omega (arith, p, a.nodes)) (omega (arith, q, a.horizon)) ∙ a.labels n t p q;
}
