-- Once everybody is out by a moment, the pairs before it are closed.
use Rattle.std.proofs.Common.{◌≡◌, ℕ, ◌+◌, ◌<◌, ◌≤◌, Bool, true, false, cond, ◌&&◌, eqb, leb, ap, sym, subst, ◌∙◌, ◌⊎◌, refl, arith, inl, inr}
use Rattle.std.proofs.lemmas.Bool.{cases_Bool, cases_lt, and_parts, and_from, eq-eqb, eqb-true, le-leb, lt-leb}
use Rattle.std.proofs.lemmas.List.{length-set}
use Rattle.evac_law.specs.LabelTable.{LabelTable, label_at, label_place, unset, with_label}
use Rattle.time_expansion.specs.Expansion.{from_at}
use Rattle.time_expansion.proofs.Cells.{sizes}
use Rattle.residual_net.specs.Change.{rank}
use Rattle.residual_net.specs.Closed.{IsClosed, reached}
use Rattle.residual_net.specs.Labelled.{IsClosedBelow}
use Rattle.residual_net.specs.Network.{Network, IsNet, flow_at, flow_into, residual_room}
use Rattle.residual_net.specs.NetLaws.{labelled}
use Rattle.residual_net.specs.Site.{IsOpenEnd, IsOpenPair, IsPlace, at, head_of, start_of, stop_of, tail_of}
use Rattle.residual_net.specs.declared.end.End.TheVariants.{Pair, Door}
use Rattle.residual_net.specs.declared.place.Place.{Place}
use Rattle.residual_net.specs.declared.place.Place.TheVariants.{Arc, Hold, Supply}
use Rattle.residual_net.proofs.Last.{arrival_moves}
use Rattle.residual_net.proofs.Quiet.{drained, onward, part_into, rank_up}
use Rattle.residual_net.proofs.Walks.{start_open}
use Rattle.terminal_augment.specs.AllOut.{AreAllOut, AreLowered, IsWholeTable}
use Rattle.terminal_augment.specs.Floods.{IsFloodOver}
use Rattle.terminal_augment.specs.Settled.{IsSettledBelow}
use Rattle.terminal_augment.proofs.ClosedLemmas.{closed_same, closed_with}
use Rattle.terminal_augment.proofs.LabelLemmas.{label_set}

-- ---- labels that are lowered

-- the pairs of a node before a moment
abbrev pub in_node : ℕ → ℕ → ℕ → ℕ → Type 0
in_node node past n t = (n ≡ node) × (t < past)

-- the pairs of the first nodes before a moment
abbrev pub in_first : ℕ → ℕ → ℕ → ℕ → Type 0
in_first count past n t = (n < count) × (t < past)

pub none_lowered : (l : LabelTable) (k : ℕ) (kind : ℕ → ℕ → Type 0) → IsWholeTable l → ((n t : ℕ) → kind n t → ⊥) → AreLowered k kind l l
none_lowered l k kind full none = record { nodes = refl; horizon = refl; full = full; low = λ n t h. absurd (none n t h); others = λ n t a b. inl refl }

-- a label that isn't above k stays
pub lowered_kept : {k node moment : ℕ} {l m : LabelTable} → AreLowered k (in_node node moment) l m → label_at m node moment ≤ k → AreLowered k (in_node node (moment + 1)) l m
lowered_kept {k} {node} {moment} {l} {m} old here = record {
  nodes = old.nodes;
  horizon = old.horizon;
  full = old.full;
  low = λ n t h. elim (cases_lt t moment) [
    | inl before ↦ old.low n t (h.0, before)
    | inr after ↦
        let same : t ≡ moment = omega (arith, after, h.1) in
        subst (λ i. label_at m i t ≤ k) (sym h.0) (subst (λ u. label_at m node u ≤ k) (sym same) here)
  ];
  others = old.others;
}

-- and one that is becomes k
pub lowered_set : {k node moment : ℕ} {l m : LabelTable} (v : LabelTable) → AreLowered k (in_node node moment) l m → node < l.nodes → moment < k → k ≤ l.horizon
    → k < label_at m node moment → v ≡ with_label m node moment k → AreLowered k (in_node node (moment + 1)) l v
lowered_set {k} {node} {moment} {l} {m} v old inside before few above same = subst (λ (z : LabelTable). AreLowered k (in_node node (moment + 1)) l z) (sym same) (record {
  nodes = old.nodes;
  horizon = old.horizon;
  full = length-set m.list (label_place m node moment) k ∙ old.full;
  low = λ n t h. low n t h (cases_Bool (eqb node n && eqb moment t)) (is n t (omega (arith, inside, h.0)) (omega (arith, h.1, before, few)));
  others = λ n t a b. others n t a b (cases_Bool (eqb node n && eqb moment t)) (is n t a b);
})
  where
    is : (n t : ℕ) → n < l.nodes → t ≤ l.horizon → label_at (with_label m node moment k) n t ≡ cond (eqb node n && eqb moment t) k (label_at m n t)
    is n t a b = label_set m node moment n t k old.full (omega (arith, inside, old.nodes)) (omega (arith, before, few, old.horizon)) (omega (arith, a, old.nodes)) (omega (arith, b, old.horizon))

    was : k < label_at l node moment
    was = elim (old.others node moment inside (omega (arith, before, few))) [
      | inl e ↦ omega (arith, e, above)
      | inr e ↦ absurd (omega (arith, e.2, above))
    ]

    low : (n t : ℕ) → in_node node (moment + 1) n t → ((eqb node n && eqb moment t) ≡ true) ⊎ ((eqb node n && eqb moment t) ≡ false)
        → label_at (with_label m node moment k) n t ≡ cond (eqb node n && eqb moment t) k (label_at m n t) → label_at (with_label m node moment k) n t ≤ k
    low n t h (inl e) q = omega (arith, q, ap (λ b. cond b k (label_at m n t)) e)
    low n t h (inr e) q = elim (cases_lt t moment) [
      | inl less ↦ omega (arith, q, ap (λ b. cond b k (label_at m n t)) e, old.low n t (h.0, less))
      | inr more ↦ absurd (cc (e, and_from _ _ (eq-eqb node n (sym h.0)) (eq-eqb moment t (omega (arith, more, h.1)))))
    ]

    others : (n t : ℕ) → n < l.nodes → t ≤ l.horizon → ((eqb node n && eqb moment t) ≡ true) ⊎ ((eqb node n && eqb moment t) ≡ false)
        → label_at (with_label m node moment k) n t ≡ cond (eqb node n && eqb moment t) k (label_at m n t)
        → (label_at (with_label m node moment k) n t ≡ label_at l n t) ⊎ ((t < k) × (k < label_at l n t) × (label_at (with_label m node moment k) n t ≡ k))
    others n t a b (inl e) q =
        let both = and_parts (eqb node n) (eqb moment t) e in
        let node_is : node ≡ n = eqb-true node n both.0 in
        let moment_is : moment ≡ t = eqb-true moment t both.1 in
        let above_l : k < label_at l n t = subst (λ i. k < label_at l i t) node_is (subst (λ u. k < label_at l node u) moment_is was) in
        inr (omega (arith, before, moment_is), above_l, q ∙ ap (λ b. cond b k (label_at m n t)) e)
    others n t a b (inr e) q =
        let kept : label_at (with_label m node moment k) n t ≡ label_at m n t = q ∙ ap (λ b. cond b k (label_at m n t)) e in
        elim (old.others n t a b) [
          | inl z ↦ inl (kept ∙ z)
          | inr z ↦ inr (z.0, z.1, kept ∙ z.2)
        ]

-- node after node
pub lowered_next : {k node : ℕ} {l m v : LabelTable} → AreLowered k (in_first node k) l m → node < l.nodes → k ≤ l.horizon → AreLowered k (in_node node k) m v
    → AreLowered k (in_first (node + 1) k) l v
lowered_next {k} {node} {l} {m} {v} old inside few new = record {
  nodes = new.nodes ∙ old.nodes;
  horizon = new.horizon ∙ old.horizon;
  full = new.full;
  low = λ n t h. elim (cases_lt n node) [
    | inl before ↦ elim (new.others n t (omega (arith, before, inside, old.nodes)) (omega (arith, h.1, few, old.horizon))) [
      | inl z ↦ omega (arith, z, old.low n t (before, h.1))
      | inr z ↦ omega (arith, z.2)
    ]
    | inr after ↦ new.low n t (omega (arith, after, h.0), h.1)
  ];
  others = λ n t a b. both n t (old.others n t a b) (new.others n t (omega (arith, a, old.nodes)) (omega (arith, b, old.horizon)));
}
  where
    both : (n t : ℕ) → (label_at m n t ≡ label_at l n t) ⊎ ((t < k) × (k < label_at l n t) × (label_at m n t ≡ k))
        → (label_at v n t ≡ label_at m n t) ⊎ ((t < k) × (k < label_at m n t) × (label_at v n t ≡ k))
        → (label_at v n t ≡ label_at l n t) ⊎ ((t < k) × (k < label_at l n t) × (label_at v n t ≡ k))
    both n t (inl a) (inl b) = inl (b ∙ a)
    both n t (inl a) (inr b) = inr (b.0, omega (arith, a, b.1), b.2)
    both n t (inr a) (inl b) = inr (a.0, a.1, b ∙ a.2)
    both n t (inr a) (inr b) = absurd (omega (arith, a.2, b.1))

-- ---- where everybody is out by a moment

module _ (w : Network) (k : ℕ) (net : IsNet w) (out : AreAllOut w k) where
  -- nobody arrives later
  quiet : (j : ℕ) → k < j → flow_into w (at (Door j)) ≡ 0
  quiet j late = arrival_moves w net j (omega (arith, late, out.last))

  -- whoever leaves a pair from that moment on comes to another such pair
  stays : (p : Place) → IsPlace w.site p → 0 < flow_at w p → (n t : ℕ) → tail_of w.site p ≡ Pair n t → k ≤ t
      → (m : ℕ) × (u : ℕ) × (head_of w.site p ≡ Pair m u) × (k ≤ u)
  stays p i some n t e later = elim (onward w net p i some) [
    | inl d ↦ absurd (omega (arith, part_into w p i (Door d.0) d.1, some, quiet d.0 (omega (arith, later, rank_up w.site net.site p i, ap rank e, ap rank d.1))))
    | inr d ↦ (d.0, d.1, d.2, omega (arith, later, rank_up w.site net.site p i, ap rank e, ap rank d.2))
  ]

  -- so flow leads to an arrival by then, or to a pair before
  flow_leads : (p : Place) → IsPlace w.site p → 0 < flow_at w p
      → ((j : ℕ) × (head_of w.site p ≡ Door j) × (j ≤ k)) ⊎ ((m : ℕ) × (u : ℕ) × (head_of w.site p ≡ Pair m u) × (u < k))
  flow_leads p i some = elim (onward w net p i some) [
    | inl d ↦ elim (cases_lt k d.0) [
      | inl late ↦ absurd (omega (arith, part_into w p i (Door d.0) d.1, some, quiet d.0 late))
      | inr early ↦ inl (d.0, d.1, early)
    ]
    | inr d ↦ elim (cases_lt d.1 k) [
      | inl before ↦ inr (d.0, d.1, d.2, before)
      | inr later ↦ absurd (omega (arith, part_into w p i (Pair d.0 d.1) d.2, some, drained w net (λ n t. k ≤ t) stays d.0 d.1 later))
    ]
  ]

  -- a place with room that leads to an arrival by then or to a pair before leads from a pair before
  room_leads : (p : Place) → IsPlace w.site p → 0 < residual_room w (record { place = p; back = false }) → rank (head_of w.site p) ≤ k + 1
      → (m : ℕ) × (u : ℕ) × (tail_of w.site p ≡ Pair m u) × (u < k)
  room_leads (Arc a t) i some low = (from_at w.site.shape a, t, refl, omega (arith, rank_up w.site net.site (Arc a t) i, low))
  room_leads (Hold n t) i some low = (n, t, refl, omega (arith, rank_up w.site net.site (Hold n t) i, low))
  room_leads (Supply n t) i some low = absurd (omega (arith, some, out.sent n t i))

  module _ (m : LabelTable) (low : (n t : ℕ) → n < w.site.shape.nodes → t < k → label_at m n t ≤ k) where
    -- a step with room into an arrival by then or a pair before starts at one
    starts_inside : (p : Place) (b : Bool) → IsPlace w.site p → 0 < residual_room w (record { place = p; back = b })
        → rank (stop_of w.site (record { place = p; back = b })) ≤ k + 1 → reached (labelled m k) k (start_of w.site (record { place = p; back = b })) ≡ true
    starts_inside p false i some end =
        let from = room_leads p i some end in
        let inside = subst (IsOpenEnd w.site) from.2 (start_open w (record { place = p; back = false }) net i some) in
        ap (reached (labelled m k) k) from.2 ∙ le-leb _ _ (low from.0 from.1 inside.node from.3)
    starts_inside p true i some end = elim (flow_leads p i some) [
      | inl d ↦ ap (reached (labelled m k) k) d.1 ∙ le-leb _ _ d.2
      | inr d ↦
          let inside = subst (IsOpenEnd w.site) d.2 (start_open w (record { place = p; back = true }) net i some) in
          ap (reached (labelled m k) k) d.2 ∙ le-leb _ _ (low d.0 d.1 inside.node d.3)
    ]

    -- so the pairs before it, with those closed earlier, are closed
    out_closed : IsClosedBelow w m k → ((n t : ℕ) → IsOpenPair w.site n t → label_at m n t ≡ k → t < k) → IsClosed w (labelled m k) k
    out_closed closed early =
        closed_with m k net closed
        (λ y place room n t q inside same. starts_inside y.place y.back place room (omega (arith, early n t inside same, ap rank q)))
        (λ y place room q. starts_inside y.place y.back place room (omega (arith, ap rank q)))

-- the labels of the pairs before that moment are right
pub over_out : {w : Network} {l m : LabelTable} {k : ℕ} → IsNet w → AreAllOut w k → IsSettledBelow w l k → AreLowered k (in_first l.nodes k) l m → IsFloodOver w l m k
over_out {w} {l} {m} {k} net out settled g = record {
  labels = record {
    nodes = g.nodes;
    horizon = g.horizon;
    kept = λ n t a b less. elim (g.others n t a b) [
      | inl same ↦ same
      | inr new ↦ absurd (omega (arith, less, new.1))
    ];
    others = λ n t a b more. elim (g.others n t a b) [
      | inl same ↦ inr (same ∙ settled.unset n t a b more)
      | inr new ↦ inl new.2
    ];
  };
  closed = λ i q. elim (cases_lt i k) [
    | inl before ↦ earlier i before
    | inr after ↦
        let same : k ≡ i = omega (arith, after, q) in
        subst (λ z. IsClosed w (labelled m z) z) same (out_closed w k net out m low earlier early)
  ];
}
  where
    node_in : (n : ℕ) → n < w.site.shape.nodes → n < l.nodes
    node_in n a = omega (arith, a, settled.labels.nodes)

    moment_in : (t : ℕ) → t ≤ w.site.shape.horizon → t ≤ l.horizon
    moment_in t b = omega (arith, b, settled.labels.horizon)

    low : (n t : ℕ) → n < w.site.shape.nodes → t < k → label_at m n t ≤ k
    low n t a b = g.low n t (node_in n a, b)

    earlier : IsClosedBelow w m k
    earlier i before = closed_same w (labelled l i) (labelled m i) i net (λ n t a. elim (g.others n t (node_in n a.node) (moment_in t a.moment)) [
      | inl same ↦ ap (λ z. leb z i) same
      | inr new ↦ lt-leb _ _ (omega (arith, new.2, before)) ∙ sym (lt-leb _ _ (omega (arith, new.1, before)))
    ]) (settled.closed i before)

    small : k < unset
    small = grind (arith, sizes)

    early : (n t : ℕ) → IsOpenPair w.site n t → label_at m n t ≡ k → t < k
    early n t a same = elim (g.others n t (node_in n a.node) (moment_in t a.moment)) [
      | inl kept ↦ absurd (omega (arith, small, same, kept, settled.unset n t (node_in n a.node) (moment_in t a.moment) (omega (arith, same, kept))))
      | inr new ↦ new.0
    ]
