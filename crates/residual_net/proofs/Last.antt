-- The last arrival of a net's moves is the last moment at which somebody arrives at an exit.
use Rattle.std.proofs.Common.{◌≡◌, ℕ, zero, suc, ◌+◌, ◌<◌, ◌≤◌, cond, ◌&&◌, eqb, List, [], ◌∷◌, length, get_or, refl, ap, ap₂, sym, ◌∙◌, arith, inl, inr, ◌⊎◌}
use Rattle.std.specs.List.{All}
use Rattle.std.proofs.lemmas.List.Sums.{sum_by-cons}
use Rattle.std.proofs.lemmas.List.Elements.{All-head, All-tail}
use Rattle.std.proofs.lemmas.Bool.{cases_Bool, cases_lt, eqb-true, and_parts}
use Rattle.evac_law.specs.declared.plan.Move.{Move}
use Rattle.evac_law.specs.Plans.{moved}
use Rattle.evac_law.proofs.MoveLemmas.{moved-moves_of, ordered-moves_of}
use Rattle.residual_net.specs.declared.place.Place.{Place}
use Rattle.residual_net.specs.declared.place.Place.TheVariants.{Arc, Hold, Supply}
use Rattle.residual_net.specs.Site.{Site, IsPlace, arc_count, arrival_at, at, head_of, tail_of}
use Rattle.residual_net.specs.declared.end.End.TheVariants.{Pair, Door}
use Rattle.residual_net.specs.Network.{Network, IsNet, IsStored, flow_at, flow_into}
use Rattle.residual_net.specs.Change.{rank}
use Rattle.residual_net.specs.OfModel.{last_move, plan_of}
use Rattle.evac_law.proofs.SumLemmas.{pair_same}
use Rattle.residual_net.proofs.Quiet.{arc_rank, drained, none_into, onward, part_into, rank_up}

-- ---- lists of moves

-- an arc that somebody enters at a moment has a move, which arrives by the last one
moved_by_last : (s : Site) (p : List Move) (a t : ℕ) → 0 < moved p a t → arrival_at s a t ≤ last_move s p
unfolding moved last_move
moved_by_last s [] a t h = absurd (omega (arith, h))
moved_by_last s (v ∷ p) a t h = elim (cases_Bool (eqb v.arc a && eqb v.moment t)) [
  | inl e ↦
      let both = and_parts (eqb v.arc a) (eqb v.moment t) e in
      omega (arith, ap₂ (arrival_at s) (eqb-true v.arc a both.0) (eqb-true v.moment t both.1))
  | inr e ↦
      let counted = sum_by-cons (λ (v : Move). cond (eqb v.arc a && eqb v.moment t) v.people 0) v p in
      let rest : 0 < moved p a t = omega (arith, h, counted, ap (λ b. cond b v.people 0) e) in
      omega (arith, moved_by_last s p a t rest)
]

pub last_by : (s : Site) (p : List Move) (k : ℕ) → All (λ (v : Move). arrival_at s v.arc v.moment ≤ k) p → last_move s p ≤ k
unfolding last_move
last_by s [] k a = omega arith
last_by s (v ∷ p) k a =
    omega (
      arith,
      All-head (λ (v : Move). arrival_at s v.arc v.moment ≤ k) v p a,
      last_by s p k (All-tail (λ (v : Move). arrival_at s v.arc v.moment ≤ k) v p a),
    )

-- a move of a list is part of what enters its arc
move_counted : (p : List Move) (i : ℕ) (d : Move) → i < length p → (get_or p i d).people ≤ moved p (get_or p i d).arc (get_or p i d).moment
unfolding moved
move_counted [] i d l = absurd (omega (arith, l))
move_counted (v ∷ p) zero d l =
    let here : cond (eqb v.arc v.arc && eqb v.moment v.moment) v.people 0 ≡ v.people = ap (λ b. cond b v.people 0) (pair_same v.arc v.arc v.moment v.moment refl refl) in
    omega (arith, here, sum_by-cons (λ (u : Move). cond (eqb u.arc v.arc && eqb u.moment v.moment) u.people 0) v p)
move_counted (v ∷ p) (suc i) d l =
    let rest = move_counted p i d (omega (arith, l)) in
    let u = get_or p i d in
    omega (arith, rest, sum_by-cons (λ (z : Move). cond (eqb z.arc u.arc && eqb z.moment u.moment) z.people 0) v p)

-- ---- nets

module _ (w : Network) (net : IsNet w) (last : ℕ) (quiet : (j : ℕ) → last < j → j ≤ w.site.shape.horizon → flow_into w (at (Door j)) ≡ 0) where
  stays : (p : Place) → IsPlace w.site p → 0 < flow_at w p → (n t : ℕ) → tail_of w.site p ≡ Pair n t → last ≤ t
      → (m : ℕ) × (u : ℕ) × (head_of w.site p ≡ Pair m u) × (last ≤ u)
  stays p i some n t e later = grind (arith, rank_up, onward, part_into)

  -- nobody is on the way to a moment later than the last arrival
  none_late : (p : Place) → IsPlace w.site p → last + 1 < rank (head_of w.site p) → flow_at w p ≡ 0
  none_late p i late = elim (cases_lt 0 (flow_at w p)) [
    | inl some ↦ elim (onward w net p i some) [
      | inl d ↦ omega (arith, part_into w p i (Door d.0) d.1, quiet d.0 (omega (arith, late, ap rank d.1)) d.2)
      | inr d ↦
          let through = drained w net (λ n t. last ≤ t) stays d.0 d.1 (omega (arith, late, ap rank d.2)) in
          omega (arith, part_into w p i (Pair d.0 d.1) d.2, through)
    ]
    | inr none ↦ omega (arith, none)
  ]

  pub moves_by_last : last_move w.site (plan_of w) ≤ last
  moves_by_last = last_by w.site (plan_of w) last (λ i d l. in_time i d l (cases_lt last (arrival_at w.site (get_or (plan_of w) i d).arc (get_or (plan_of w) i d).moment)))
    where
      flow : ℕ → ℕ → ℕ
      flow a t = flow_at w (Arc a t)

      in_time : (i : ℕ) (d : Move) → i < length (plan_of w)
          → (last < arrival_at w.site (get_or (plan_of w) i d).arc (get_or (plan_of w) i d).moment)
          ⊎ (arrival_at w.site (get_or (plan_of w) i d).arc (get_or (plan_of w) i d).moment ≤ last)
          → arrival_at w.site (get_or (plan_of w) i d).arc (get_or (plan_of w) i d).moment ≤ last
      in_time i d l (inl late) =
          let v = get_or (plan_of w) i d in
          let ordered = ordered-moves_of (arc_count w.site) w.site.shape.horizon (λ a t. flow_at w (Arc a t)) in
          let range = ordered.in_range i d l in
          let count = move_counted (plan_of w) i d l in
          let is = moved-moves_of (arc_count w.site) w.site.shape.horizon (λ a t. flow_at w (Arc a t)) v.arc v.moment range.0 range.1 in
          absurd (omega (arith, ordered.somebody i d l, count, is, none_late (Arc v.arc v.moment) range (omega (arith, late, arc_rank w.site v.arc v.moment))))
      in_time i d l (inr early) = early

-- an arrival at a moment belongs to a move that arrives then
pub arrival_moves : (w : Network) → IsNet w → (j : ℕ) → last_move w.site (plan_of w) < j → flow_into w (at (Door j)) ≡ 0
arrival_moves w net j late = none_into w (Door j) none
  where
    none : (p : Place) → IsPlace w.site p → head_of w.site p ≡ Door j → flow_at w p ≡ 0
    none (Arc a t) i e = elim (cases_lt 0 (flow_at w (Arc a t))) [
      | inl some ↦
          let is = moved-moves_of (arc_count w.site) w.site.shape.horizon (λ a t. flow_at w (Arc a t)) a t i.0 i.1 in
          absurd (omega (arith, late, arc_rank w.site a t, ap rank e, moved_by_last w.site (plan_of w) a t (omega (arith, some, is))))
      | inr gone ↦ omega (arith, gone)
    ]
    none (Hold n t) i e = absurd (cc)
    none (Supply n t) i e = absurd (cc)

pub last_is : (w : Network) (arrivals : List ℕ) (last : ℕ) → IsStored w arrivals → (0 < last → (last < length arrivals) × (0 < get_or arrivals last 0))
    → ((j : ℕ) → last < j → j < length arrivals → get_or arrivals j 0 ≡ 0) → last ≡ last_move w.site (plan_of w)
last_is w arrivals last s some later =
    let le = moves_by_last w s.net last (λ j l h. sym (s.totals j h) ∙ later j l (omega (arith, h, s.moments))) in
    omega (arith, le, ge (cases_lt (last_move w.site (plan_of w)) last))
  where
    ge : (last_move w.site (plan_of w) < last) ⊎ (last ≤ last_move w.site (plan_of w)) → last ≤ last_move w.site (plan_of w)
    ge (inl late) =
        let here = some (omega (arith, late)) in
        absurd (omega (arith, here.1, s.totals last (omega (arith, here.0, s.moments)), arrival_moves w s.net last late))
    ge (inr h) = h

-- a place of the list, or 0, is a moment of the net
pub last_in : (w : Network) (arrivals : List ℕ) (last : ℕ) → IsStored w arrivals → (0 < last → (last < length arrivals) × (0 < get_or arrivals last 0))
    → last ≤ w.site.shape.horizon
last_in w arrivals zero s some = omega arith
last_in w arrivals (suc last) s some = let here = some (omega arith) in omega (arith, here.0, s.moments)
