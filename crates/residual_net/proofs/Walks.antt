-- Walks along flow, back to a supply and on to an arrival.
use Rattle.std.proofs.Common.{◌≡◌, ◌≢◌, ℕ, suc, ◌+◌, ◌<◌, ◌≤◌, Bool, true, false, cond, ◌||◌, eqb, List, [], ◌∷◌, ◌++◌, length-append, reverse, refl, ap, sym, ◌∙◌, arith, inl, inr, subst, min}
use Rattle.std.specs.List.{All, AllPairs}
use Rattle.std.proofs.lemmas.List.{get_or_append_left, reverse-append}
use Rattle.std.proofs.lemmas.List.Elements.{All-head, All-tail, All-nil, All-cons, All-push, All-weaker}
use Rattle.std.proofs.lemmas.List.Kept.{AllPairs-cons}
use Rattle.std.proofs.lemmas.Bool.{cases_lt}
use Rattle.time_expansion.specs.Expansion.{from_at, to_at, no_ends}
use Rattle.residual_net.specs.declared.place.Place.{Place}
use Rattle.residual_net.specs.declared.place.Place.TheVariants.{Arc, Hold, Supply}
use Rattle.residual_net.specs.declared.place.PathStep.{PathStep}
use Rattle.residual_net.specs.declared.end.End.{End}
use Rattle.residual_net.specs.declared.end.End.TheVariants.{Source, Pair, Door}
use Rattle.residual_net.specs.Site.{Site, IsOpenEnd, IsOpenPair, IsSite, IsPlace, arrival_at, at, exit_at, head_of, is_barred, start_of, stop_of, tail_of}
use Rattle.residual_net.specs.Network.{Network, IsNet, flow_at, flow_into, flow_out, residual_room}
use Rattle.residual_net.specs.Route.{Leads}
use Rattle.residual_net.specs.Change.{IsAlong, IsFlowPath, IsLeastAlong, IsWalk, rank}
use Rattle.residual_net.proofs.Arrivals.{open_step}
use Rattle.residual_net.proofs.Quiet.{none_from, none_into, open_flow, part_from, part_into, rank_in, rank_up}

abbrev pub step_on : Place → PathStep
step_on p = record { place = p; back = false }

-- ---- pairs that flow goes through

no_exit : (b c : Bool) → (b || c) ≡ false → b ≡ false
no_exit b c h = grind arith

pub open_tail : (s : Site) → IsSite s → (p : Place) → IsPlace s p → is_barred s p ≡ false → IsOpenEnd s (tail_of s p)
open_tail s h (Arc a t) i b = record { node = (h.shape.ends_in a no_ends i.0).0; moment = i.1; no_exit = h.from_no_exit a i.0 }
open_tail s h (Hold n t) i b = record { node = i.0; moment = i.1; no_exit = no_exit (exit_at s n) (eqb t s.shape.horizon) b }
open_tail s h (Supply n t) i b = tt

pub open_head : (s : Site) → IsSite s → (p : Place) → IsPlace s p → is_barred s p ≡ false → IsOpenEnd s (head_of s p)
open_head s h (Arc a t) i b = by_exit (exit_at s (to_at s.shape a)) refl (rank_in s (Arc a t) i b)
  where
    by_exit : (b : Bool) → exit_at s (to_at s.shape a) ≡ b
        → rank (cond b (Door (arrival_at s a t)) (Pair (to_at s.shape a) (arrival_at s a t))) ≤ s.shape.horizon + 1
        → IsOpenEnd s (cond b (Door (arrival_at s a t)) (Pair (to_at s.shape a) (arrival_at s a t)))
    by_exit true e l = tt
    by_exit false e l = record { node = (h.shape.ends_in a no_ends i.0).1; moment = omega (arith, l); no_exit = e }
open_head s h (Hold n t) i b = grind (arith, rank_in, no_exit)
open_head s h (Supply n t) i b = record { node = i.0; moment = i.1; no_exit = b }

-- a step with room starts and stops where people can be
module _ (w : Network) (r : PathStep) (net : IsNet w) (i : IsPlace w.site r.place) (some : 0 < residual_room w r) where
  free : is_barred w.site r.place ≡ false
  free = open_step w r 1 net i (omega arith) (omega (arith, some))

  ends : (b : Bool) → IsOpenEnd w.site (cond b (head_of w.site r.place) (tail_of w.site r.place))
  ends true = open_head w.site net.site r.place i free
  ends false = open_tail w.site net.site r.place i free

  pub start_open : IsOpenEnd w.site (start_of w.site r)
  start_open = ends r.back

  pub stop_open : IsOpenEnd w.site (stop_of w.site r)
  stop_open = opposite r.back
    where
      opposite : (b : Bool) → IsOpenEnd w.site (cond b (tail_of w.site r.place) (head_of w.site r.place))
      opposite true = ends false
      opposite false = ends true

-- what a place with flow leads from, and what it leads to
pub behind_is : (w : Network) → IsNet w → (p : Place) → IsPlace w.site p → 0 < flow_at w p → (n t : ℕ) → tail_of w.site p ≡ Pair n t
    → IsOpenPair w.site n t × (0 < flow_into w (at (Pair n t)))
behind_is w net p i some n t e = grind (arith, open_tail, open_flow, some, part_from)

pub ahead_is : (w : Network) → IsNet w → (p : Place) → IsPlace w.site p → 0 < flow_at w p → (n t : ℕ) → head_of w.site p ≡ Pair n t
    → IsOpenPair w.site n t × (0 < flow_out w (at (Pair n t)))
ahead_is w net p i some n t e = grind (arith, open_head, open_flow, some, part_into)

-- ---- a walk of one step more

pub walk_before : (w : Network) → IsNet w → (p q : Place) (path : List PathStep) (f : End) → IsWalk w p path (head_of w.site q) f → IsPlace w.site q
    → 0 < flow_at w q → IsWalk w p (step_on q ∷ path) (tail_of w.site q) f
walk_before w net p q path f h i some = record {
  along = All-cons (IsAlong w) (step_on q) path (refl, i, some) h.along;
  leads = (refl, h.leads);
  through = (suc h.through.0, h.through.1, omega (arith, h.through.2), h.through.3, h.through.4);
  short = omega (arith, h.short, rank_up w.site net.site q i);
}

Leads-push : (s : Site) (e f : End) (path : List PathStep) (x : PathStep) → Leads s e path f → start_of s x ≡ f → Leads s e (path ++ x ∷ []) (stop_of s x)
Leads-push s e f [] x h i = (i ∙ sym h, refl)
Leads-push s e f (y ∷ path) x h i = (h.0, Leads-push s (stop_of s y) f path x h.1 i)

pub walk_after : (w : Network) → IsNet w → (p q : Place) (path : List PathStep) (e : End) → IsWalk w p path e (tail_of w.site q) → IsPlace w.site q
    → 0 < flow_at w q → IsWalk w p (path ++ step_on q ∷ []) e (head_of w.site q)
walk_after w net p q path e h i some = record {
  along = All-push (IsAlong w) path (step_on q) h.along (refl, i, some);
  leads = Leads-push w.site e (tail_of w.site q) path (step_on q) h.leads refl;
  through = (
    h.through.0,
    h.through.1,
    omega (arith, h.through.2, length-append path (step_on q ∷ [])),
    get_or_append_left path (step_on q ∷ []) h.through.1 h.through.0 h.through.2 ∙ h.through.3,
    h.through.4,
  );
  short = omega (arith, h.short, length-append path (step_on q ∷ []), rank_up w.site net.site q i);
}

-- ---- the walks so far

-- the steps back so far, the last of them first, to where the walk stands
pub record BackSoFar (w : Network) (p here : Place) (steps : List PathStep) : Type 0 where
  pub walk : IsWalk w p (reverse steps) (tail_of w.site here) (head_of w.site p)
  pub place : IsPlace w.site here
  pub some : 0 < flow_at w here

pub back_none : (w : Network) → IsNet w → (p : Place) → IsPlace w.site p → 0 < flow_at w p → BackSoFar w p p (step_on p ∷ [])
back_none w net p i some = record {
  walk = record {
    along = All-cons (IsAlong w) (step_on p) [] (refl, i, some) (All-nil (IsAlong w));
    leads = (refl, refl);
    through = (0, step_on p, omega arith, refl, refl);
    short = omega (arith, rank_up w.site net.site p i);
  };
  place = i;
  some = some;
}

pub back_more : (w : Network) → IsNet w → (p here q : Place) (steps : List PathStep) (n t : ℕ) → BackSoFar w p here steps → tail_of w.site here ≡ Pair n t
    → IsPlace w.site q → head_of w.site q ≡ Pair n t → 0 < flow_at w q → BackSoFar w p q (steps ++ step_on q ∷ [])
back_more w net p here q steps n t h e i f some =
    let old = subst (λ z. IsWalk w p (reverse steps) z (head_of w.site p)) (e ∙ sym f) h.walk in
    let more = walk_before w net p q (reverse steps) (head_of w.site p) old i some in
    record {
      walk = subst (λ (z : List PathStep). IsWalk w p z (tail_of w.site q) (head_of w.site p)) (sym (reverse-append steps (step_on q ∷ []))) more;
      place = i;
      some = some;
    }

-- the steps so far, from the supply to where the walk stands
pub record OnSoFar (w : Network) (p here : Place) (steps : List PathStep) : Type 0 where
  pub walk : IsWalk w p steps Source (head_of w.site here)
  pub place : IsPlace w.site here
  pub some : 0 < flow_at w here

pub on_more : (w : Network) → IsNet w → (p here q : Place) (steps : List PathStep) (n t : ℕ) → OnSoFar w p here steps → head_of w.site here ≡ Pair n t
    → IsPlace w.site q → tail_of w.site q ≡ Pair n t → 0 < flow_at w q → OnSoFar w p q (steps ++ step_on q ∷ [])
on_more w net p here q steps n t h e i f some = record {
  walk = walk_after w net p q steps Source (subst (λ z. IsWalk w p steps Source z) (e ∙ sym f) h.walk) i some;
  place = i;
  some = some;
}

-- ---- whom the steps of a walk have

pub least_along_none : (w : Network) (most : ℕ) → 1 ≤ most → IsLeastAlong w [] most most
least_along_none w most some = record { some = some; within = omega arith; enough = All-nil (λ (r : PathStep). most ≤ flow_at w r.place) }

-- the people of some steps, or fewer if another step has fewer
module _ (w : Network) (q : Place) (steps : List PathStep) (most x y : ℕ) (h : IsLeastAlong w steps most x) (some : 0 < flow_at w q) (e : y ≡ min x (flow_at w q)) where
  fewer : All (λ (r : PathStep). y ≤ flow_at w r.place) steps
  fewer = All-weaker (λ (r : PathStep). x ≤ flow_at w r.place) (λ (r : PathStep). y ≤ flow_at w r.place) (λ r l. omega (arith, e, l)) steps h.enough

  pub least_along_before : IsLeastAlong w (step_on q ∷ steps) most y
  least_along_before = record {
    some = omega (arith, e, h.some, some);
    within = omega (arith, e, h.within);
    enough = All-cons (λ (r : PathStep). y ≤ flow_at w r.place) (step_on q) steps (omega (arith, e)) fewer;
  }

  pub least_along_after : IsLeastAlong w (steps ++ step_on q ∷ []) most y
  least_along_after = record {
    some = omega (arith, e, h.some, some);
    within = omega (arith, e, h.within);
    enough = All-push (λ (r : PathStep). y ≤ flow_at w r.place) steps (step_on q) fewer (omega (arith, e));
  }

-- ---- no place twice

-- ranks rise along a path forwards, so that it visits no place twice
ranks_rise : (s : Site) → IsSite s → (path : List PathStep) (e f : End) → All (λ x. (x.back ≡ false) × IsPlace s x.place) path → Leads s e path f
    → All (λ x. rank e ≤ rank (tail_of s x.place)) path × AllPairs (λ x y. x.place ≢ y.place) path
ranks_rise s h [] e f a l = ((λ i d j. absurd (omega (arith, j))), (λ i j d k m. absurd (omega (arith, m))))
ranks_rise s h (x ∷ path) e f a l =
    let here = All-head (λ (x : PathStep). (x.back ≡ false) × IsPlace s x.place) x path a in
    let up = rank_up s h x.place here.1 in
    let from : tail_of s x.place ≡ e = ap (λ b. cond b (head_of s x.place) (tail_of s x.place)) (sym here.0) ∙ l.0 in
    let to : stop_of s x ≡ head_of s x.place = ap (λ b. cond b (tail_of s x.place) (head_of s x.place)) here.0 in
    let after = λ (y : PathStep). rank (head_of s x.place) ≤ rank (tail_of s y.place) in
    let rest = ranks_rise s h path (head_of s x.place) f (All-tail (λ (x : PathStep). (x.back ≡ false) × IsPlace s x.place) x path a)
    (subst (λ z. Leads s z path f) to l.1) in (
      All-cons (λ (y : PathStep). rank e ≤ rank (tail_of s y.place)) x path (omega (arith, ap rank from))
          (All-weaker after (λ (y : PathStep). rank e ≤ rank (tail_of s y.place)) (λ y m. omega (arith, m, up, ap rank from)) path rest.0),
      AllPairs-cons (λ (x y : PathStep). x.place ≢ y.place) x path
          (All-weaker after (λ (y : PathStep). x.place ≢ y.place) (λ y m same. omega (arith, m, up, ap (λ z. rank (tail_of s z)) same)) path rest.0) rest.1,
    )

pub flow_path : (w : Network) → IsNet w → (p : Place) (path : List PathStep) (k : ℕ) → IsWalk w p path Source (Door k) → IsFlowPath w.site path k
flow_path w net p path k h = grind (arith, ranks_rise)

-- ---- the place that has the flow

-- where neither arcs nor the hold bring anybody, the supply does
pub supply_some : (w : Network) (n t : ℕ) → IsPlace w.site (Supply n t)
    → ((a s : ℕ) → IsPlace w.site (Arc a s) → to_at w.site.shape a ≡ n → arrival_at w.site a s ≡ t → flow_at w (Arc a s) ≡ 0)
    → ((s : ℕ) → s + 1 ≡ t → flow_at w (Hold n s) ≡ 0) → 0 < flow_into w (at (Pair n t)) → 0 < flow_at w (Supply n t)
supply_some w n t i arcs holds some = elim (cases_lt 0 (flow_at w (Supply n t))) [
  | inl here ↦ here
  | inr none ↦ absurd (omega (arith, some, none_into w (Pair n t) (λ p j e. by_place p j e none)))
]
  where
    by_exit : (a s : ℕ) (b : Bool) → IsPlace w.site (Arc a s)
        → cond b (Door (arrival_at w.site a s)) (Pair (to_at w.site.shape a) (arrival_at w.site a s)) ≡ Pair n t → flow_at w (Arc a s) ≡ 0
    by_exit a s true j h = absurd (cc)
    by_exit a s false j h = arcs a s j (cc) (cc)

    by_place : (p : Place) → IsPlace w.site p → head_of w.site p ≡ Pair n t → flow_at w (Supply n t) ≤ 0 → flow_at w p ≡ 0
    by_place (Arc a s) j e none = by_exit a s (exit_at w.site (to_at w.site.shape a)) j e
    by_place (Hold m s) j e none = let last = holds s (cc) in cc
    by_place (Supply m s) j e none = let same : flow_at w (Supply m s) ≡ flow_at w (Supply n t) = cc in omega (arith, same, none)

-- where no arc takes anybody away, the hold does
pub hold_some : (w : Network) (n t : ℕ) → ((a : ℕ) → IsPlace w.site (Arc a t) → from_at w.site.shape a ≡ n → flow_at w (Arc a t) ≡ 0)
    → 0 < flow_out w (at (Pair n t)) → 0 < flow_at w (Hold n t)
hold_some w n t arcs some = elim (cases_lt 0 (flow_at w (Hold n t))) [
  | inl here ↦ here
  | inr none ↦ absurd (omega (arith, some, none_from w (Pair n t) (λ p j e. by_place p j e none)))
]
  where
    by_place : (p : Place) → IsPlace w.site p → tail_of w.site p ≡ Pair n t → flow_at w (Hold n t) ≤ 0 → flow_at w p ≡ 0
    by_place (Arc a s) j e none =
        let moment : s ≡ t = cc in
        let leaves = arcs a (j.0, omega (arith, moment, j.1)) (cc) in
        cc
    by_place (Hold m s) j e none = let same : flow_at w (Hold m s) ≡ flow_at w (Hold n t) = cc in omega (arith, same, none)
    by_place (Supply m s) j e none = absurd (cc)
