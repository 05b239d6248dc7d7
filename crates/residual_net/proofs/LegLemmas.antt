-- Pushes over the legs of a path.
use Rattle.std.proofs.Common.{◌≡◌, ◌≢◌, ℕ, zero, suc, ◌+◌, ◌-◌, ◌<◌, ◌≤◌, List, [], ◌∷◌, ◌++◌, length, map, take, drop, set, get_or, refl, ap, sym, ◌∙◌, arith, subst, drop-cons, add-one, length-set}
use Rattle.std.proofs.Math.Seq.{sets}
use Rattle.std.specs.List.{All}
use Rattle.std.proofs.lemmas.List.Elements.{All-cons}
use Rattle.std.proofs.lemmas.List.{append_assoc, append-nil, get_or-append-add, get_or_append_left, get_or_default, length-append}
use Rattle.residual_net.specs.declared.legs.Leg.{Leg}
use Rattle.residual_net.specs.declared.place.Cell.{Cell}
use Rattle.residual_net.specs.declared.place.Place.{Place}
use Rattle.residual_net.specs.declared.place.Place.TheVariants.{Hold}
use Rattle.residual_net.specs.declared.place.PathStep.{PathStep}
use Rattle.residual_net.specs.Legs.{IsShiftable, IsUnderwayBetween, steps_of_leg, steps_of_legs, wait_at, waits_at, waits_to, with_more}
use Rattle.residual_net.specs.Network.{Network, IsGrid, flow_at, limit_at, no_cell, residual_room, with_cell}
use Rattle.residual_net.specs.Route.{IsOrigin, IsPushable, IsPushed, Leads}
use Rattle.residual_net.specs.declared.end.End.{End}
use Rattle.residual_net.specs.declared.end.End.TheVariants.{Source, Pair, Door}
use Rattle.residual_net.specs.Site.{Site, IsPlace, cell_of, start_of}
use Rattle.residual_net.proofs.Saving.{sets_more}
use Rattle.residual_net.proofs.Steps.{added_none, cell_in, path_some, push_none, push_one, push_then, taken_none}
use Rattle.time_expansion.specs.Expansion.{hold_cell}

-- ---- waits

-- the cell of a wait, by where the waits in its node begin
pub wait_cell : (s : Site) (n t first : ℕ) → first ≡ hold_cell s.shape n 0 → first + t ≡ cell_of s (Hold n t)
unfolding cell_of hold_cell
wait_cell s n t first here = omega (arith, here)

next_cell : (s : Site) (n t : ℕ) → cell_of s (Hold n (t + 1)) ≡ cell_of s (Hold n t) + 1
unfolding cell_of hold_cell
next_cell s n t = omega arith

grid_with : (w : Network) (p : Place) (c : Cell) → IsGrid w → IsGrid (with_cell w p c)
grid_with w p c g = record { site = g.site; full = length-set w.cells (cell_of w.site p) c ∙ g.full; saved_full = g.saved_full }

pub waits_none : (n t u : ℕ) → u ≤ t → waits_at n t (u - t) ≡ []
waits_none n t u l = let none : u - t ≡ 0 = omega (arith, l) in ap (waits_at n t) none

-- the waits up to a moment begin with the first of them
pub waits_first : (n t u : ℕ) → t < u → waits_at n t (u - t) ≡ wait_at n t ∷ waits_at n (t + 1) (u - (t + 1))
waits_first n t u l = let some : u - t ≡ suc (u - (t + 1)) = omega (arith, l) in ap (waits_at n t) some

-- ---- steps that people may be sent over

-- the steps before the last ones
pub shiftable_before : (w : Network) (p q : List PathStep) (x : ℕ) → IsShiftable w (p ++ q) x → IsShiftable w p x
shiftable_before w p q x a = record {
  places = λ i d l. subst (λ (y : PathStep). IsPlace w.site y.place) (get_or_append_left p q d i l) (a.places i d (longer i l));
  room = λ i d l. subst (λ (y : PathStep). x ≤ residual_room w y) (get_or_append_left p q d i l) (a.room i d (longer i l));
  apart = λ i j d l h.
      let here = get_or_append_left p q d i (omega (arith, l, h)) in
      let there = get_or_append_left p q d j h in
      subst (λ (y : PathStep). y.place ≢ (get_or p j d).place) here
      (subst (λ (z : PathStep). (get_or (p ++ q) i d).place ≢ z.place) there (a.apart i j d l (longer j h)));
}
  where
    longer : (i : ℕ) → i < length p → i < length (p ++ q)
    longer i l = omega (arith, l, length-append p q)

-- the steps behind those over which people were sent
pub shiftable_after : (w v : Network) (p q : List PathStep) (x : ℕ) → IsShiftable w (p ++ q) x → IsPushed w v p x → IsShiftable v q x
shiftable_after w v p q x a pushed = record {
  places = λ i d l. subst (λ (s : Site). IsPlace s (get_or q i d).place) (sym pushed.site) (place i d l);
  room = λ i d l.
      let r = get_or q i d in
      let away = apart_from i d l in
      let same : flow_at v r.place ≡ flow_at w r.place =
      omega (arith, pushed.flows r.place (place i d l), added_none p x r.place away, taken_none p x r.place away) in
      let limit = pushed.limits r.place (place i d l) in
      rw (same, limit) (subst (λ (y : PathStep). x ≤ residual_room w y) (behind i d) (a.room (length p + i) d (within i l)));
  apart = λ i j d l h.
      let both = a.apart (length p + i) (length p + j) d (omega (arith, l)) (within j h) in
      subst (λ (y : PathStep). y.place ≢ (get_or q j d).place) (behind i d)
      (subst (λ (z : PathStep). (get_or (p ++ q) (length p + i) d).place ≢ z.place) (behind j d) both);
}
  where
    behind : (i : ℕ) (d : PathStep) → get_or (p ++ q) (length p + i) d ≡ get_or q i d
    behind i d = get_or-append-add p q i d

    within : (i : ℕ) → i < length q → length p + i < length (p ++ q)
    within i l = omega (arith, l, length-append p q)

    place : (i : ℕ) (d : PathStep) → i < length q → IsPlace w.site (get_or q i d).place
    place i d l = subst (λ (y : PathStep). IsPlace w.site y.place) (behind i d) (a.places (length p + i) d (within i l))

    behind_any : (i : ℕ) (d e : PathStep) → i < length q → get_or (p ++ q) (length p + i) e ≡ get_or q i d
    behind_any i d e l = behind i e ∙ get_or_default q i e d l

    apart_from : (i : ℕ) (d : PathStep) → i < length q → All (λ y. y.place ≢ (get_or q i d).place) p
    apart_from i d l j e h =
        let both = a.apart j (length p + i) e (omega (arith, h)) (within i l) in
        subst (λ (z : PathStep). (get_or p j e).place ≢ z.place) (behind_any i d e l)
        (subst (λ (y : PathStep). y.place ≢ (get_or (p ++ q) (length p + i) e).place) (get_or_append_left p q e j h) both)

pub shiftable_place : (w : Network) (r : PathStep) (q : List PathStep) (x : ℕ) → IsShiftable w (r ∷ q) x → IsPlace w.site r.place
shiftable_place w r q x a = a.places 0 r (omega arith)

pub shiftable_room : (w : Network) (r : PathStep) (q : List PathStep) (x : ℕ) → IsShiftable w (r ∷ q) x → x ≤ residual_room w r
shiftable_room w r q x a = a.room 0 r (omega arith)

-- the last of some steps is over a place of the network
pub shiftable_step : (w : Network) (p : List PathStep) (r : PathStep) (x : ℕ) → IsShiftable w (p ++ r ∷ []) x → IsPlace w.site r.place
shiftable_step w p r x a =
    subst (λ (y : PathStep). IsPlace w.site y.place) (get_or-append-add p (r ∷ []) 0 r) (a.places (length p + 0) r (omega (arith, length-append p (r ∷ []))))

pub shiftable_path : (w : Network) (path : List PathStep) (x : ℕ) → IsPushable w path x → IsShiftable w path x
shiftable_path w path x p = record { places = p.2.places; room = p.2.room; apart = p.2.apart }

shiftable_rest : (w : Network) (r : PathStep) (q : List PathStep) (x : ℕ) → IsShiftable w (r ∷ q) x → IsShiftable w q x
shiftable_rest w r q x a = record {
  places = λ i d l. a.places (suc i) d (omega (arith, l));
  room = λ i d l. a.room (suc i) d (omega (arith, l));
  apart = λ i j d l h. a.apart (suc i) (suc j) d (omega (arith, l)) (omega (arith, h));
}

-- the cells of waits one after another are within those of the network
pub waits_fit : (c : ℕ) (w : Network) (n t x i : ℕ) → IsGrid w → i ≡ cell_of w.site (Hold n t) → IsShiftable w (waits_at n t c) x → 0 < c → i + c ≤ length w.cells
waits_fit zero w n t x i grid here can some = absurd (omega (arith, some))
waits_fit (suc zero) w n t x i grid here can some =
    omega (arith, here, cell_in w (Hold n t) grid (shiftable_place w (wait_at n t) [] x can))
waits_fit (suc (suc c)) w n t x i grid here can some =
    omega (
      arith,
      waits_fit (suc c) w n (t + 1) x (i + 1) grid (omega (arith, here, next_cell w.site n t)) (shiftable_rest w (wait_at n t) (waits_at n (t + 1) (suc c)) x can) (omega arith),
    )

-- each of them has room for the people
pub waits_roomy : (c : ℕ) (w : Network) (n t x i : ℕ) → IsGrid w → i ≡ cell_of w.site (Hold n t) → IsShiftable w (waits_at n t c) x
    → All (λ (z : Cell). x ≤ z.limit - z.flow) (take c (drop i w.cells))
unfolding flow_at limit_at
waits_roomy zero w n t x i grid here can j d l = absurd (omega (arith, l))
waits_roomy (suc c) w n t x i grid here can j d l =
    let rest = waits_at n (t + 1) c in
    let lt : i < length w.cells = omega (arith, here, cell_in w (Hold n t) grid (shiftable_place w (wait_at n t) rest x can)) in
    let first : x ≤ (get_or w.cells i no_cell).limit - (get_or w.cells i no_cell).flow =
    subst (λ h. x ≤ (get_or w.cells h no_cell).limit - (get_or w.cells h no_cell).flow) (sym here) (shiftable_room w (wait_at n t) rest x can) in
    let others = waits_roomy c w n (t + 1) x (i + 1) grid (omega (arith, here, next_cell w.site n t)) (shiftable_rest w (wait_at n t) rest x can) in
    let behind : All (λ (z : Cell). x ≤ z.limit - z.flow) (take c (drop (suc i) w.cells)) =
    subst (λ h. All (λ (z : Cell). x ≤ z.limit - z.flow) (take c (drop h w.cells))) (add-one i) others in
    subst (λ (cells : List Cell). All (λ (z : Cell). x ≤ z.limit - z.flow) (take (suc c) cells)) (sym (drop-cons w.cells i no_cell lt))
    (All-cons (λ (z : Cell). x ≤ z.limit - z.flow) (get_or w.cells i no_cell) (take c (drop (suc i) w.cells)) first behind) j d l

-- people sent over waits one after another: more people over their cells
pub waits_pushed : (c : ℕ) (w : Network) (n t x i : ℕ) → IsGrid w → i ≡ cell_of w.site (Hold n t) → IsShiftable w (waits_at n t c) x
    → IsPushed w (record w { cells = sets w.cells i (map (with_more x) (take c (drop i w.cells))) }) (waits_at n t c) x
unfolding flow_at limit_at
waits_pushed zero w n t x i grid here can = push_none w x
waits_pushed (suc c) w n t x i grid here can =
    let r = wait_at n t in
    let rest = waits_at n (t + 1) c in
    let place = shiftable_place w r rest x can in
    let more = with_more x (get_or w.cells i no_cell) in
    let v = with_cell w (Hold n t) more in
    let lt : i < length w.cells = omega (arith, here, cell_in w (Hold n t) grid place) in
    let one : IsPushed w v (r ∷ []) x = push_one w r x more grid place (λ _. ap (λ j. (get_or w.cells j no_cell).flow + x) here) (λ e. absurd (cc))
    (ap (λ j. (get_or w.cells j no_cell).limit) here) in
    let left = shiftable_after w v (r ∷ []) rest x can one in
    let others = waits_pushed c v n (t + 1) x (i + 1) (grid_with w (Hold n t) more grid) (omega (arith, here, next_cell w.site n t)) left in
    let whole = push_then w v _ (r ∷ []) rest x one others in
    subst (λ (z : List Cell). IsPushed w (record w { cells = z }) (waits_at n t (suc c)) x)
    (ap (λ j. sets (set w.cells j more) (i + 1) (map (with_more x) (take c (drop (i + 1) (set w.cells j more))))) (sym here) ∙ sets_more (with_more x) c i w.cells no_cell lt)
    whole

-- ---- a push underway

-- the first and the last step are over places of the network
pub between_places : {v : Network} {arrivals : List ℕ} {first last : PathStep} {x : ℕ} → IsUnderwayBetween v arrivals first last x
    → IsPlace v.site first.place × IsPlace v.site last.place
between_places {v} {arrivals} {first} {last} {x} u = (placed 0 first (u.first_step first) (omega (arith, some)), placed (length u.path - 1) last (u.last_step last) (omega (arith, some)))
  where
    some : 0 < length u.path
    some = path_some u.underway.before u.path x u.underway.pushable

    placed : (i : ℕ) (r : PathStep) → get_or u.path i r ≡ r → i < length u.path → IsPlace v.site r.place
    placed i r same l = grind arith

-- ---- legs

-- people are sent on over no wait
pub waits_no : (k : ℕ) (e : End) (since : ℕ) → IsOrigin k e → waits_to e since ≡ []
waits_no k Source since origin = refl
waits_no k (Pair n t) since origin = absurd origin
waits_no k (Door j) since origin = refl

pub legs_more : (s : Site) (gs : List Leg) (g : Leg) → steps_of_legs s (gs ++ g ∷ []) ≡ steps_of_legs s gs ++ steps_of_leg s g
legs_more s [] g = append-nil (steps_of_leg s g)
legs_more s (h ∷ gs) g =
    ap (λ z. steps_of_leg s h ++ z) (legs_more s gs g) ∙ sym (append_assoc (steps_of_leg s h) (steps_of_legs s gs) (steps_of_leg s g))

-- the legs from one on
pub legs_from : (s : Site) (gs : List Leg) (i : ℕ) (d : Leg) → i < length gs
    → steps_of_legs s (drop i gs) ≡ steps_of_leg s (get_or gs i d) ++ steps_of_legs s (drop (i + 1) gs)
legs_from s gs i d l = grind (arith, drop-cons, add-one)

leg_some : (s : Site) (g : Leg) → 0 < length (steps_of_leg s g)
leg_some s g = omega (arith, length-append (waits_to (start_of s g.step) g.since) (g.step ∷ []))

pub legs_some : (w : Network) (gs : List Leg) (x : ℕ) → IsPushable w (steps_of_legs w.site gs) x → 0 < length gs
legs_some w [] x p = absurd (omega (arith, path_some w [] x p))
legs_some w (g ∷ gs) x p = omega arith

-- a step is the first one of a path that begins where people are sent on from: no wait comes before it
first_of : (s : Site) (k since : ℕ) (o e f : End) (y : PathStep) (rest : List PathStep) (d : PathStep) → IsOrigin k o
    → Leads s o ((waits_to e since ++ y ∷ []) ++ rest) f → get_or ((waits_to e since ++ y ∷ []) ++ rest) 0 d ≡ y
first_of s k since o Source f y rest d origin leads = refl
first_of s k since o (Pair n t) f y rest d origin leads = by (t - since) leads
  where
    by : (c : ℕ) → Leads s o ((waits_at n since c ++ y ∷ []) ++ rest) f → get_or ((waits_at n since c ++ y ∷ []) ++ rest) 0 d ≡ y
    by zero l = refl
    by (suc c) l = absurd (subst (IsOrigin k) (sym l.0) origin)
first_of s k since o (Door j) f y rest d origin leads = refl

-- the first step of legs is that of the first leg
pub legs_first : (w : Network) (gs : List Leg) (x : ℕ) (b : Leg) (d : PathStep) → IsPushable w (steps_of_legs w.site gs) x
    → get_or (steps_of_legs w.site gs) 0 d ≡ (get_or gs 0 b).step
legs_first w [] x b d p = absurd (omega (arith, path_some w [] x p))
legs_first w (g ∷ gs) x b d p = grind (arith, first_of)

-- the last step of a leg is its step
leg_last : (s : Site) (g : Leg) (d : PathStep) → get_or (steps_of_leg s g) (length (steps_of_leg s g) - 1) d ≡ g.step
leg_last s g d =
    let waits = waits_to (start_of s g.step) g.since in
    let at : length (steps_of_leg s g) - 1 ≡ length waits + 0 = omega (arith, length-append waits (g.step ∷ [])) in
    ap (λ i. get_or (steps_of_leg s g) i d) at ∙ get_or-append-add waits (g.step ∷ []) 0 d

-- the last step of legs is that of the last leg
pub legs_last : (s : Site) (gs : List Leg) (b : Leg) (d : PathStep) → 0 < length gs
    → get_or (steps_of_legs s gs) (length (steps_of_legs s gs) - 1) d ≡ (get_or gs (length gs - 1) b).step
legs_last s [] b d l = absurd (omega (arith, l))
legs_last s (g ∷ []) b d l = ap (λ z. get_or z (length z - 1) d) (append-nil (steps_of_leg s g)) ∙ leg_last s g d
legs_last s (g ∷ h ∷ gs) b d l =
    let rest = steps_of_legs s (h ∷ gs) in
    let some : 0 < length rest = omega (arith, length-append (steps_of_leg s h) (steps_of_legs s gs), leg_some s h) in
    let up : length (g ∷ h ∷ gs) - 1 ≡ suc (length (h ∷ gs) - 1) = omega arith in
    let at : length (steps_of_leg s g ++ rest) - 1 ≡ length (steps_of_leg s g) + (length rest - 1) =
    omega (arith, some, length-append (steps_of_leg s g) rest) in
    ap (λ i. get_or (steps_of_leg s g ++ rest) i d) at ∙ get_or-append-add (steps_of_leg s g) rest (length rest - 1) d
    ∙ legs_last s (h ∷ gs) b d (omega arith) ∙ sym (ap (λ i. (get_or (g ∷ h ∷ gs) i b).step) up)
