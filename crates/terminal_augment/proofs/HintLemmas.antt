-- A hinted path, from its end to its beginning.
use Rattle.std.proofs.Common.{◌≡◌, ℕ, zero, suc, ◌+◌, ◌-◌, ◌*◌, ◌<◌, ◌≤◌, Bool, true, false, true≢false, cond, ◌&&◌, eqb, List, [], ◌∷◌, ◌++◌, length, get_or, drop, map, ap, sym, subst, ◌∙◌, ◌⊎◌, refl, arith, inl, inr}
use Rattle.std.specs.List.{All, between}
use Rattle.std.proofs.lemmas.List.{append_assoc, get_or_default, length-take}
use Rattle.std.proofs.lemmas.List.Edits.{get_or-between, length-between}
use Rattle.std.proofs.lemmas.Bool.{cases_Bool, cases_lt, or_cases}
use Rattle.time_expansion.specs.Expansion.{Expansion, hold_cell}
use Rattle.residual_net.specs.declared.legs.Leg.{Leg}
use Rattle.residual_net.specs.declared.place.Cell.{Cell}
use Rattle.residual_net.specs.declared.place.Place.{Place}
use Rattle.residual_net.specs.declared.place.PathStep.{PathStep}
use Rattle.residual_net.specs.Legs.{steps_of_legs, wait_at, waits_at, waits_to}
use Rattle.residual_net.proofs.LegLemmas.{legs_from, waits_no}
use Rattle.residual_net.specs.declared.place.Place.TheVariants.{Arc, Hold, Supply}
use Rattle.residual_net.specs.Network.{Network, IsNet, IsWithinLimits, no_cell, residual_room}
use Rattle.residual_net.specs.Route.{IsAugmentingPath, IsOrigin, IsPushed}
use Rattle.residual_net.specs.declared.end.End.{End}
use Rattle.residual_net.specs.declared.end.End.TheVariants.{Source, Pair, Door}
use Rattle.residual_net.specs.Site.{Site, IsOpenEnd, IsOpenPair, IsPlace, IsSite, cell_of, head_of, start_of, tail_of}
use Rattle.residual_net.proofs.Places.{cell_below}
use Rattle.terminal_augment.specs.declared.hint.Checked.{Checked}
use Rattle.terminal_augment.specs.declared.spot.Met.{Met}
use Rattle.terminal_augment.specs.declared.spot.Spot.{Spot}
use Rattle.terminal_augment.specs.Chains.{IsChain, IsLink, spots, steps_of, top_end}
use Rattle.terminal_augment.specs.Hints.{CarriesPeople, IsCheckedBack, IsMarkedOn, IsMarkedOver, IsStep}
use Rattle.terminal_augment.specs.Marking.{MarkTable, IsMarks, is_marked, with_stamp}
use Rattle.terminal_augment.specs.Settled.{IsPushedOn}
use Rattle.terminal_augment.specs.Spots.{has}
use Rattle.terminal_augment.proofs.MarkLemmas.{IsIn, marked_grows, marked_here}
use Rattle.terminal_augment.proofs.SpotLemmas.{all_cons, at_spot}
use Rattle.terminal_augment.proofs.SendLemmas.{IsBegun, augments, pushed_on}

-- the pair of an end, where it is one
abbrev pub spot_of : End → Spot
spot_of (Pair n t) = record { node = n; moment = t }
spot_of _ = record { node = 0; moment = 0 }

-- the steps of a path, each with the pair at which it begins
abbrev pub met_by : Site → PathStep → Met
met_by s y = record { spot = spot_of (start_of s y); step = y }

abbrev pub all_by : Site → List PathStep → List Met
all_by s = map (met_by s)

-- the steps lead from an end to an arrival at moment k over some pairs, and each has room for some people
pub record IsTail (w : Network) (k : ℕ) (s : ℕ → ℕ → Type 0) (e : End) (people : ℕ) (path : List PathStep) : Type 0 where
  pub chain : IsChain w.site k (all_by w.site path)
  pub top : e ≡ top_end k (all_by w.site path)
  pub some : 1 ≤ people
  pub room : All (λ y. people ≤ residual_room w y) path
  pub over : (n t : ℕ) → has (spots (all_by w.site path)) n t ≡ true → s n t

-- people can be at the end at which such steps begin
pub tail_open : {w : Network} {k : ℕ} {s : ℕ → ℕ → Type 0} {e : End} {people : ℕ} {path : List PathStep} → IsTail w k s e people path → IsOpenEnd w.site e
tail_open {w} {k} {path} tail = subst (IsOpenEnd w.site) (sym tail.top) (by (all_by w.site path) tail.chain)
  where
    by : (ms : List Met) → IsChain w.site k ms → IsOpenEnd w.site (top_end k ms)
    by [] chain = tt
    by (m ∷ ms) chain = chain.0.inside

pub tail_none : (w : Network) (k : ℕ) (s : ℕ → ℕ → Type 0) (people : ℕ) → 1 ≤ people → IsTail w k s (Door k) people []
tail_none w k s people one = record {
  chain = tt;
  top = refl;
  some = one;
  room = λ j d l. absurd (omega (arith, l));
  over = λ n t h. absurd (cc);
}

-- the same steps for fewer people, over some pairs more
pub tail_wider : {w : Network} {k : ℕ} {s : ℕ → ℕ → Type 0} (r : ℕ → ℕ → Type 0) {e : End} {people : ℕ} (next : ℕ) {path : List PathStep} → IsTail w k s e people path
    → ((n t : ℕ) → s n t → r n t) → 1 ≤ next → next ≤ people → IsTail w k r e next path
tail_wider r next tail wider one few = record {
  chain = tail.chain;
  top = tail.top;
  some = one;
  room = λ j d l. omega (arith, few, tail.room j d l);
  over = λ n t h. wider n t (tail.over n t h);
}

abbrev with_spot : PathStep → Spot → Met
with_spot y p = record { spot = p; step = y }

met_at : (s : Site) (y : PathStep) (p : Spot) → start_of s y ≡ Pair p.node p.moment → met_by s y ≡ with_spot y p
met_at s y p e = ap (λ (z : End). with_spot y (spot_of z)) e

-- one more step, from a pair that isn't among those come over
pub tail_more : {w : Network} {k : ℕ} {s : ℕ → ℕ → Type 0} (r : ℕ → ℕ → Type 0) {e : End} (p : Spot) {people : ℕ} (next : ℕ) {y : PathStep} {path : List PathStep}
    → IsTail w k s e people path → IsStep w y (Pair p.node p.moment) e → (s p.node p.moment → ⊥) → ((n t : ℕ) → s n t → r n t) → r p.node p.moment
    → 1 ≤ next → next ≤ people → next ≤ residual_room w y → IsTail w k r (Pair p.node p.moment) next (y ∷ path)
tail_more {w} {k} r p next {y} {path} tail step off wider with_it one few room = record {
  chain = subst (λ (m : Met). IsChain w.site k (m ∷ all_by w.site path)) (sym here) (link, tail.chain);
  top = ap (λ (m : Met). top_end k (m ∷ all_by w.site path)) (sym here);
  some = one;
  room = all_cons (λ (z : PathStep). next ≤ residual_room w z) y path room (λ j d l. omega (arith, few, tail.room j d l));
  over = subst (λ (m : Met). (n t : ℕ) → has (spots (m ∷ all_by w.site path)) n t ≡ true → r n t) (sym here)
      (λ n t q. by n t (or_cases (eqb p.node n && eqb p.moment t) (has (spots (all_by w.site path)) n t) q));
}
  where
    here : met_by w.site y ≡ with_spot y p
    here = met_at w.site y p step.start

    fresh : (has (spots (all_by w.site path)) p.node p.moment ≡ true) ⊎ (has (spots (all_by w.site path)) p.node p.moment ≡ false)
        → has (spots (all_by w.site path)) p.node p.moment ≡ false
    fresh (inl q) = absurd (off (tail.over p.node p.moment q))
    fresh (inr q) = q

    link : IsLink w.site k (with_spot y p) (all_by w.site path)
    link = record {
      inside = step.inside;
      place = step.place;
      start = step.start;
      stop = step.stop ∙ tail.top;
      fresh = fresh (cases_Bool (has (spots (all_by w.site path)) p.node p.moment));
    }

    by : (n t : ℕ) → ((eqb p.node n && eqb p.moment t) ≡ true) ⊎ (has (spots (all_by w.site path)) n t ≡ true) → r n t
    by n t (inl q) = at_spot p.node p.moment n t r q with_it
    by n t (inr q) = wider n t (tail.over n t q)

steps_of_all : (s : Site) (xs : List PathStep) → steps_of (all_by s xs) ≡ xs
steps_of_all s [] = refl
steps_of_all s (x ∷ xs) = ap (λ (z : List PathStep). x ∷ z) (steps_of_all s xs)

pub all_carried : {w : Network} {k : ℕ} {s : ℕ → ℕ → Type 0} {e r : End} {people : ℕ} (next : ℕ) {y : PathStep} {path : List PathStep} (whole : List PathStep) → IsTail w k s e people path
    → IsStep w y r e → IsOrigin k r → next ≤ people → next ≤ residual_room w y → whole ≡ y ∷ path → CarriesPeople w k whole next
all_carried {w} {k} next {y} {path} whole tail step origin few room same = (start_of w.site y, subst (λ (z : List PathStep). IsAugmentingPath w z next (start_of w.site y) k) (sym same) here)
  where
    begun : IsBegun w k (all_by w.site path) y
    begun = record { place = step.place; stop = step.stop ∙ tail.top; origin = subst (λ (z : End). IsOrigin k z) (sym step.start) origin }

    rooms : All (λ (z : PathStep). next ≤ residual_room w z) (y ∷ path)
    rooms = all_cons (λ (z : PathStep). next ≤ residual_room w z) y path room (λ j d l. omega (arith, few, tail.room j d l))

    here : IsAugmentingPath w (y ∷ path) next (start_of w.site y) k
    here = augments w k (all_by w.site path) y next (y ∷ path) begun tail.chain (ap (λ (z : List PathStep). y ∷ z) (sym (steps_of_all w.site path))) rooms

-- a leg past the last one
abbrev pub blank : Leg
blank = record { since = 0; step = record { place = Arc 0 0; back = false } }

abbrev waits_of : Site → Leg → List PathStep
waits_of s g = waits_to (start_of s g.step) g.since

-- the legs from a number on, where that is one less
pub legs_back : (s : Site) (gs : List Leg) (left : ℕ) (blank : Leg) → 0 < left → left ≤ length gs
    → steps_of_legs s (drop (left - 1) gs) ≡ waits_of s (get_or gs (left - 1) blank) ++ (get_or gs (left - 1) blank).step ∷ steps_of_legs s (drop left gs)
legs_back s gs left blank some fits =
    let g = get_or gs (left - 1) blank in
    let lt : left - 1 < length gs = omega (arith, some, fits) in
    let next : (left - 1) + 1 ≡ left = omega (arith, some) in
    legs_from s gs (left - 1) blank lt ∙ append_assoc (waits_of s g) (g.step ∷ []) (steps_of_legs s (drop ((left - 1) + 1) gs))
    ∙ ap (λ i. waits_of s g ++ g.step ∷ steps_of_legs s (drop i gs)) next

-- the path of legs of which the first is a step from where people are sent on
pub legs_whole : (s : Site) (k : ℕ) (gs : List Leg) (left : ℕ) (blank : Leg) → 0 < left → left ≤ length gs → left - 1 ≡ 0
    → IsOrigin k (start_of s (get_or gs (left - 1) blank).step)
    → steps_of_legs s gs ≡ (get_or gs (left - 1) blank).step ∷ steps_of_legs s (drop left gs)
legs_whole s k gs left blank some fits first origin = grind (arith, legs_back, some, waits_no)

-- ---- waits

-- the cell of a wait, by where the waits in its node begin
pub wait_cell : {w : Network} (n t first : ℕ) → IsNet w → n < w.site.shape.nodes → t ≤ w.site.shape.horizon → first ≡ hold_cell w.site.shape n 0
    → (first + t < length w.cells) × (first + t ≡ cell_of w.site (Hold n t))
unfolding cell_of hold_cell
wait_cell {w} n t first net node moment here =
    let same : first + t ≡ (length w.site.shape.ends + n) * (w.site.shape.horizon + 1) + t = omega (arith, here) in
    (omega (arith, same, cell_below w.site (Hold n t) (node, moment), net.full), same)

-- a cell of some waits one after another is that of a wait
pub wait_among : {w : Network} (n from to first i : ℕ) (d : Cell) → IsNet w → n < w.site.shape.nodes → to ≤ w.site.shape.horizon
    → first ≡ hold_cell w.site.shape n 0 → from + i < to
    → get_or (between (first + from) (first + to) w.cells) i d ≡ get_or w.cells (cell_of w.site (Hold n (from + i))) no_cell
wait_among {w} n from to first i d net node moment here lt = grind (arith, wait_cell, here, get_or-between, get_or_default)

-- how many cells some waits one after another have
pub wait_count : (w : Network) (first from to i : ℕ) → i < length (between (first + from) (first + to) w.cells) → from + i < to
wait_count w first from to i l = grind (arith, length-take)

pub wait_counted : (w : Network) (first from to i : ℕ) → first + to ≤ length w.cells → from + i < to → i < length (between (first + from) (first + to) w.cells)
wait_counted w first from to i fits l = omega (arith, l, length-between w.cells (first + from) (first + to) fits)

pub wait_first : (w : Network) (n first : ℕ) {x : Expansion} → first ≡ hold_cell x n 0 → x ≡ w.site.shape → first ≡ hold_cell w.site.shape n 0
wait_first w n first here same = here ∙ ap (λ (z : Expansion). hold_cell z n 0) same

wait_step : (w : Network) {n t : ℕ} → IsOpenPair w.site n t → 0 < residual_room w (wait_at n t) → IsStep w (wait_at n t) (Pair n t) (Pair n (t + 1))
wait_step w inside room = record { place = (inside.node, inside.moment); room = room; start = refl; inside = inside; stop = refl }

-- some pairs, and those of a node from one moment up to another
abbrev with_stay : (ℕ → ℕ → Type 0) → ℕ → ℕ → ℕ → ℕ → ℕ → Type 0
with_stay s n from past i t = s i t ⊎ ((i ≡ n) × (from ≤ t) × (t < past))

stay_longer : (s : ℕ → ℕ → Type 0) (n from past first last i t : ℕ) → first ≤ from → past ≤ last → with_stay s n from past i t → with_stay s n first last i t
stay_longer s n from past first last i t a b (inl h) = inl h
stay_longer s n from past first last i t a b (inr h) = inr (h.0, omega (arith, a, h.1), omega (arith, b, h.2))

not_in_stay : (s : ℕ → ℕ → Type 0) (n from past t : ℕ) → t < from → (s n t → ⊥) → with_stay s n from past n t → ⊥
not_in_stay s n from past t before off (inl h) = off h
not_in_stay s n from past t before off (inr h) = absurd (omega (arith, before, h.1))

-- waits in a node one after another
tail_waits : (c : ℕ) {w : Network} {k : ℕ} {s : ℕ → ℕ → Type 0} {n : ℕ} (t : ℕ) {to people : ℕ} (next : ℕ) {path : List PathStep} → t + c ≡ to → IsOpenPair w.site n to
    → IsTail w k s (Pair n to) people path → ((u : ℕ) → t ≤ u → u < to → s n u → ⊥)
    → ((u : ℕ) → t ≤ u → u < to → next ≤ residual_room w (wait_at n u)) → 1 ≤ next → next ≤ people
    → IsTail w k (with_stay s n t to) (Pair n t) next (waits_at n t c ++ path)
tail_waits zero {w} {k} {s} {n} t {to} next {path} same inside tail off room one few =
    let here : to ≡ t = omega (arith, same) in
    subst (λ z. IsTail w k (with_stay s n t to) (Pair n z) next path) here
    (tail_wider (with_stay s n t to) next tail (λ i u h. inl h) one few)
tail_waits (suc c) {w} {s} {n} t {to} next same inside tail off room one few =
    let rest = tail_waits c (t + 1) next (omega (arith, same)) inside tail (λ u l h. off u (omega (arith, l)) h)
    (λ u l h. room u (omega (arith, l)) h) one few in
    let here : next ≤ residual_room w (wait_at n t) = room t (omega arith) (omega (arith, same)) in
    let at_first : IsOpenPair w.site n t = record { node = inside.node; moment = omega (arith, same, inside.moment); no_exit = inside.no_exit } in
    tail_more (with_stay s n t to) (record { node = n; moment = t }) next rest (wait_step w at_first (omega (arith, one, here)))
    (not_in_stay s n (t + 1) to t (omega arith) (off t (omega arith) (omega (arith, same))))
    (λ i u h. stay_longer s n (t + 1) to t to i u (omega arith) (omega arith) h)
    (inr (refl, omega arith, omega (arith, same))) one (omega arith) here

-- a leg: its step, and the waits before it
tail_leg : {w : Network} {k : ℕ} {s : ℕ → ℕ → Type 0} {e : End} (g : Leg) {x y : Checked} {people : ℕ} {path : List PathStep}
    → IsTail w k s e people path → IsStep w g.step (Pair x.spot.node x.spot.moment) e → IsCheckedBack w g.since x y → 1 ≤ x.people → x.people ≤ people
    → x.people ≤ residual_room w g.step → ((u : ℕ) → y.spot.moment ≤ u → u ≤ x.spot.moment → s x.spot.node u → ⊥)
    → IsTail w k (with_stay s x.spot.node y.spot.moment (x.spot.moment + 1)) (Pair y.spot.node y.spot.moment) y.people (waits_of w.site g ++ g.step ∷ path)
tail_leg {w} {k} {s} g {x} {y} {people} {path} tail step back one few room off =
    let n = x.spot.node in
    let t = y.spot.moment in
    let to = x.spot.moment in
    let past = x.spot.moment + 1 in
    let some : 1 ≤ y.people = omega (arith, back.some (omega (arith, one))) in
    let first = tail_more (with_stay s n to past) x.spot x.people tail step (off to back.earlier (omega arith)) (λ i u h. inl h)
    (inr (refl, omega arith, omega arith)) one few room in
    let all = tail_waits (to - t) t y.people (omega (arith, back.earlier)) step.inside first
    (λ u a b. not_in_stay s n to past u b (off u a (omega (arith, b)))) back.room some back.fewer in
    let wide = tail_wider (with_stay s n t past) y.people all (λ i u h. both i u h) some (omega arith) in
    subst (λ (z : List PathStep). IsTail w k (with_stay s n t past) (Pair y.spot.node t) y.people (z ++ g.step ∷ path)) (sym (ap (λ (z : End). waits_to z g.since) step.start ∙ back.waits))
    (subst (λ (i : ℕ). IsTail w k (with_stay s n t past) (Pair i t) y.people (waits_at n t (to - t) ++ g.step ∷ path)) (sym back.node) wide)
  where
    both : (i u : ℕ) → with_stay (with_stay s x.spot.node x.spot.moment (x.spot.moment + 1)) x.spot.node y.spot.moment x.spot.moment i u
        → with_stay s x.spot.node y.spot.moment (x.spot.moment + 1) i u
    both i u (inl h) = stay_longer s x.spot.node x.spot.moment (x.spot.moment + 1) y.spot.moment (x.spot.moment + 1) i u back.earlier (omega arith) h
    both i u (inr h) = inr (h.0, h.1, omega (arith, h.2))

-- ---- the pairs that a path has come over

-- the moment of an end
abbrev pub moment_of : End → ℕ
moment_of Source = 0
moment_of (Pair n t) = t
moment_of (Door t) = t

-- a path that turns back has come over marked pairs, another over none before an end
abbrev pub IsOver : Bool → MarkTable → End → ℕ → ℕ → Type 0
IsOver true m e n t = is_marked m n t ≡ true
IsOver false m e n t = moment_of e ≤ t

exit_moment : (b : Bool) (n t : ℕ) → moment_of (cond b (Door t) (Pair n t)) ≡ t
exit_moment true n t = refl
exit_moment false n t = refl

-- a place leads to a later moment
rises : (s : Site) (p : Place) (n t : ℕ) → IsSite s → IsPlace s p → tail_of s p ≡ Pair n t → t < moment_of (head_of s p)
rises s (Arc a u) n t site place tail = grind (arith, exit_moment)
rises s (Hold m u) n t site place tail = let same : u ≡ t = cc in omega (arith, same)
rises s (Supply m u) n t site place tail = absurd (cc)

-- a step forwards begins before it stops
pub begins_before : {w : Network} {y : PathStep} (n t : ℕ) {e : End} → IsSite w.site → IsStep w y (Pair n t) e → y.back ≡ false → t < moment_of e
begins_before {w} {y} n t {e} site step forwards = grind (arith, rises)

-- a check that has gone back over a leg
pub leg_over : (turns : Bool) {w : Network} {k : ℕ} (m v : MarkTable) {e : End} (g : Leg) {x y : Checked} {people : ℕ} {path : List PathStep}
    → IsTail w k (IsOver turns m e) e people path → IsStep w g.step (Pair x.spot.node x.spot.moment) e → IsCheckedBack w g.since x y → 1 ≤ x.people
    → x.people ≤ people → x.people ≤ residual_room w g.step → (turns ≡ false → x.spot.moment < moment_of e)
    → (turns ≡ true → IsMarkedOver m v x.spot.node y.spot.moment (x.spot.moment + 1))
    → IsTail w k (IsOver turns v (Pair y.spot.node y.spot.moment)) (Pair y.spot.node y.spot.moment) y.people (waits_of w.site g ++ g.step ∷ path)
leg_over true m v {e} g {x} {y} {people} tail step back one few room falls marked =
    let new = marked refl in
    let leg = tail_leg g tail step back one few room (λ u a b h. true≢false (sym h ∙ new.fresh u a (omega (arith, b)))) in
    tail_wider (IsOver true v (Pair y.spot.node y.spot.moment)) y.people leg (λ i u h. now new i u h) leg.some (omega arith)
  where
    now : IsMarkedOver m v x.spot.node y.spot.moment (x.spot.moment + 1) → (i u : ℕ)
        → with_stay (IsOver true m e) x.spot.node y.spot.moment (x.spot.moment + 1) i u → is_marked v i u ≡ true
    now new i u (inl h) = new.others i u h
    now new i u (inr h) = subst (λ (z : ℕ). is_marked v z u ≡ true) (sym h.0) (new.here u h.1 h.2)
leg_over false m v {e} g {x} {y} {people} tail step back one few room falls marked =
    let before : x.spot.moment < moment_of e = falls refl in
    let leg = tail_leg g tail step back one few room (λ u a b h. absurd (omega (arith, before, b, h))) in
    tail_wider (IsOver false v (Pair y.spot.node y.spot.moment)) y.people leg (λ i u h. now before i u h) leg.some (omega arith)
  where
    now : x.spot.moment < moment_of e → (i u : ℕ) → with_stay (IsOver false m e) x.spot.node y.spot.moment (x.spot.moment + 1) i u → y.spot.moment ≤ u
    now before i u (inl h) = omega (arith, before, h, back.earlier)
    now before i u (inr h) = h.1

-- ---- marks

-- a node marked at one moment more
pub marked_more : {m v : MarkTable} (u : MarkTable) {n from t : ℕ} → IsMarks v → IsIn v n t → IsMarkedOver m v n from t → is_marked v n t ≡ false
    → u ≡ with_stamp v n t v.stamp → IsMarkedOver m u n from (t + 1)
marked_more {m} {v} u {n} {t} marks inside old off same = record {
  fresh = λ i a b. elim (cases_lt i t) [
    | inl before ↦ old.fresh i a before
    | inr after ↦ (let here : i ≡ t = omega (arith, b, after) in subst (λ (z : ℕ). is_marked m n z ≡ false) (sym here) (not_yet (cases_Bool (is_marked m n t))))
  ];
  here = λ i a b. elim (cases_lt i t) [
    | inl before ↦ stamped n i (marked_grows n i marks inside (old.here i a before))
    | inr after ↦ (let here : t ≡ i = omega (arith, b, after) in stamped n i (subst (λ (z : ℕ). is_marked (with_stamp v n t v.stamp) n z ≡ true) here (marked_here marks inside)))
  ];
  others = λ i j h. stamped i j (marked_grows i j marks inside (old.others i j h));
}
  where
    stamped : (i j : ℕ) → is_marked (with_stamp v n t v.stamp) i j ≡ true → is_marked u i j ≡ true
    stamped i j h = ap (λ (z : MarkTable). is_marked z i j) same ∙ h

    not_yet : (is_marked m n t ≡ true) ⊎ (is_marked m n t ≡ false) → is_marked m n t ≡ false
    not_yet (inl h) = absurd (true≢false (sym (old.others n t h) ∙ off))
    not_yet (inr h) = h

-- marks on the same nodes and moments with one more
pub marked_on : {m v u : MarkTable} (n t : ℕ) → IsMarkedOn m v → u ≡ with_stamp v n t v.stamp → IsMarks u → IsMarkedOn m u
marked_on n t on same marks = grind arith

pub marked_on_then : {m v u : MarkTable} → IsMarkedOn m v → IsMarkedOn v u → IsMarkedOn m u
marked_on_then a b = grind arith

-- a push along a path that was checked
pub carried_pushed : {w v : Network} (k : ℕ) {people : ℕ} {path : List PathStep} → IsNet v → IsWithinLimits v → 1 ≤ people → CarriesPeople w k path people
    → IsPushed w v path people → IsPushedOn w v k 1
carried_pushed k net within one carried pushed = pushed_on net within one carried.1 pushed
