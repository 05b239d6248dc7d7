-- Pushes one step after another.
use Rattle.std.proofs.Common.{◌≡◌, ◌≢◌, ℕ, zero, suc, ◌+◌, ◌-◌, ◌<◌, ◌≤◌, Bool, true, false, cond, not, ◌&&◌, eqb, List, [], ◌∷◌, ◌++◌, length, take, get_or, refl, ap, sym, ◌∙◌, arith, subst, inl, inr, ◌⊎◌}
use Rattle.std.specs.List.{All, AllPairs, sum_by}
use Rattle.evac_law.proofs.SumLemmas.{cond_le, cond_mono, sum_by-nothing, sum_by-same_all}
use Rattle.std.proofs.lemmas.List.{get_or-take, get_or_default, length-take, take_more}
use Rattle.std.proofs.lemmas.List.Sums.{sum_by-cons, sum_by-append}
use Rattle.std.proofs.lemmas.List.Elements.{All-head, All-tail, All-weaker}
use Rattle.std.proofs.lemmas.Bool.{and_right, cases_Bool}
use Rattle.residual_net.specs.declared.place.Place.{Place}
use Rattle.residual_net.specs.declared.place.PathStep.{PathStep}
use Rattle.residual_net.specs.declared.place.Cell.{Cell}
use Rattle.residual_net.specs.Limits.{supply_limit}
use Rattle.residual_net.specs.declared.end.End.{End}
use Rattle.residual_net.specs.declared.end.End.TheVariants.{Door}
use Rattle.residual_net.specs.Site.{Site, IsPlace, start_of, stop_of, head_of, tail_of, at, is_source, is_door, is_barred, same_place, cell_of}
use Rattle.residual_net.specs.Network.{Network, IsGrid, IsNet, IsWithinLimits, supply_limits, flow_into, flow_out, flow_at, limit_at, residual_room, with_cell}
use Rattle.residual_net.specs.Change.{IsLimitSet}
use Rattle.residual_net.specs.Route.{IsPushed, IsPushable, IsOrigin, Leads, added, taken}
use Rattle.residual_net.proofs.Places.{cell_below, cell_written, place-same, same-place, sum_places-le, sum_places-same}
use Rattle.residual_net.proofs.Push.{still_conserved}

pub cell_in : (w : Network) (p : Place) → IsGrid w → IsPlace w.site p → cell_of w.site p < length w.cells
cell_in w p g i = omega (arith, g.full, cell_below w.site p i)

-- another cell at a place, and what it says there and elsewhere
at_cell : (f : Cell → ℕ) (b : Bool) (x y : Cell) → f (cond b x y) ≡ cond b (f x) (f y)
at_cell f true x y = refl
at_cell f false x y = refl

pub flow-with_cell : (w : Network) (p q : Place) (c : Cell) → IsGrid w → IsPlace w.site p → IsPlace w.site q
    → flow_at (with_cell w p c) q ≡ cond (same_place p q) c.flow (flow_at w q)
unfolding flow_at
flow-with_cell w p q c g i j = grind (arith, cell_written, at_cell)

pub limit-with_cell : (w : Network) (p q : Place) (c : Cell) → IsGrid w → IsPlace w.site p → IsPlace w.site q
    → limit_at (with_cell w p c) q ≡ cond (same_place p q) c.limit (limit_at w q)
unfolding limit_at
limit-with_cell w p q c g i j = grind (arith, cell_written, at_cell)

one_flow : (b back : Bool) (x flow was now : ℕ) → (b ≡ true → flow ≡ was) → (back ≡ false → now ≡ flow + x) → (back ≡ true → now + x ≡ flow)
    → cond b now was + cond (back && b) x 0 ≡ was + cond (not back && b) x 0
one_flow b back x flow was now h i j = grind arith

one_limit : (b : Bool) (old was now : ℕ) → (b ≡ true → old ≡ was) → now ≡ old → cond b now was ≡ was
one_limit b old was now h e = grind arith

-- a push over one step
pub push_one : (w : Network) (r : PathStep) (x : ℕ) (c : Cell) → IsGrid w → IsPlace w.site r.place
    → (r.back ≡ false → c.flow ≡ flow_at w r.place + x) → (r.back ≡ true → c.flow + x ≡ flow_at w r.place) → c.limit ≡ limit_at w r.place
    → IsPushed w (with_cell w r.place c) (r ∷ []) x
unfolding added taken
push_one w r x c g i on back limit = grind (arith, limit-with_cell, one_limit, same-place, one_flow, flow-with_cell)

-- another limit at one place
pub limit_set : (w : Network) (p : Place) (c : Cell) → IsGrid w → IsPlace w.site p → c.flow ≡ flow_at w p → IsLimitSet w (with_cell w p c) p c.limit
limit_set w p c g i same = grind (arith, flow-with_cell, one_limit, same-place, limit-with_cell)

-- one push and then another
pub push_then : (w u v : Network) (p q : List PathStep) (x : ℕ) → IsPushed w u p x → IsPushed u v q x → IsPushed w v (p ++ q) x
unfolding added taken
push_then w u v p q x a b = grind (arith, sum_by-append)

pub push_none : (w : Network) (x : ℕ) → IsPushed w w [] x
unfolding added taken
push_none w x = record { site = refl; saved = refl; limits = λ p i. refl; flows = λ p i. refl }

-- ---- paths that visit no place twice

-- steps that fail a test bring nothing
pub steps_none : (b : PathStep → Bool) (x : ℕ) (rs : List PathStep) → All (λ r. b r ≡ false) rs → sum_by (λ r. cond (b r) x 0) rs ≡ 0
steps_none b x rs a =
    sum_by-same_all (λ r. cond (b r) x 0) (λ _. 0) rs
    (All-weaker (λ r. b r ≡ false) (λ r. cond (b r) x 0 ≡ 0) (λ r e. ap (λ z. cond z x 0) e) rs a)
    ∙ sum_by-nothing rs

elsewhere : (b : Bool) (p q : Place) → p ≢ q → (b && same_place p q) ≡ false
elsewhere b p q h = elim (cases_Bool (same_place p q)) [ inl e ↦ absurd (h (same-place p q e)) | inr e ↦ and_right b (same_place p q) e ]

-- what a path leaves at a place that it doesn't visit
none_there : (b : PathStep → Bool) (x : ℕ) (p : Place) (rs : List PathStep) → All (λ r. r.place ≢ p) rs
    → sum_by (λ r. cond (b r && same_place r.place p) x 0) rs ≡ 0
none_there b x p rs a =
    steps_none (λ r. b r && same_place r.place p) x rs
    (All-weaker (λ (r : PathStep). r.place ≢ p) (λ r. (b r && same_place r.place p) ≡ false) (λ r h. elsewhere (b r) r.place p h) rs a)

pub added_none : (rs : List PathStep) (x : ℕ) (p : Place) → All (λ r. r.place ≢ p) rs → added rs x p ≡ 0
unfolding added
added_none rs x p a = none_there (λ r. not r.back) x p rs a

pub taken_none : (rs : List PathStep) (x : ℕ) (p : Place) → All (λ r. r.place ≢ p) rs → taken rs x p ≡ 0
unfolding taken
taken_none rs x p a = none_there (λ r. r.back) x p rs a

-- a path forwards adds the people to each of its places
pub added_on : (path : List PathStep) (x i : ℕ) (d : PathStep) → All (λ r. r.back ≡ false) path → i < length path → x ≤ added path x (get_or path i d).place
unfolding added
added_on [] x i d a l = absurd (omega (arith, l))
added_on (r ∷ rs) x zero d a l =
    let on : r.back ≡ false = All-head (λ (r : PathStep). r.back ≡ false) r rs a in
    let here : cond (not r.back && same_place r.place r.place) x 0 ≡ x = rw (on, place-same r.place) refl in
    omega (arith, sum_by-cons (λ (y : PathStep). cond (not y.back && same_place y.place r.place) x 0) r rs, here)
added_on (r ∷ rs) x (suc i) d a l =
    let p = (get_or rs i d).place in
    let rest = added_on rs x i d (All-tail (λ (r : PathStep). r.back ≡ false) r rs a) (omega (arith, l)) in
    omega (arith, sum_by-cons (λ (y : PathStep). cond (not y.back && same_place y.place p) x 0) r rs, rest)

-- and to no other
pub added_some : (path : List PathStep) (x : ℕ) (p : Place) → 0 < added path x p
    → (i : ℕ) × (r : PathStep) × (i < length path) × (get_or path i r ≡ r) × (r.place ≡ p)
unfolding added
added_some [] x p some = absurd (omega (arith, some))
added_some (r ∷ rs) x p some = elim (cases_Bool (same_place r.place p)) [
  | inl e ↦ (0, r, omega arith, refl, same-place r.place p e)
  | inr e ↦
      let none : cond (not r.back && same_place r.place p) x 0 ≡ 0 = ap (λ z. cond z x 0) (and_right (not r.back) (same_place r.place p) e) in
      let more : 0 < added rs x p = omega (arith, some, sum_by-cons (λ (y : PathStep). cond (not y.back && same_place y.place p) x 0) r rs, none) in
      let rest = added_some rs x p more in
      (suc rest.0, rest.1, omega (arith, rest.2), rest.3, rest.4)
]

pub apart-cons : (r : PathStep) (rs : List PathStep) → AllPairs (λ x y. x.place ≢ y.place) (r ∷ rs)
    → All (λ y. y.place ≢ r.place) rs × AllPairs (λ x y. x.place ≢ y.place) rs
apart-cons r rs a = (
  (λ i d l e. a zero (suc i) d (omega arith) (omega (arith, l)) (sym e)),
  (λ i j d l h. a (suc i) (suc j) d (omega (arith, l)) (omega (arith, h))),
)

-- what a path adds to a place is within the room there
fits_one : (b back : Bool) (x flow limit room rest : ℕ) → flow ≤ limit → room ≡ cond back flow (limit - flow) → x ≤ room → (b ≡ true → rest ≡ 0)
    → (flow + rest ≤ limit) → flow + (cond (not back && b) x 0 + rest) ≤ limit
fits_one b back x flow limit room rest h i j k m = grind arith

pub added_fits : (w : Network) (rs : List PathStep) (x : ℕ) (p : Place) → flow_at w p ≤ limit_at w p → All (λ r. x ≤ residual_room w r) rs
    → AllPairs (λ y z. y.place ≢ z.place) rs → flow_at w p + added rs x p ≤ limit_at w p
unfolding added
added_fits w [] x p h a b = omega (arith, h)
added_fits w (r ∷ rs) x p h a b =
    let apart = apart-cons r rs b in
    let rest = added_fits w rs x p h (All-tail (λ (r : PathStep). x ≤ residual_room w r) r rs a) apart.1 in
    let none : same_place r.place p ≡ true → added rs x p ≡ 0 =
    λ e. added_none rs x p (subst (λ q. All (λ (y : PathStep). y.place ≢ q) rs) (same-place r.place p e) apart.0) in
    let room : x ≤ residual_room w r = All-head (λ (r : PathStep). x ≤ residual_room w r) r rs a in
    omega (
      arith,
      sum_by-cons (λ (y : PathStep). cond (not y.back && same_place y.place p) x 0) r rs,
      at_place (cases_Bool (same_place r.place p)) none rest room,
    )
  where
    at_place : (same_place r.place p ≡ true) ⊎ (same_place r.place p ≡ false) → (same_place r.place p ≡ true → added rs x p ≡ 0)
        → flow_at w p + added rs x p ≤ limit_at w p → x ≤ residual_room w r
        → flow_at w p + (cond (not r.back && same_place r.place p) x 0 + added rs x p) ≤ limit_at w p
    at_place (inl e) none rest room =
        let same = same-place r.place p e in
        fits_one (same_place r.place p) r.back x (flow_at w p) (limit_at w p) (residual_room w r) (added rs x p) h
        (ap (λ q. cond r.back (flow_at w q) (limit_at w q - flow_at w q)) same) room none rest
    at_place (inr e) none rest room = omega (arith, rest, ap (λ z. cond z x 0) (and_right (not r.back) (same_place r.place p) e))

-- a step of a path meets what it needs when the steps before it have been gone over
pub apart_before : (path : List PathStep) (i : ℕ) (d : PathStep) → AllPairs (λ y z. y.place ≢ z.place) path → i < length path
    → All (λ y. y.place ≢ (get_or path i d).place) (take i path)
apart_before path i d a l j e h =
    let short : j < i = omega (arith, h, length-take i path) in
    let here : get_or (take i path) j e ≡ get_or path j e = get_or-take i path j e short in
    let there : get_or path i e ≡ get_or path i d = get_or_default path i e d l in
    rw (here, ← there) (a j i e short l)

pub step_place : (w u : Network) (path : List PathStep) (x i : ℕ) (d : PathStep) → IsPushable w path x → IsPushed w u (take i path) x → i < length path
    → IsPlace u.site (get_or path i d).place
step_place w u path x i d p h l = subst (λ s. IsPlace s (get_or path i d).place) (sym h.site) (p.2.places i d l)

pub step_room : (w u : Network) (path : List PathStep) (x i : ℕ) (d : PathStep) → IsPushable w path x → IsPushed w u (take i path) x → i < length path
    → x ≤ residual_room u (get_or path i d)
step_room w u path x i d p h l = grind (arith, apart_before, added_none, taken_none)

pub push_more : (w u v : Network) (path : List PathStep) (x i : ℕ) (d : PathStep) → IsPushed w u (take i path) x → IsPushed u v (get_or path i d ∷ []) x
    → i < length path → IsPushed w v (take (i + 1) path) x
push_more w u v path x i d a b l = rw (take_more path i d l) (push_then w u v (take i path) (get_or path i d ∷ []) x a b)

-- ---- what a push keeps

pub within_pushed : (w v : Network) (path : List PathStep) (x : ℕ) → IsWithinLimits w → IsPushable w path x → IsPushed w v path x → IsWithinLimits v
within_pushed w v path x h p a q i = grind (arith, added_fits)

pub same_supplies : (w v : Network) → v.site ≡ w.site → ((p : Place) → IsPlace w.site p → limit_at v p ≡ limit_at w p) → supply_limits v ≡ supply_limits w
unfolding supply_limits
same_supplies w v e h = grind (arith, sum_places-same)

pub sent_fits : (w : Network) → IsWithinLimits w → flow_out w is_source ≤ supply_limits w
unfolding flow_out supply_limits
sent_fits w h = sum_places-le w.site _ _ (λ p i. cond_mono (is_source (tail_of w.site p)) (flow_at w p) (limit_at w p) (λ _. h p i))

pub net_pushed : (w v : Network) (path : List PathStep) (x : ℕ) → IsNet w → IsWithinLimits w → IsPushable w path x → IsPushed w v path x → IsGrid v
    → IsNet v
net_pushed w v path x n h p a g =
    let within = within_pushed w v path x h p a in
    let same = same_supplies w v a.site a.limits in
    let sent = sent_fits v within in record {
      site = g.site;
      full = g.full;
      conserved = still_conserved w v path x a p.2.places p.0 p.1 p.2.origin p.2.leads n.conserved;
      barred = λ q i b.
          let place : IsPlace w.site q = subst (λ s. IsPlace s q) a.site i in
          let was = n.barred q place (subst (λ s. is_barred s q ≡ true) a.site b) in
          let limit = a.limits q place in
          (omega (arith, within q i, limit, was.1), omega (arith, limit, was.1));
      supplies = omega (arith, same, n.supplies);
      few_sent = omega (arith, sent, same, n.supplies);
    }

door_le : (w : Network) (j : ℕ) → flow_into w (at (Door j)) ≤ flow_into w is_door
unfolding flow_into
door_le w j = sum_places-le w.site _ _ (λ p i. less (head_of w.site p) (flow_at w p))
  where
    less : (e : End) (f : ℕ) → cond (at (Door j) e) f 0 ≤ cond (is_door e) f 0
    less (Door t) f = cond_le (eqb j t) f
    less _ f = omega arith

-- no arrival passes the limit on people
pub few_arrive : (w : Network) (j : ℕ) → IsNet w → flow_into w (at (Door j)) ≤ supply_limit
few_arrive w j n = omega (arith, door_le w j, n.conserved.sent, n.few_sent)

-- ---- the ends of a path

pub path_some : (w : Network) (path : List PathStep) (x : ℕ) → IsPushable w path x → 0 < length path
path_some w [] x p = absurd (omega (arith, subst (λ e. IsOrigin p.1 e) p.2.leads p.2.origin))
path_some w (r ∷ rs) x p = omega arith

pub first_start : (s : Site) (e f : End) (path : List PathStep) (d : PathStep) → Leads s e path f → 0 < length path → start_of s (get_or path 0 d) ≡ e
first_start s e f [] d h l = absurd (omega (arith, l))
first_start s e f (r ∷ rs) d h l = h.0

pub last_stop : (s : Site) (e f : End) (path : List PathStep) (d : PathStep) → Leads s e path f → 0 < length path
    → stop_of s (get_or path (length path - 1) d) ≡ f
last_stop s e f [] d h l = absurd (omega (arith, l))
last_stop s e f (r ∷ []) d h l = h.1
last_stop s e f (r ∷ (q ∷ rs)) d h l =
    let more : length (r ∷ (q ∷ rs)) - 1 ≡ suc (length (q ∷ rs) - 1) = omega arith in
    rw more (last_stop s (stop_of s r) f (q ∷ rs) d h.1 (omega arith))
