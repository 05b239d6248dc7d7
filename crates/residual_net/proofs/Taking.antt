-- People taken off a flow path.
use Rattle.std.proofs.Common.{◌≡◌, ℕ, ◌+◌, ◌-◌, ◌<◌, ◌≤◌, true, false, cond, not, ◌&&◌, eqb, leb, List, [], ◌∷◌, length, take, get_or, refl, ap, sym, ◌∙◌, arith, subst}
use Rattle.std.specs.List.{sum_by, All}
use Rattle.std.proofs.lemmas.List.{take_more}
use Rattle.std.proofs.lemmas.List.Sums.{sum_by-cons, sum_by-append}
use Rattle.std.proofs.lemmas.List.Elements.{All-weaker}
use Rattle.residual_net.specs.declared.place.Place.{Place}
use Rattle.residual_net.specs.declared.place.PathStep.{PathStep}
use Rattle.residual_net.specs.Site.{Site, IsPlace, at, head_of, is_barred, is_source, same_place}
use Rattle.residual_net.specs.declared.end.End.{End}
use Rattle.residual_net.specs.declared.end.End.TheVariants.{Source, Door}
use Rattle.residual_net.specs.Network.{Network, IsGrid, IsNet, IsStored, arrived_by, flow_at, flow_into, flow_out}
use Rattle.residual_net.specs.Route.{IsPushed, Leads, added, taken}
use Rattle.residual_net.specs.Change.{IsFewerBy, IsFlowPath, IsLowering, IsTakeable, IsTaken}
use Rattle.residual_net.proofs.Push.{arrivals_moved, arrived_moved, balance, into_source, was_conserved}
use Rattle.residual_net.proofs.Steps.{added_none, apart_before, last_stop, same_supplies, steps_none}
use Rattle.residual_net.proofs.Arrivals.{into_door, stored_counted, told_door, told_people}

abbrev back_over : PathStep → PathStep
back_over r = record { place = r.place; back = true }

pub taken_nothing : (w : Network) (x : ℕ) → IsTaken w w [] x
unfolding added
taken_nothing w x = record { site = refl; saved = refl; limits = λ q i. refl; flows = λ q i. omega arith }

pub take_room : (w u : Network) (path : List PathStep) (x i : ℕ) (d : PathStep) → IsTakeable w path x → IsTaken w u (take i path) x → i < length path
    → x ≤ flow_at u (get_or path i d).place
take_room w u path x i d p h l = grind (arith, added_none, apart_before)

pub take_step : (w u v : Network) (path : List PathStep) (x i : ℕ) (d : PathStep) → IsTakeable w path x → IsTaken w u (take i path) x
    → IsPushed u v (back_over (get_or path i d) ∷ []) x → i < length path → IsTaken w v (take (i + 1) path) x
unfolding added taken
take_step w u v path x i d p a b l =
    let r = get_or path i d in
    let on : r.back ≡ false = p.arrives.1.forwards i d l in
    record {
      site = b.site ∙ a.site;
      saved = b.saved ∙ a.saved;
      limits = λ q j. b.limits q (subst (λ (s : Site). IsPlace s q) (sym a.site) j) ∙ a.limits q j;
      flows = λ q j.
          let more = ap (λ z. sum_by (λ (y : PathStep). cond (not y.back && same_place y.place q) x 0) z) (take_more path i d l)
          ∙ sum_by-append (λ (y : PathStep). cond (not y.back && same_place y.place q) x 0) (take i path) (r ∷ []) in
          let one = sum_by-cons (λ (y : PathStep). cond (not y.back && same_place y.place q) x 0) r [] in
          let here : cond (not r.back && same_place r.place q) x 0 ≡ cond (same_place r.place q) x 0 = ap (λ z. cond (not z && same_place r.place q) x 0) on in
          let off = sum_by-cons (λ (y : PathStep). cond (y.back && same_place y.place q) x 0) (back_over r) [] in
          let none = sum_by-cons (λ (y : PathStep). cond (not y.back && same_place y.place q) x 0) (back_over r) [] in
          omega (arith, more, one, here, off, none, a.flows q j, b.flows q (subst (λ (s : Site). IsPlace s q) (sym a.site) j));
    }

-- ---- what stands afterwards

taken_forward : (path : List PathStep) (x : ℕ) (q : Place) → All (λ r. r.back ≡ false) path → taken path x q ≡ 0
unfolding taken
taken_forward path x q a =
    steps_none (λ (r : PathStep). r.back && same_place r.place q) x path
    (All-weaker (λ (r : PathStep). r.back ≡ false) (λ (r : PathStep). (r.back && same_place r.place q) ≡ false) (λ r e. ap (λ z. z && same_place r.place q) e) path a)

-- a push along the path would give the old net back
pub undone : (w v : Network) (path : List PathStep) (x : ℕ) → IsTaken w v path x → All (λ r. r.back ≡ false) path → IsPushed v w path x
undone w v path x a on = grind (arith, taken_forward)

module _ (w v : Network) (path : List PathStep) (x k : ℕ) (a : IsTaken w v path x) (flow : IsFlowPath w.site path k) where
  back : IsPushed v w path x
  back = undone w v path x a flow.forwards

  places_after : All (λ r. IsPlace v.site r.place) path
  places_after = λ i d l. subst (λ (s : Site). IsPlace s (get_or path i d).place) (sym a.site) (flow.places i d l)

  leads_after : Leads v.site Source path (Door k)
  leads_after = subst (λ (s : Site). Leads s Source path (Door k)) (sym a.site) flow.leads

  -- those sent, and the arrivals at the path's last moment and by it, fall by the people
  pub sent_falls : flow_out v is_source + x ≡ flow_out w is_source
  sent_falls = omega (arith, balance v w path x back places_after is_source Source (Door k) leads_after, into_source v, into_source w)

  pub arrivals_fall : (j : ℕ) → flow_into v (at (Door j)) + cond (eqb j k) x 0 ≡ flow_into w (at (Door j))
  arrivals_fall j = omega (arith, arrivals_moved v w path x back places_after Source k tt leads_after j)

  pub arrived_falls : (j : ℕ) → arrived_by v j + cond (leb k j) x 0 ≡ arrived_by w j
  arrived_falls j = omega (arith, arrived_moved v w path x back places_after Source k tt leads_after j)

  pub net_taken : IsNet w → IsGrid v → IsNet v
  net_taken net grid =
      let same = same_supplies v w back.site back.limits in
      record {
        site = grid.site;
        full = grid.full;
        conserved = was_conserved v w path x back places_after Source k tt leads_after net.conserved;
        barred = λ q i b.
            let in_w : IsPlace w.site q = subst (λ (s : Site). IsPlace s q) a.site i in
            let was = net.barred q in_w (subst (λ (s : Site). is_barred s q ≡ true) a.site b) in
            (omega (arith, a.flows q in_w, was.0), a.limits q in_w ∙ was.1);
        supplies = omega (arith, same, net.supplies);
        few_sent = omega (arith, sent_falls, net.few_sent);
      }

-- ---- the arrivals of a cancel

module _ {v : Network} {arrivals : List ℕ} {path : List PathStep} {x : ℕ} (d : PathStep) (h : IsLowering v arrivals path x) where
  abbrev last : PathStep
  last = get_or path (length path - 1) d

  some : 0 < length path
  some = lead_some path h.takeable.arrives.1.leads
    where
      lead_some : (path : List PathStep) → Leads h.before.site Source path (Door h.takeable.arrives.0) → 0 < length path
      lead_some [] l = absurd (cc)
      lead_some (r ∷ path) l = omega arith

  place : IsPlace h.before.site last.place
  place = h.takeable.arrives.1.places (length path - 1) d (omega (arith, some))

  last_head : head_of h.before.site last.place ≡ Door h.takeable.arrives.0
  last_head = (into_door h.before.site last h.takeable.arrives.0 (last_stop h.before.site Source (Door h.takeable.arrives.0) path d h.takeable.arrives.1.leads some)).1

  module _ {from : End} (a : from ≡ head_of v.site last.place) where
    last_is : head_of h.before.site last.place ≡ from
    last_is = sym (a ∙ ap (λ z. head_of z last.place) h.taken.site)

    pub can_lower : (j : ℕ) → from ≡ Door j → (j < length arrivals) × (x ≤ get_or arrivals j 0)
    can_lower j e = grind (arith, some, told_door, place, last_is, told_people)

    stops : (j : ℕ) → eqb j h.takeable.arrives.0 ≡ at (Door j) from
    stops j = ap (at (Door j)) (sym last_head ∙ last_is)

    pub stored_taken : {new : List ℕ} → IsFewerBy new arrivals from x → IsStored v new
    stored_taken {new} n =
        stored_counted h.before v arrivals new new from Source x h.stored (net_taken h.before v path x h.takeable.arrives.0 h.taken h.takeable.arrives.1 h.stored.net h.grid)
        h.taken.site n (record { length_same = refl; each = λ j. omega arith })
        (λ j. omega (arith, arrivals_fall h.before v path x h.takeable.arrives.0 h.taken h.takeable.arrives.1 j, ap (λ z. cond z x 0) (stops j)))
