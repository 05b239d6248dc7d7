-- What is known of a route that is handed out, and that fewer people wait after each.
use Rattle.std.proofs.Common.{◌≡◌, ℕ, ◌+◌, ◌<◌, ◌≤◌, ◌&&◌, Bool, true, cond, eqb, ltb, List, [], ◌∷◌, length, ◌∙◌, arith, subst}
use Rattle.std.specs.List.{All}
use Rattle.std.proofs.lemmas.List.Elements.{All-cons, All-nil}
use Rattle.std.proofs.lemmas.Bool.{cases_lt, lt-ltb}
use Rattle.std.proofs.lemmas.Bool.Decides.{nat_tests}
use Rattle.evac_law.specs.declared.model.Model.{Model}
use Rattle.evac_law.specs.declared.plan.Move.{Move}
use Rattle.evac_law.specs.Building.{IsValid, arrival, entry, head}
use Rattle.evac_law.proofs.Entries.{none_late}
use Rattle.evac_law.proofs.SumLemmas.{gather_one, sum2, sum2-add, sum2-same}
use Rattle.evac_law.proofs.ValidLemmas.{tail_in}
use Rattle.route_decompose.specs.declared.route.RouteStep.{RouteStep}
use Rattle.route_decompose.specs.Routes.{begins, HandsOut, IsRoute, LeadsOut, RouteView, RoutesView, waiting_at}
use Rattle.route_decompose.proofs.Given.{IsGiven}

-- the arcs of the steps are of the model
pub steps_are : (m : Model) (n t : ℕ) (steps : List RouteStep) → LeadsOut m n t steps → All (λ (s : RouteStep). s.arc < length m.arcs) steps
steps_are m n t [] h = All-nil (λ (s : RouteStep). s.arc < length m.arcs)
steps_are m n t (s ∷ steps) h =
    All-cons (λ (v : RouteStep). v.arc < length m.arcs) s steps h.0 (steps_are m (head m s.arc) (arrival m s.arc s.moment) steps h.3)

leads_in : (m : Model) (n t : ℕ) (steps : List RouteStep) → IsValid m → 1 ≤ length steps → LeadsOut m n t steps → n < length m.nodes
leads_in m n t [] valid some h = absurd (omega (arith, some))
leads_in m n t (s ∷ steps) valid some h = let inside = tail_in m s.arc valid h.0 in omega (arith, inside, h.1)

-- a route begins in a node of the model
pub start_in : (m : Model) (r : RouteView) → IsValid m → IsRoute m r → r.start < length m.nodes
start_in m r valid h = leads_in m r.start r.entered r.steps valid h.some_step h.leads_out

entry_by : (m : Model) (n t : ℕ) → IsValid m → 0 < entry m n t → t ≤ m.horizon
entry_by m n t valid some = grind (arith, cases_lt, none_late)

-- the people who wait
abbrev pub all_waiting : Model → RoutesView → ℕ
all_waiting m w = sum2 (length m.nodes) (m.horizon + 1) (waiting_at w)

in_time : (b : Bool) (w : ℕ) → b ≡ true → cond (b && true) w 0 ≡ w
in_time b w e = grind arith

pub fewer_waiting : (m : Model) (p : List Move) (routes : List RouteView) (w v : RoutesView) → IsValid m → IsGiven m p routes w → HandsOut w v
    → all_waiting m v + 1 ≤ all_waiting m w
fewer_waiting m p routes w v valid given out =
    let r = v.route in
    let n = length m.nodes in
    let k = m.horizon + 1 in
    let right : IsRoute m r = let P : Model → Type 0 = λ x. IsRoute x r in subst P given.same_model out.right in
    let here : waiting_at v r.start r.entered + cond (begins r r.start r.entered) r.people 0 ≡ waiting_at w r.start r.entered = out.fewer_wait r.start r.entered in
    let some : 0 < entry m r.start r.entered = omega (arith, right.somebody, here, here_begins r.start r.entered r.people, given.starts r.start r.entered) in
    let in_horizon : r.entered ≤ m.horizon = entry_by m r.start r.entered valid some in
    let those : sum2 n k (λ i j. cond (begins r i j) r.people 0) ≡ r.people =
    gather_one (λ _ _. true) r.people r.start r.entered n k (start_in m r valid right) ∙ in_time (ltb r.entered k) r.people (lt-ltb r.entered k (omega (arith, in_horizon))) in
    let all : sum2 n k (λ i j. waiting_at v i j + cond (begins r i j) r.people 0) ≡ all_waiting m w = sum2-same n k _ _ out.fewer_wait in
    omega (arith, those, all, sum2-add n k (waiting_at v) (λ i j. cond (begins r i j) r.people 0), right.somebody)
  where
    here_begins : (n t p : ℕ) → cond (eqb n n && eqb t t) p 0 ≡ p
    here_begins n t p = grind (arith, nat_tests)
