-- The steps that follow the numbers lead out, no person leaves a node before coming there, and each visit has its number.
use Rattle.std.proofs.Common.{◌≡◌, ℕ, ◌+◌, ◌<◌, ◌≤◌, Bool, true, false, ◌&&◌, ◌||◌, eqb, List, [], ◌∷◌, length, refl, arith, subst}
use Rattle.std.specs.List.{All}
use Rattle.std.proofs.lemmas.Bool.{and_parts, eqb-true}
use Rattle.std.proofs.lemmas.Bool.Decides.{nat_tests}
use Rattle.std.proofs.lemmas.List.Elements.{All-cons, All-nil}
use Rattle.evac_law.specs.declared.model.Model.{Model}
use Rattle.evac_law.specs.declared.plan.Move.{Move}
use Rattle.evac_law.specs.Building.{arrival, capacity, head, is_exit_at, tail}
use Rattle.evac_law.specs.Plans.{came, left, moved}
use Rattle.evac_law.proofs.ValidLemmas.{arc_is, tail_in}
use Rattle.evac_law.proofs.WeakDuality.{within}
use Rattle.route_decompose.specs.declared.route.RouteStep.{RouteStep}
use Rattle.route_decompose.specs.Routes.{LeadsOut, enters}
use Rattle.cards.specs.Cards.{Visit, visits_from}
use Rattle.cards.specs.Laws.{IsEvacuation}
use Rattle.cards.specs.Numbers.{IsCountedAt, FollowsNumbers, number_on}
use Rattle.cards.proofs.Hits.{goes_on, uses}
use Rattle.cards.proofs.Moments.{leaves_later}
use Rattle.cards.proofs.Numbers.{Leaves, came_grows, comes_then, leaves_at}
use Rattle.cards.proofs.Ones.{one_if}
use Rattle.cards.proofs.Ranges.{AreInRange, none_late, none_past}

module _ (m : Model) (p : List Move) (h : IsEvacuation m p) where
  -- ---- no move is out of range

  in_range : AreInRange m p
  in_range = record { arcs = h.plan.feasible.arcs; in_time = h.in_time }

  pub arc_of : (a t : ℕ) → 0 < moved p a t → a < length m.arcs
  arc_of a t some = grind (arith, some, none_past m p in_range a t)

  pub moment_of : (a t : ℕ) → 0 < moved p a t → t ≤ m.horizon
  moment_of a t some = grind (arith, some, none_late m p in_range a t)

  -- by the horizon no more have left a node inside than came
  pub few_leave : (n t : ℕ) → n < length m.nodes → is_exit_at m n ≡ false → t ≤ m.horizon → left m p n t ≤ came m p n t
  few_leave n t i e l = (within m p n t (capacity m n) (h.plan.feasible.holds n t i e l)).0

  -- ---- who enters an arc at a moment has a number at its tail, and came by then

  pub tail_few : (a t i : ℕ) → Leaves m p h.plan.feasible.arcs a t i → left m p (tail m a) t ≤ came m p (tail m a) t
  tail_few a t i leaves = grind (arith, few_leave, tail_in, arc_is, moment_of)

  leaves_of : (n i : ℕ) (s : RouteStep) (steps : List RouteStep) → FollowsNumbers m p n i (s ∷ steps) → Leaves m p h.plan.feasible.arcs s.arc s.moment i
  leaves_of n i s steps f = record { arc_in = f.0; from = f.2; until = f.3 }

  left_then : (n i : ℕ) (s : RouteStep) (steps : List RouteStep) → FollowsNumbers m p n i (s ∷ steps) → IsCountedAt (left m p n) i s.moment
  left_then n i s steps f = subst (λ (x : ℕ). IsCountedAt (left m p x) i s.moment) f.1 (leaves_at m p h.plan.feasible.arcs s.arc s.moment i (leaves_of n i s steps f))

  came_then : (n i : ℕ) (s : RouteStep) (steps : List RouteStep) → FollowsNumbers m p n i (s ∷ steps)
      → IsCountedAt (came m p (head m s.arc)) (number_on m p s.arc s.moment i) (arrival m s.arc s.moment)
  came_then n i s steps f =
      comes_then m p h.plan.feasible.arcs s.arc (arrival m s.arc s.moment) (number_on m p s.arc s.moment i)
      (goes_on m p h.plan.feasible.arcs s.arc s.moment i (leaves_of n i s steps f))

  waits : (n i u : ℕ) (s : RouteStep) (steps : List RouteStep) → FollowsNumbers m p n i (s ∷ steps) → IsCountedAt (came m p n) i u → u ≤ s.moment
  waits n i u s steps f at =
      leaves_later (came m p n) (left m p n) i u s.moment (came_grows m p n)
      (subst (λ (x : ℕ). left m p x s.moment ≤ came m p x s.moment) f.1 (tail_few s.arc s.moment i (leaves_of n i s steps f))) at (left_then n i s steps f)

  pub leads : (n i u : ℕ) (steps : List RouteStep) → FollowsNumbers m p n i steps → IsCountedAt (came m p n) i u → LeadsOut m n u steps
  leads n i u [] f at = f
  leads n i u (s ∷ steps) f at = (
    f.0,
    f.1,
    waits n i u s steps f at,
    leads (head m s.arc) (number_on m p s.arc s.moment i) (arrival m s.arc s.moment) steps f.4 (came_then n i s steps f),
  )

  -- ---- visits

  pub record IsNumbered (v : Visit) : Type 0 where
    pub number : ℕ
    pub comes : IsCountedAt (came m p v.node) number v.comes
    pub leaves : IsCountedAt (left m p v.node) number v.leaves

  pub visits_numbered : (n i u : ℕ) (steps : List RouteStep) → FollowsNumbers m p n i steps → IsCountedAt (came m p n) i u → All IsNumbered (visits_from m n u steps)
  visits_numbered n i u [] f at = All-nil IsNumbered
  visits_numbered n i u (s ∷ steps) f at =
      All-cons IsNumbered (record { node = n; comes = u; leaves = s.moment }) (visits_from m (head m s.arc) (arrival m s.arc s.moment) steps)
      (record { number = i; comes = at; leaves = left_then n i s steps f })
      (visits_numbered (head m s.arc) (number_on m p s.arc s.moment i) (arrival m s.arc s.moment) steps f.4 (came_then n i s steps f))

  -- ---- a card enters an arc at a moment at most once

  used_before : (a t n u : ℕ) (steps : List RouteStep) → LeadsOut m n u steps → t < u → uses m p h.plan.feasible.arcs a t steps ≡ 0
  used_before a t n u [] f l = refl
  used_before a t n u (s ∷ steps) f l =
      let late = f.2 in
      omega (arith, other s.moment late, used_before a t (head m s.arc) (arrival m s.arc s.moment) steps f.3 (omega (arith, l, late)))
    where
      other : (x : ℕ) → u ≤ x → one_if (eqb s.arc a && eqb x t) ≡ 0
      other x late = grind (arith, nat_tests)

  by_first : (b rest : Bool) (k : ℕ) → (b ≡ true → k ≡ 0) → one_if rest ≡ k → one_if (b || rest) ≡ one_if b + k
  by_first b rest k f e = grind arith

  pub enters_are : (a t n u : ℕ) (steps : List RouteStep) → LeadsOut m n u steps → one_if (enters steps a t) ≡ uses m p h.plan.feasible.arcs a t steps
  enters_are a t n u [] f = refl
  enters_are a t n u (s ∷ steps) f =
      by_first (eqb s.arc a && eqb s.moment t) (enters steps a t) (uses m p h.plan.feasible.arcs a t steps)
      (λ e. used_before a t (head m s.arc) (arrival m s.arc s.moment) steps f.3
      (omega (arith, eqb-true s.moment t (and_parts (eqb s.arc a) (eqb s.moment t) e).1, (arc_is m s.arc h.valid f.0).travel_fits.0)))
      (enters_are a t (head m s.arc) (arrival m s.arc s.moment) steps f.3)
