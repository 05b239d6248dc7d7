-- How often a person's steps come by a number at a node, and how often they enter an arc at a moment.
use Rattle.std.proofs.Common.{◌≡◌, ℕ, ◌+◌, ◌-◌, ◌<◌, true, false, cond, ◌&&◌, eqb, leb, ltb, List, [], ◌∷◌, length, refl, ap, ap₂, sym, ◌∙◌, arith, subst}
use Rattle.std.specs.List.{All, sum_by}
use Rattle.std.proofs.lemmas.Bool.{and_parts, and_from, eqb-true, eq-eqb, le-leb, leb-true, ltb-true, lt-ltb, both_ways}
use Rattle.evac_law.specs.declared.model.Model.{Model}
use Rattle.evac_law.specs.declared.plan.Move.{Move}
use Rattle.evac_law.specs.Building.{arrival, head, is_exit_at, tail}
use Rattle.evac_law.specs.Plans.{moved}
use Rattle.evac_law.specs.Sums.{below}
use Rattle.evac_law.proofs.SumLemmas.{pair_same, same_pair, sum_by-add, sum_by-nothing}
use Rattle.route_decompose.specs.declared.route.RouteStep.{RouteStep}
use Rattle.cards.specs.Numbers.{FollowsNumbers, brought, comers_before, leavers_before, number_on}
use Rattle.cards.proofs.Numbers.{Comes, Enters, Leaves, apart, brought_is, one_comer, one_leaver}
use Rattle.cards.proofs.Ones.{count_between, none_count, one_if, same_count}

module _ (m : Model) (p : List Move) (arcs : All (λ (v : Move). v.arc < length m.arcs) p) where
  -- whoever enters an arc comes out of it with the next number
  pub goes_on : (a t i : ℕ) → Leaves m p arcs a t i → Comes m p arcs a (arrival m a t) (number_on m p a t i)
  goes_on a t i h = grind (arith, brought_is)

  -- the number with which somebody entered an arc at t, who comes out of it with number k at s
  pub record Entered (a t s k i : ℕ) : Type 0 where
    pub arrives : arrival m a t ≡ s
    pub leaves : Leaves m p arcs a t i
    pub number : number_on m p a t i ≡ k

  pub entered : (a t s k : ℕ) → arrival m a t ≡ s → Comes m p arcs a s k
      → Entered a t s k (leavers_before m p a t + (k - comers_before m p a s))
  entered a t s k e h =
      let first : comers_before m p a (arrival m a t) ≡ comers_before m p a s = ap (comers_before m p a) e in
      let people : brought m p a s ≡ moved p a t = ap (brought m p a) (sym e) ∙ brought_is m p a t in
      record {
        arrives = e;
        leaves = record { arc_in = h.arc_in; from = omega arith; until = omega (arith, people) };
        number = omega (arith, first);
      }

  -- the steps of a card come by number k at a node x: the first visit, the later ones, and all
  abbrev pub first_hit : ℕ → ℕ → ℕ → ℕ → List RouteStep → ℕ
  first_hit x k n i [] = 0
  first_hit x k n i (s ∷ steps) = cond (eqb n x && eqb i k) 1 0

  abbrev pub hits : ℕ → ℕ → ℕ → ℕ → List RouteStep → ℕ
  hits x k n i [] = 0
  hits x k n i (s ∷ steps) = cond (eqb n x && eqb i k) 1 0 + hits x k (head m s.arc) (number_on m p s.arc s.moment i) steps

  abbrev pub later_hits : ℕ → ℕ → ℕ → ℕ → List RouteStep → ℕ
  later_hits x k n i [] = 0
  later_hits x k n i (s ∷ steps) = hits x k (head m s.arc) (number_on m p s.arc s.moment i) steps

  pub hits_are : (x k n i : ℕ) (steps : List RouteStep) → hits x k n i steps ≡ first_hit x k n i steps + later_hits x k n i steps
  hits_are x k n i [] = refl
  hits_are x k n i (s ∷ steps) = refl

  -- ---- one step

  leaves_by : (n i : ℕ) (s : RouteStep) (steps : List RouteStep) → FollowsNumbers m p n i (s ∷ steps) → Leaves m p arcs s.arc s.moment i
  leaves_by n i s steps f = record { arc_in = f.0; from = f.2; until = f.3 }

  -- a step comes to a number out of an arc exactly where it begins at the number with which that person entered the arc
  same_hit : (a t s k j b u n i : ℕ) → Entered a t s k j → Comes m p arcs a s k → Leaves m p arcs b u i → tail m b ≡ n
      → one_if (eqb (head m b) (head m a) && eqb (number_on m p b u i) k) ≡ one_if (eqb n (tail m a) && eqb i j)
  same_hit a t s k j b u n i back comes leaves e = same_count _ _ there here
    where
      there : (eqb (head m b) (head m a) && eqb (number_on m p b u i) k) ≡ true → (eqb n (tail m a) && eqb i j) ≡ true
      there h =
          let z = same_pair (head m b) (head m a) (number_on m p b u i) k h in
          let out : Comes m p arcs b (arrival m b u) k = subst (λ (x : ℕ). Comes m p arcs b (arrival m b u) x) z.1 (goes_on b u i leaves) in
          let one = one_comer m p arcs b a (arrival m b u) s k z.0 out comes in
          let moments : u ≡ t = grind (arith, one.0, one.1, back.arrives) in
          let same : number_on m p b u i ≡ number_on m p a t i = ap₂ (λ x y. number_on m p x y i) one.0 moments in
          let first : leavers_before m p b u ≡ leavers_before m p a t = ap₂ (λ x y. leavers_before m p x y) one.0 moments in
          pair_same n (tail m a) i j (sym e ∙ ap (λ x. tail m x) one.0) (omega (arith, z.1, back.number, same, first, back.leaves.from))

      here : (eqb n (tail m a) && eqb i j) ≡ true → (eqb (head m b) (head m a) && eqb (number_on m p b u i) k) ≡ true
      here h =
          let z = same_pair n (tail m a) i j h in
          let enters : Leaves m p arcs a t i = subst (λ (x : ℕ). Leaves m p arcs a t x) (sym z.1) back.leaves in
          let one = one_leaver m p arcs b a u t i (e ∙ z.0) leaves enters in
          let next : number_on m p b u i ≡ number_on m p a t i = ap₂ (λ x y. number_on m p x y i) one.0 one.1 in
          let same : number_on m p a t i ≡ number_on m p a t j = ap (number_on m p a t) z.1 in
          pair_same (head m b) (head m a) (number_on m p b u i) k (ap (λ x. head m x) one.0) (next ∙ same ∙ back.number)

  pub later_back : (a t s k j : ℕ) → is_exit_at m (head m a) ≡ false → Entered a t s k j → Comes m p arcs a s k
      → (n i : ℕ) (steps : List RouteStep) → FollowsNumbers m p n i steps → later_hits (head m a) k n i steps ≡ hits (tail m a) j n i steps
  later_back a t s k j inside back comes n i [] f = refl
  later_back a t s k j inside back comes n i (b ∷ []) f =
      let same = same_hit a t s k j b.arc b.moment n i back comes (leaves_by n i b [] f) f.1 in
      let none = none_count (eqb (head m b.arc) (head m a) && eqb (number_on m p b.arc b.moment i) k)
      (λ h. let z = same_pair (head m b.arc) (head m a) (number_on m p b.arc b.moment i) k h in
      let exit : is_exit_at m (head m a) ≡ true = subst (λ (x : ℕ). is_exit_at m x ≡ true) z.0 f.4 in
      both_ways (is_exit_at m (head m a)) inside exit) in
      omega (arith, same, none)
  later_back a t s k j inside back comes n i (b ∷ (c ∷ steps)) f =
      let same = same_hit a t s k j b.arc b.moment n i back comes (leaves_by n i b (c ∷ steps) f) f.1 in
      let rest = later_back a t s k j inside back comes (head m b.arc) (number_on m p b.arc b.moment i) (c ∷ steps) f.4 in
      omega (arith, same, rest)

  -- whoever comes in from nowhere is met at his first visit alone
  pub later_none : (x u k : ℕ) → Enters m p arcs x u k → (n i : ℕ) (steps : List RouteStep) → FollowsNumbers m p n i steps → later_hits x k n i steps ≡ 0
  later_none x u k h n i [] f = refl
  later_none x u k h n i (b ∷ []) f = refl
  later_none x u k h n i (b ∷ (c ∷ steps)) f =
      let out = goes_on b.arc b.moment i (leaves_by n i b (c ∷ steps) f) in
      let none = none_count (eqb (head m b.arc) x && eqb (number_on m p b.arc b.moment i) k)
      (λ e. let z = same_pair (head m b.arc) x (number_on m p b.arc b.moment i) k e in
      apart m p arcs b.arc x (arrival m b.arc b.moment) u k z.0 (subst (λ (y : ℕ). Comes m p arcs b.arc (arrival m b.arc b.moment) y) z.1 out) h) in
      omega (arith, none, later_none x u k h (head m b.arc) (number_on m p b.arc b.moment i) (c ∷ steps) f.4)

  -- ---- how often an arc is entered at a moment

  abbrev pub uses : ℕ → ℕ → List RouteStep → ℕ
  uses a t [] = 0
  uses a t (s ∷ steps) = cond (eqb s.arc a && eqb s.moment t) 1 0 + uses a t steps

  within : (a t n i : ℕ) (s : RouteStep) → a < length m.arcs → Leaves m p arcs s.arc s.moment i → tail m s.arc ≡ n
      → one_if (eqb n (tail m a) && (leb (leavers_before m p a t) i && ltb i (leavers_before m p a t + moved p a t)))
      ≡ one_if (eqb s.arc a && eqb s.moment t)
  within a t n i s l leaves e = same_count _ _ there here
    where
      there : (eqb n (tail m a) && (leb (leavers_before m p a t) i && ltb i (leavers_before m p a t + moved p a t))) ≡ true
          → (eqb s.arc a && eqb s.moment t) ≡ true
      there h =
          let x = and_parts (eqb n (tail m a)) (leb (leavers_before m p a t) i && ltb i (leavers_before m p a t + moved p a t)) h in
          let y = and_parts (leb (leavers_before m p a t) i) (ltb i (leavers_before m p a t + moved p a t)) x.1 in
          let one = one_leaver m p arcs s.arc a s.moment t i (e ∙ eqb-true n (tail m a) x.0) leaves
          (record { arc_in = l; from = leb-true (leavers_before m p a t) i y.0; until = ltb-true i (leavers_before m p a t + moved p a t) y.1 }) in
          pair_same s.arc a s.moment t one.0 one.1

      here : (eqb s.arc a && eqb s.moment t) ≡ true
          → (eqb n (tail m a) && (leb (leavers_before m p a t) i && ltb i (leavers_before m p a t + moved p a t))) ≡ true
      here h = grind (arith, same_pair, and_from, eq-eqb, le-leb, lt-ltb)

  pub uses_are : (a t : ℕ) → a < length m.arcs → (n i : ℕ) (steps : List RouteStep) → FollowsNumbers m p n i steps
      → uses a t steps ≡ sum_by (λ o. hits (tail m a) (leavers_before m p a t + o) n i steps) (below (moved p a t))
  uses_are a t l n i [] f = sym (sum_by-nothing (below (moved p a t)))
  uses_are a t l n i (s ∷ steps) f =
      let w = moved p a t in
      let parts = sum_by-add (λ o. cond (eqb n (tail m a) && eqb i (leavers_before m p a t + o)) 1 0)
      (λ o. hits (tail m a) (leavers_before m p a t + o) (head m s.arc) (number_on m p s.arc s.moment i) steps) (below w) in
      let here = count_between (eqb n (tail m a)) i (leavers_before m p a t) w in
      omega (arith, uses_are a t l (head m s.arc) (number_on m p s.arc s.moment i) steps f.4, parts, here, within a t n i s l (leaves_by n i s steps f) f.1)

  -- an arc that nobody enters at a moment isn't used then
  pub unused : (a t : ℕ) → moved p a t ≡ 0 → (n i : ℕ) (steps : List RouteStep) → FollowsNumbers m p n i steps → uses a t steps ≡ 0
  unused a t none n i [] f = refl
  unused a t none n i (s ∷ steps) f =
      let here = none_count (eqb s.arc a && eqb s.moment t)
      (λ h. let z = same_pair s.arc a s.moment t h in
      let people : moved p s.arc s.moment ≡ moved p a t = ap₂ (λ x y. moved p x y) z.0 z.1 in
      omega (arith, none, people)) in
      omega (arith, unused a t none (head m s.arc) (number_on m p s.arc s.moment i) steps f.4, here)
