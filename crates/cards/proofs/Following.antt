-- Whoever comes to a node inside leaves it by the horizon, by one of its arcs, and comes to the next node in time.
use Rattle.std.proofs.Common.{◌≡◌, ℕ, zero, suc, ◌<◌, ◌≤◌, false, List, ◌∷◌, length, refl, sym, arith, subst}
use Rattle.std.proofs.lemmas.Int.{ints}
use Rattle.evac_law.specs.declared.model.Model.{Model}
use Rattle.evac_law.specs.declared.plan.Move.{Move}
use Rattle.evac_law.specs.Building.{arrival, head, is_exit_at}
use Rattle.evac_law.specs.Plans.{NobodyIsLeft, came, held, left}
use Rattle.evac_law.proofs.Conserved.{all_out_leaves_nobody}
use Rattle.evac_law.proofs.ValidLemmas.{arc_is, head_in}
use Rattle.route_decompose.proofs.Arrivals.{arrives}
use Rattle.route_decompose.specs.declared.route.RouteStep.{RouteStep}
use Rattle.cards.specs.declared.comer.Comer.{Comer}
use Rattle.cards.specs.declared.comer.Leaver.{Leaver}
use Rattle.cards.specs.Following.{IsComer, IsLeaver, ComesOutAs}
use Rattle.cards.specs.Laws.{IsEvacuation}
use Rattle.cards.specs.Numbers.{FollowsNumbers, IsCountedAt, count_before, number_on}
use Rattle.cards.proofs.Hits.{goes_on}
use Rattle.cards.proofs.Moments.{grown, leaves_later}
use Rattle.cards.proofs.Numbers.{Leaves, came_grows, comes_then, leaves_at}
use Rattle.cards.proofs.Ways.{few_leave, tail_few}

module _ (m : Model) (p : List Move) (h : IsEvacuation m p) where
  nobody : NobodyIsLeft m p m.horizon
  nobody = all_out_leaves_nobody m p m.horizon h.valid h.plan.feasible h.plan.all_out

  -- all who came to a node inside have left it by the horizon
  pub all_leave : (n : ℕ) → n < length m.nodes → is_exit_at m n ≡ false → came m p n m.horizon ≤ left m p n m.horizon
  unfolding held
  all_leave n l e = omega (arith, ints, nobody.nobody_inside n l e)

  pub in_left : (c : Comer) → IsComer m p c → is_exit_at m c.node ≡ false → c.number < left m p c.node m.horizon
  in_left c comer e =
      omega (arith, all_leave c.node comer.node_in e, grown (came m p c.node) c.moment m.horizon (came_grows m p c.node) comer.in_time)

  -- nobody left before the one who comes
  pub none_left_before : (c : Comer) → IsComer m p c → is_exit_at m c.node ≡ false → count_before (left m p c.node) c.moment ≤ c.number
  none_left_before c comer e = split c.moment refl
    where
      at_suc : (t : ℕ) → suc t ≡ c.moment → left m p c.node t ≤ c.number
      at_suc t f =
          let low : count_before (came m p c.node) (suc t) ≤ c.number = subst (λ (z : ℕ). count_before (came m p c.node) z ≤ c.number) (sym f) comer.at.not_before in
          omega (arith, few_leave m p h c.node t comer.node_in e (omega (arith, f)), low)

      split : (t : ℕ) → t ≡ c.moment → count_before (left m p c.node) t ≤ c.number
      split zero f = omega arith
      split (suc t) f = at_suc t f

  -- ---- arrivals

  pub leaver_arrives : (c : Comer) (l : Leaver) → IsLeaver m p c l → arrival m l.step.arc l.step.moment ≤ m.horizon
  leaver_arrives c l leaver = arrives m p nobody h.in_time l.step.arc l.step.moment (omega (arith, leaver.among))

  -- ---- from a node to the next

  leaves_as : (c : Comer) (l : Leaver) → IsLeaver m p c l → Leaves m p h.plan.feasible.arcs l.step.arc l.step.moment c.number
  leaves_as c l leaver = grind arith

  pub comes_next : (c : Comer) (l : Leaver) (d : Comer) → IsLeaver m p c l → ComesOutAs m p l d → IsComer m p d
  comes_next c l d leaver next =
      let a = l.step.arc in
      let t = l.step.moment in
      let there = comes_then m p h.plan.feasible.arcs a (arrival m a t) (number_on m p a t c.number) (goes_on m p h.plan.feasible.arcs a t c.number (leaves_as c l leaver)) in
      let same : number_on m p a t c.number ≡ d.number = omega arith in
      let moment = next.moment in
      record {
        node_in = subst (λ (n : ℕ). n < length m.nodes) (sym next.node) (head_in m a h.valid leaver.arc_in);
        in_time = omega (arith, moment, leaver_arrives c l leaver);
        at =
            subst (λ (n : ℕ). IsCountedAt (came m p n) d.number d.moment) (sym next.node)
            (subst (λ (s : ℕ). IsCountedAt (came m p (head m a)) d.number s) (sym moment) (subst (λ (i : ℕ). IsCountedAt (came m p (head m a)) i (arrival m a t)) same there));
      }

  -- each step takes time
  waits : (c : Comer) (l : Leaver) → IsComer m p c → IsLeaver m p c l → c.moment ≤ l.step.moment
  waits c l comer leaver =
      let leaves = leaves_as c l leaver in
      let n = c.node in
      leaves_later (came m p n) (left m p n) c.number c.moment l.step.moment (came_grows m p n)
      (subst (λ (x : ℕ). left m p x l.step.moment ≤ came m p x l.step.moment) leaver.from (tail_few m p h l.step.arc l.step.moment c.number leaves)) comer.at
      (subst (λ (x : ℕ). IsCountedAt (left m p x) c.number l.step.moment) leaver.from (leaves_at m p h.plan.feasible.arcs l.step.arc l.step.moment c.number leaves))

  pub comes_later : (c : Comer) (l : Leaver) (d : Comer) → IsComer m p c → IsLeaver m p c l → ComesOutAs m p l d → c.moment < d.moment
  comes_later c l d comer leaver next = grind (arith, waits, arc_is)

  pub before_last : (c : Comer) (l : Leaver) → IsComer m p c → IsLeaver m p c l → c.moment < m.horizon
  before_last c l comer leaver =
      omega (arith, waits c l comer leaver, (arc_is m l.step.arc h.valid leaver.arc_in).travel_fits.0, leaver_arrives c l leaver)

  -- the steps from the next node on, after the one that leads there
  pub follows_on : (c : Comer) (l : Leaver) (d : Comer) (steps : List RouteStep) → IsLeaver m p c l → ComesOutAs m p l d → FollowsNumbers m p d.node d.number steps
      → FollowsNumbers m p c.node c.number (l.step ∷ steps)
  follows_on c l d steps leaver next f = grind arith
