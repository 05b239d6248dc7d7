-- The numbers by which people are followed: at each node, how many came and how many left before.
use Rattle.std.specs.Prelude.{◌≡◌, ℕ, zero, suc, ◌+◌, ◌-◌, ◌<◌, ◌≤◌, Bool, ◌&&◌, ◌==◌, if◌then◌else◌, List, [], ◌∷◌, length, slice_index_or, IsTrue}
use Rattle.std.specs.List.{sum_by}
use Rattle.evac_law.specs.declared.model.Model.{Model}
use Rattle.evac_law.specs.declared.plan.Move.{Move}
use Rattle.evac_law.specs.Building.{arrival, entry, head, is_exit_at, tail}
use Rattle.evac_law.specs.Plans.{came, coming, left, moved}
use Rattle.evac_law.specs.Sums.{below, moments_to}
use Rattle.route_decompose.specs.declared.route.RouteStep.{RouteStep}
use Rattle.cards.specs.Cards.{CardView}

-- a count by each moment, as it is before the moment
abbrev pub count_before : (ℕ → ℕ) → ℕ → ℕ
count_before count zero = 0
count_before count (suc t) = count t

-- who has a number in a count is counted at a moment
pub record IsCountedAt (count : ℕ → ℕ) (i t : ℕ) : Type 0 where
  pub not_before : count_before count t ≤ i
  pub by_then : i < count t

-- the people who come out of an arc at a moment
unfoldable pub brought : Model → List Move → ℕ → ℕ → ℕ
brought m p a t = sum_by (λ v. if v.arc == a && arrival m a v.moment == t then v.people else 0) p

-- the sum of some people over the arcs before a place that are picked
abbrev pub part : (ℕ → Bool) → (ℕ → ℕ) → ℕ → ℕ
part picks people a = sum_by (λ b. if picks b then people b else 0) (below a)

-- the number of the first who enters an arc at a moment, among those who leave its tail: they leave by moment, and then by arc
unfoldable pub leavers_before : Model → List Move → ℕ → ℕ → ℕ
leavers_before m p a t =
    count_before (left m p (tail m a)) t + part (λ b. tail m b == tail m a) (λ b. moved p b t) a

-- the number of the first who comes out of an arc at a moment, among those who come to its head: they come by moment, and then by arc
unfoldable pub comers_before : Model → List Move → ℕ → ℕ → ℕ
comers_before m p a t =
    count_before (came m p (head m a)) t + part (λ b. head m b == head m a) (λ b. brought m p b t) a

-- the number of the first who comes into a node from nowhere at a moment, after those who come along arcs then
unfoldable pub entrants_before : Model → List Move → ℕ → ℕ → ℕ
entrants_before m p n t = count_before (came m p n) t + coming m p n t

-- the number at its head of one who enters an arc at a moment and has a number at its tail
abbrev pub number_on : Model → List Move → ℕ → ℕ → ℕ → ℕ
number_on m p a t i = comers_before m p a (arrival m a t) + (i - leavers_before m p a t)

-- who has a number at a node takes these steps: the one of a number to come is the one of that number to leave
abbrev pub FollowsNumbers : Model → List Move → ℕ → ℕ → List RouteStep → Type 0
FollowsNumbers m p n i [] = IsTrue (is_exit_at m n)
FollowsNumbers m p n i (s ∷ steps) =
    (s.arc < length m.arcs) × (tail m s.arc ≡ n) × (leavers_before m p s.arc s.moment ≤ i)
    × (i < leavers_before m p s.arc s.moment + moved p s.arc s.moment)
    × FollowsNumbers m p (head m s.arc) (number_on m p s.arc s.moment i) steps

-- the people who come in from nowhere before those of a node and a moment: by node, and then by moment
unfoldable pub dealt_before : Model → ℕ → ℕ → ℕ
dealt_before m n t = sum_by (λ k. sum_by (entry m k) (moments_to m.horizon)) (below n) + sum_by (entry m n) (below t)

-- a card is that of person k: who comes in then and there, and follows the numbers from there
pub record IsCardOf (m : Model) (p : List Move) (k : ℕ) (c : CardView) : Type 0 where
  pub node_in : c.start < length m.nodes
  pub moment_in : c.entered ≤ m.horizon
  pub not_before : dealt_before m c.start c.entered ≤ k
  pub one_of : k < dealt_before m c.start c.entered + entry m c.start c.entered
  pub steps : FollowsNumbers m p c.start (entrants_before m p c.start c.entered + (k - dealt_before m c.start c.entered)) c.steps

-- cards one after another, the first that of person 0
abbrev pub AreCards : Model → List Move → List CardView → Type 0
AreCards m p cards = (k : ℕ) (d : CardView) → k < length cards → IsCardOf m p k (slice_index_or cards k d)
