-- How far the cards of a plan are handed out.
use Rattle.std.specs.Prelude.{◌≡◌, ℕ, ◌+◌, ◌<◌, ◌≤◌, List}
use Rattle.evac_law.specs.declared.model.Model.{Model}
use Rattle.evac_law.specs.declared.plan.Move.{Move}
use Rattle.evac_law.specs.Building.{people}
use Rattle.evac_law.specs.Plans.{moved}
use Rattle.route_decompose.specs.Stocks.{TrailView}
use Rattle.cards.specs.declared.counts.Counts.{Counts}
use Rattle.cards.specs.declared.turn.Turn.{Turn}
use Rattle.cards.specs.Cards.{CardView}
use Rattle.cards.specs.Counts.{AreTrueCounts, IsSized}
use Rattle.cards.specs.Laws.{IsEvacuation}
use Rattle.cards.specs.Numbers.{IsCardOf}
use Rattle.cards.specs.Turns.{IsTurn}

-- a plan of a model, how many of its cards are handed out, and the card handed out last
pub record CardsView : Type 0 where
  pub model : Model
  pub plan : List Move
  pub given : ℕ
  pub card : CardView

-- no card of a plan is handed out yet; what is kept is a plan with the same moves, which takes everybody out too
pub record AreAllToCome (m : Model) (p : List Move) (w : CardsView) : Type 0 where
  pub same_model : w.model ≡ m
  pub same_moves : (a t : ℕ) → moved w.plan a t ≡ moved p a t
  pub takes : IsEvacuation w.model w.plan
  pub none_given : w.given ≡ 0

-- one more card is handed out: that of the next person
pub record DealsNext (w v : CardsView) : Type 0 where
  pub same_model : v.model ≡ w.model
  pub same_plan : v.plan ≡ w.plan
  pub somebody : w.given < people w.model
  pub one_more : v.given ≡ w.given + 1
  pub card : IsCardOf w.model w.plan w.given v.card

-- as many cards as people are handed out
abbrev pub IsAllDealt : CardsView → Type 0
IsAllDealt w = w.given ≡ people w.model

-- the counts are those of a plan that takes everybody out, and the turn isn't past a person
pub record IsReadyToDeal (w : Counts) (person : ℕ) (t : Turn) : Type 0 where
  pub true_counts : AreTrueCounts w
  pub turn : IsTurn w.plan.model t
  pub not_past : t.before ≤ person

-- what is kept between cards
pub record IsDealer (w : Counts) (all given : ℕ) (t : Turn) (r : TrailView) : Type 0 where
  pub sized : IsSized w
  pub people_same : all ≡ people w.plan.model
  pub given_in : given ≤ all
  pub ready : given < all → IsReadyToDeal w given t
  pub room : w.plan.model.horizon ≤ r.room
