-- The law of cards by numbers.
use Rattle.std.specs.Prelude.{◌≡◌, ◌≤◌, List, length}
use Rattle.std.specs.List.{All}
use Rattle.evac_law.specs.declared.model.Model.{Model}
use Rattle.evac_law.specs.declared.plan.Move.{Move}
use Rattle.evac_law.specs.Building.{IsValid, people}
use Rattle.evac_law.specs.Plans.{TakesAllOut}
use Rattle.cards.specs.Cards.{CardView, IsFairDeal}
use Rattle.cards.specs.Numbers.{AreCards}

-- a plan of a valid model is an evacuation: it takes everybody out, and its moves begin by the horizon
pub record IsEvacuation (m : Model) (p : List Move) : Type 0 where
  pub valid : IsValid m
  pub plan : TakesAllOut m p
  pub in_time : All (λ v. v.moment ≤ m.horizon) p

-- as many cards as there are people, each following the numbers, are a first in first out deal of the plan
abbrev pub NumberedCardsAreFair : Type 0
NumberedCardsAreFair =
    (m : Model) (p : List Move) (cards : List CardView) → IsEvacuation m p → length cards ≡ people m → AreCards m p cards
    → IsFairDeal m p cards
