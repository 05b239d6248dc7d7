-- Cards in a text, and the next one after them.
use Rattle.std.proofs.Common.{◌≡◌, ℕ, ◌+◌, ◌^◌, ◌<◌, List, [], ◌∷◌, ◌++◌, length, ap, sym, ◌∙◌, arith, append-nil, append_assoc}
use Rattle.evac_law.specs.declared.model.Model.{Model}
use Rattle.evac_law.specs.declared.plan.Move.{Move}
use Rattle.evac_law.specs.Building.{IsValid, people}
use Rattle.evac_law.specs.Limits.{people_limit}
use Rattle.cards.specs.Cards.{CardView}
use Rattle.cards.specs.Dealing.{CardsView, DealsNext}
use Rattle.cards.proofs.Given.{AreGiven, steps_in}
use Rattle.report_text.specs.Parts.{IsCardIn}
use Rattle.report_text.specs.ReportText.{card_lines, cards_from}

pub cards_one : (m : Model) (k : ℕ) (cards : List CardView) (c : CardView)
    → cards_from m k (cards ++ c ∷ []) ≡ cards_from m k cards ++ card_lines m (k + length cards) c
cards_one m k [] c = grind (arith, append-nil)
cards_one m k (d ∷ cards) c =
    let same : (k + 1) + length cards ≡ k + length (d ∷ cards) = omega arith in
    ap (λ l. card_lines m k d ++ l) (cards_one m (k + 1) cards c)
    ∙ append_assoc-back (card_lines m k d) (cards_from m (k + 1) cards) (card_lines m ((k + 1) + length cards) c)
    ∙ ap (λ i. card_lines m k d ++ cards_from m (k + 1) cards ++ card_lines m i c) same
  where
    append_assoc-back : (x y z : List ℕ) → x ++ (y ++ z) ≡ (x ++ y) ++ z
    append_assoc-back x y z = sym (append_assoc x y z)

-- the next card is one of the model
pub next_in : (m : Model) (p : List Move) (cards : List CardView) (w v : CardsView) → AreGiven m p cards w → DealsNext w v → IsCardIn m v.card
next_in m p cards w v h next = grind (arith, steps_in)

-- there are few cards
pub few_given : (m : Model) (p : List Move) (cards : List CardView) (w v : CardsView) → IsValid m → AreGiven m p cards w → DealsNext w v
    → (w.given < people m) × (w.given + 1 < 2 ^ 32)
unfolding people_limit
few_given m p cards w v valid h next = grind arith
