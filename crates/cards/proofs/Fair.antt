-- Cards by numbers are a first in first out deal, in order.
use Rattle.std.proofs.Common.{◌≡◌, ℕ, ◌<◌, ◌≤◌, List, [], get_or, arith, subst}
use Rattle.std.specs.List.{All, flat_map}
use Rattle.std.proofs.lemmas.List.Elements.{All-from_get_or}
use Rattle.evac_law.specs.declared.model.Model.{Model}
use Rattle.evac_law.specs.declared.plan.Move.{Move}
use Rattle.evac_law.specs.Plans.{came, left}
use Rattle.evac_law.proofs.MoveLemmas.{All-flat_map_at}
use Rattle.cards.specs.Cards.{CardView, IsFirstInFirstOut, Visit, visits_of}
use Rattle.cards.specs.Laws.{NumberedCardsAreFair, IsEvacuation}
use Rattle.cards.specs.Numbers.{IsCountedAt}
use Rattle.cards.proofs.Covering.{came_in, card, deal, is_card, number}
use Rattle.cards.proofs.Entrants.{in_order}
use Rattle.cards.proofs.Moments.{first_out}
use Rattle.cards.proofs.Numbers.{came_grows, left_grows}
use Rattle.cards.proofs.Ways.{IsNumbered, visits_numbered}

module _ (m : Model) (p : List Move) (h : IsEvacuation m p) where
  two_visits : (v w : Visit) → IsNumbered m p h v → IsNumbered m p h w → v.node ≡ w.node → v.comes < w.comes → v.leaves ≤ w.leaves
  two_visits v w a b e l =
      let n = w.node in
      let comes : IsCountedAt (came m p n) a.number v.comes = subst (λ (x : ℕ). IsCountedAt (came m p x) a.number v.comes) e a.comes in
      let leaves : IsCountedAt (left m p n) a.number v.leaves = subst (λ (x : ℕ). IsCountedAt (left m p x) a.number v.leaves) e a.leaves in
      first_out (came m p n) (left m p n) a.number b.number v.comes w.comes v.leaves w.leaves (came_grows m p n) (left_grows m p n) comes b.comes leaves b.leaves l

  numbered_first_out : (visits : List Visit) → All (IsNumbered m p h) visits → IsFirstInFirstOut visits
  numbered_first_out visits all = grind (arith, two_visits)

abbrev no_card : CardView
no_card = record { start = 0; entered = 0; steps = [] }

pub fair : NumberedCardsAreFair
fair m p cards h count are = record {
  deal = deal m p cards h count are;
  first_out =
      numbered_first_out m p h (flat_map (visits_of m) cards)
      (All-flat_map_at (IsNumbered m p h) (visits_of m) cards
      (All-from_get_or (λ c. All (IsNumbered m p h) (visits_of m c)) cards no_card
      (λ k l.
      let c = card m p cards h count are k in
      visits_numbered m p h c.start (number m p cards h count are k) c.entered c.steps (is_card m p cards h count are k l).steps (came_in m p cards h count are k l))));
  ordered = λ i j d l b.
      let c = are i d (omega (arith, l, b)) in
      let e = are j d b in
      in_order m (get_or cards i d).start (get_or cards i d).entered i (get_or cards j d).start (get_or cards j d).entered j
      (record { moment_in = c.moment_in; not_before = c.not_before; one_of = c.one_of })
      (record { moment_in = e.moment_in; not_before = e.not_before; one_of = e.one_of }) (omega (arith, l));
}
