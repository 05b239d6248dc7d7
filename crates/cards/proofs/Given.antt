-- Cards that were handed out so far; where as many as people are, they are a first in first out deal of the plan.
use Rattle.std.proofs.Common.{◌≡◌, ℕ, ◌<◌, ◌≤◌, ◌⊎◌, inl, inr, List, [], ◌∷◌, ◌++◌, length, get_or, ap, sym, ◌∙◌, subst, arith}
use Rattle.std.specs.List.{All}
use Rattle.std.proofs.lemmas.Bool.{cases_lt}
use Rattle.std.proofs.lemmas.List.{get_or_append_left, get_or_push, length-append}
use Rattle.std.proofs.lemmas.List.Elements.{All-cons, All-nil}
use Rattle.evac_law.specs.declared.model.Model.{Model}
use Rattle.evac_law.specs.declared.plan.Move.{Move}
use Rattle.evac_law.specs.Building.{head, people}
use Rattle.evac_law.specs.Plans.{moved}
use Rattle.route_decompose.specs.declared.route.RouteStep.{RouteStep}
use Rattle.cards.specs.Cards.{CardView, IsFairDeal}
use Rattle.cards.specs.Dealing.{AreAllToCome, CardsView, DealsNext, IsAllDealt}
use Rattle.cards.specs.Laws.{IsEvacuation}
use Rattle.cards.specs.Numbers.{AreCards, FollowsNumbers, IsCardOf, number_on}
use Rattle.cards.proofs.Fair.{fair}

-- the cards so far, each by its number
pub record AreGiven (m : Model) (p : List Move) (cards : List CardView) (w : CardsView) : Type 0 where
  pub same_model : w.model ≡ m
  pub same_moves : (a t : ℕ) → moved w.plan a t ≡ moved p a t
  pub takes : IsEvacuation m w.plan
  pub count : length cards ≡ w.given
  pub are : AreCards m w.plan cards

-- none at first
pub none_given : (m : Model) (p : List Move) (w : CardsView) → AreAllToCome m p w → AreGiven m p [] w
none_given m p w h = record {
  same_model = h.same_model;
  same_moves = h.same_moves;
  takes = let P : Model → Type 0 = λ x. IsEvacuation x w.plan in subst P h.same_model h.takes;
  count = sym h.none_given;
  are = λ k d l. absurd (omega (arith, l));
}

pub same_cards : (m : Model) (p q : List Move) (cards : List CardView) → p ≡ q → AreCards m p cards → AreCards m q cards
same_cards m p q cards e are = subst (λ (x : List Move). AreCards m x cards) e are

-- one more
pub one_more : (m : Model) (p : List Move) (cards : List CardView) (w v : CardsView) → AreGiven m p cards w → DealsNext w v → AreGiven m p (cards ++ v.card ∷ []) v
one_more m p cards w v h next =
    let c = v.card in
    let mine : IsCardOf m w.plan (length cards) c =
    subst (λ (k : ℕ). IsCardOf m w.plan k c) (sym h.count) (subst (λ (x : Model). IsCardOf x w.plan w.given c) h.same_model next.card) in
    let count = h.count in
    let more = next.one_more in
    record {
      same_model = next.same_model ∙ h.same_model;
      same_moves = λ a t. ap (λ (x : List Move). moved x a t) next.same_plan ∙ h.same_moves a t;
      takes = subst (λ (x : List Move). IsEvacuation m x) (sym next.same_plan) h.takes;
      count = omega (arith, length-append cards (c ∷ []), count, more);
      are = same_cards m w.plan v.plan (cards ++ c ∷ []) (sym next.same_plan) (λ k d l. each mine k d l (cases_lt k (length cards)));
    }
  where
    each : IsCardOf m w.plan (length cards) v.card → (k : ℕ) (d : CardView) → k < length (cards ++ v.card ∷ []) → (k < length cards) ⊎ (length cards ≤ k)
        → IsCardOf m w.plan k (get_or (cards ++ v.card ∷ []) k d)
    each mine k d l (inl b) = subst (λ (x : CardView). IsCardOf m w.plan k x) (sym (get_or_append_left cards (v.card ∷ []) d k b)) (h.are k d b)
    each mine k d l (inr b) =
        let last : k ≡ length cards = omega (arith, b, l, length-append cards (v.card ∷ [])) in
        subst (λ (x : CardView). IsCardOf m w.plan k x) (sym (get_or_push cards v.card d k (sym last))) (subst (λ (i : ℕ). IsCardOf m w.plan i v.card) (sym last) mine)

-- all of them
pub all_given_fair : (m : Model) (p : List Move) (cards : List CardView) (w : CardsView) → AreGiven m p cards w → IsAllDealt w → IsFairDeal m p cards
all_given_fair m p cards w h all =
    let made = fair m w.plan cards h.takes (h.count ∙ all ∙ ap (λ (x : Model). people x) h.same_model) h.are in
    record {
      deal = record {
        ways = made.deal.ways;
        arcs = λ a t. made.deal.arcs a t ∙ h.same_moves a t;
        starts = made.deal.starts;
      };
      first_out = made.first_out;
      ordered = made.ordered;
    }

-- the arcs of a card's steps are of the model
pub steps_in : (m : Model) (p : List Move) (n i : ℕ) (steps : List RouteStep) → FollowsNumbers m p n i steps → All (λ (s : RouteStep). s.arc < length m.arcs) steps
steps_in m p n i [] f = All-nil (λ (s : RouteStep). s.arc < length m.arcs)
steps_in m p n i (s ∷ steps) f =
    All-cons (λ (v : RouteStep). v.arc < length m.arcs) s steps f.0 (steps_in m p (head m s.arc) (number_on m p s.arc s.moment i) steps f.4)
