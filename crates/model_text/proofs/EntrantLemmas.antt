-- Entrants by node and moment, with one more.
use Rattle.std.proofs.Common.{◌≡◌, ◌+◌, ◌<◌, ◌≤◌, Bool, true, false, cond, ◌||◌, nat_lt, List, [], ◌∷◌, length, refl, ap, ◌∙◌, arith, ◌⊎◌, inl, inr, IsFalse, get_or, ◌++◌, sym, subst}
use Rattle.std.specs.List.{All, AllPairs, list_any, sum_by}
use Rattle.std.proofs.lemmas.Bool.{and_parts, cases_order, eq-eqb, eqb-true, lt-ltb, ltb-true, or_cases}
use Rattle.std.proofs.lemmas.List.{get_or_append_left}
use Rattle.std.proofs.lemmas.List.Elements.{All-weaker}
use Rattle.evac_law.specs.Building.{no_node}
use Rattle.evac_law.specs.Entrants.{ComesBefore}
use Rattle.evac_law.specs.Names.{is_exit}
use Rattle.evac_law.specs.declared.entrant.Entrant.{Entrant}
use Rattle.evac_law.specs.declared.model.NodeRow.{NodeRow}
use Rattle.model_text.specs.Taken.{comes_before, is_coming, with_entrant}
use Rattle.model_text.proofs.InsertLemmas.{Fits, all-put, none-passes, pairs-put, put-in, sum-put}
use Rattle.model_text.proofs.ListFacts.{length-push}

-- an entrant is put before the first that it comes before
is-put : (es : List Entrant) (e : Entrant) → with_entrant es e ≡ put-in comes_before es e
is-put [] e = refl
is-put (f ∷ fs) e = ap (λ l. cond (comes_before e f) (e ∷ f ∷ fs) (f ∷ l)) (is-put fs e)

pub sum-with_entrant : (es : List Entrant) (e : Entrant) → sum_by (λ f. f.people) (with_entrant es e) ≡ sum_by (λ f. f.people) es + e.people
sum-with_entrant es e = ap (sum_by (λ (f : Entrant). f.people)) (is-put es e) ∙ sum-put (λ (f : Entrant). f.people) comes_before es e

pub all-with_entrant : (P : Entrant → Type 0) (es : List Entrant) (e : Entrant) → All P es → P e → All P (with_entrant es e)
all-with_entrant P es e all new = rw (is-put es e) (all-put P comes_before es e all new)

-- ---- the order

-- the test tells whether one comes before another
first-comes : (e f : Entrant) → comes_before e f ≡ true → ComesBefore e f
first-comes e f h = grind (arith, or_cases, ltb-true, and_parts, eqb-true)

comes-first : (e f : Entrant) → ComesBefore e f → comes_before e f ≡ true
comes-first e f (inl less) = rw (lt-ltb e.node f.node less) refl
comes-first e f (inr same) = rw (eq-eqb e.node f.node same.0, lt-ltb e.moment f.moment same.1) (ends-true (nat_lt e.node f.node))
  where
    ends-true : (t : Bool) → t || true ≡ true
    ends-true true = refl
    ends-true false = refl

further : (e f g : Entrant) → ComesBefore e f → ComesBefore f g → ComesBefore e g
further e f g (inl a) (inl b) = inl (omega arith)
further e f g (inl a) (inr b) = let same = b.0 in inl (omega arith)
further e f g (inr a) (inl b) = let same = a.0 in inl (omega arith)
further e f g (inr a) (inr b) = inr (a.0 ∙ b.0, (let l = a.1 in let m = b.1 in omega arith))

-- of two that aren't of one node and moment, one comes before the other
one-first : (e f : Entrant) → is_coming e.node e.moment f ≡ false → ComesBefore e f ⊎ ComesBefore f e
one-first e f apart = grind (arith, cases_order, eq-eqb)

fits-by : (e f : Entrant) → ComesBefore e f ⊎ ComesBefore f e → Fits ComesBefore comes_before e f
fits-by e f (inl first) = record { front = λ _. first; back = λ h. let yes' = comes-first e f first in cc }
fits-by e f (inr behind) = record { front = first-comes e f; back = λ _. behind }

pub sorted-with_entrant : (es : List Entrant) (e : Entrant) → list_any (is_coming e.node e.moment) es ≡ false → AllPairs ComesBefore es → AllPairs ComesBefore (with_entrant es e)
sorted-with_entrant es e new sorted =
    rw (is-put es e) (pairs-put ComesBefore comes_before es e (further e)
    (All-weaker (λ f. is_coming e.node e.moment f ≡ false) (Fits ComesBefore comes_before e) (λ f h. fits-by e f (one-first e f h)) es (none-passes (is_coming e.node e.moment) es new)) sorted)

-- ---- entrants of a list of nodes

-- somebody comes into a node of the list that is no exit, after moment 0
pub record IsComing (nodes : List NodeRow) (e : Entrant) : Type 0 where
  pub node_in : e.node < length nodes
  pub no_exit : IsFalse (is_exit (get_or nodes e.node no_node).name.kind)
  pub later : 1 ≤ e.moment
  pub somebody : 1 ≤ e.people

-- an entrant stays right where a node follows
pub coming-kept : (nodes : List NodeRow) (row : NodeRow) (e : Entrant) → IsComing nodes e → IsComing (nodes ++ (row ∷ [])) e
coming-kept nodes row e is = record {
  node_in = let longer = length-push nodes row in let h = is.node_in in omega arith;
  no_exit = let same : get_or (nodes ++ (row ∷ [])) e.node no_node ≡ get_or nodes e.node no_node = get_or_append_left nodes (row ∷ []) no_node e.node is.node_in in
      let P : NodeRow → Type 0 = λ n. IsFalse (is_exit n.name.kind) in subst P (sym same) is.no_exit;
  later = is.later;
  somebody = is.somebody;
}
