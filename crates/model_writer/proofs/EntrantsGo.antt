-- Entrants one after the other.
use Rattle.std.proofs.Common.{◌≡◌, ℕ, ◌+◌, ◌≤◌, false, cond, not, nat_lt, List, [], ◌∷◌, ◌++◌, map, refl, ap, subst, ◌∙◌, arith, inl, inr}
use Rattle.std.specs.List.{All, AllPairs, list_any, sum_by}
use Rattle.std.proofs.lemmas.Bool.{and_parts, eqb-true, false_from_ne_true, le-ltb, ne_eqb}
use Rattle.std.proofs.lemmas.List.Elements.{All-head, All-tail, All-weaker}
use Rattle.std.proofs.lemmas.List.Sums.{sum_by-append, sum_by-cons}
use Rattle.evac_law.specs.Building.{IsEntrant}
use Rattle.evac_law.specs.Entrants.{ComesBefore}
use Rattle.evac_law.specs.Limits.{horizon_limit, people_limit}
use Rattle.evac_law.specs.declared.entrant.Entrant.{Entrant as Coming}
use Rattle.evac_law.specs.declared.model.Model.{Model}
use Rattle.evac_law.specs.declared.model.NodeRow.{NodeRow}
use Rattle.model_text.specs.Grammar.{SaidPart, Entrant, IsSaidPart}
use Rattle.model_text.specs.Taken.{comes_before, entrant_of, is_coming, place_of_node, same_name, part_checks, part_fault, with_entrant}
use Rattle.model_writer.specs.ModelText.{entrant_said, name_at}
use Rattle.model_writer.proofs.Adding.{Adds, AddsAll, Gathered, adds-each, all-one, before-one, gathered, neither, no-code, none-before, second-fails}
use Rattle.model_writer.proofs.ArcsGo.{AreNamed, known-name}

-- ---- the order

-- of two entrants only one comes before the other
later-test : (f e : Coming) → ComesBefore f e → comes_before e f ≡ false
later-test f e (inl less) = grind (arith, neither, le-ltb, ne_eqb)
later-test f e (inr first) = grind (arith, neither, le-ltb, second-fails)

-- and they aren't of one node and moment
apart-entrants : (f e : Coming) → ComesBefore f e → is_coming e.node e.moment f ≡ false
apart-entrants f e (inl less) = grind (arith, false_from_ne_true, and_parts, eqb-true)
apart-entrants f e (inr less) = grind (arith, false_from_ne_true, and_parts, eqb-true)

-- an entrant that all others come before stands last
entrant-last : (es : List Coming) (e : Coming) → All (λ f. comes_before e f ≡ false) es → with_entrant es e ≡ es ++ (e ∷ [])
entrant-last [] e later = refl
entrant-last (f ∷ es) e later =
    ap (λ t. cond t (e ∷ f ∷ es) (f ∷ with_entrant es e)) (All-head (λ f. comes_before e f ≡ false) f es later)
    ∙ ap (λ l. f ∷ l) (entrant-last es e (All-tail (λ f. comes_before e f ≡ false) f es later))

-- ---- an entrant

-- the people of entrants up to one are those of all but those after it
coming-so-far : (starting : ℕ) (done : List Coming) (e : Coming) (es : List Coming) → starting + sum_by (λ f. f.people) (done ++ (e ∷ es)) ≤ people_limit
    → starting + sum_by (λ f. f.people) done + e.people ≤ people_limit
coming-so-far starting done e es few =
    let all = sum_by-append (λ (f : Coming). f.people) done (e ∷ es) in
    let more = sum_by-cons (λ (f : Coming). f.people) e es in
    omega arith

entrant-adds : (m : Model) (g : Gathered) (horizon : ℕ) (done : List Coming) (e : Coming) (es : List Coming) (taken : List SaidPart) → AreNamed m.nodes
    → gathered taken ≡ record g { nodes = m.nodes; entrants = done } → IsEntrant m.nodes horizon e → horizon ≤ horizon_limit → AllPairs ComesBefore (done ++ (e ∷ es))
    → sum_by (λ n. n.start) m.nodes + sum_by (λ f. f.people) (done ++ (e ∷ es)) ≤ people_limit
    → Adds taken (entrant_said m e) (record g { nodes = m.nodes; entrants = done ++ (e ∷ []) })
unfolding part_fault
entrant-adds m g horizon done e es taken named is valid early sorted people =
    let name = name_at m e.node in
    let node = known-name m e.node named valid.node_in in
    let in-horizon = valid.in_horizon in
    let starting = sum_by (λ (n : NodeRow). n.start) m.nodes in
    let few-people = coming-so-far starting done e es people in
    let said : IsSaidPart (Entrant name e.moment e.people) =
    (node.named, valid.later, (let l : e.moment ≤ horizon_limit = omega arith in l), valid.somebody, (let l : e.people ≤ people_limit = omega arith in l)) in
    record {
      spelled = said;
      none = no-code (part_checks taken (entrant_said m e)) (
        ap (λ (x : Gathered). not (list_any (λ n. same_name n.name name) x.nodes)) is ∙ ap not node.listed,
        (
          valid.no_exit,
          (
            ap (λ (x : Gathered). list_any (is_coming (place_of_node x.nodes name) e.moment) x.entrants) is
                ∙ ap (λ i. list_any (is_coming i e.moment) done) node.placed
                ∙ none-before ComesBefore (is_coming e.node e.moment) done e es (λ f first. apart-entrants f e first) sorted,
            (
              ap (λ (x : Gathered). nat_lt people_limit (sum_by (λ (n : NodeRow). n.start) x.nodes + sum_by (λ (f : Coming). f.people) x.entrants + e.people)) is
                  ∙ le-ltb people_limit _ few-people,
              tt,
            ),
          ),
        ),
      );
      is = ap (λ (x : Gathered). record x { entrants = with_entrant x.entrants (entrant_of (place_of_node x.nodes name) e.moment e.people) }) is
          ∙ ap (λ i. record g { nodes = m.nodes; entrants = with_entrant done (entrant_of i e.moment e.people) }) node.placed
          ∙ ap (λ l. record g { nodes = m.nodes; entrants = l })
          (entrant-last done e (All-weaker (λ f. ComesBefore f e) (λ f. comes_before e f ≡ false) (λ f first. later-test f e first) done (before-one ComesBefore done e es sorted)));
    }

-- ---- entrants

-- entrants in order
pub entrants-go : (m : Model) (g : Gathered) (horizon : ℕ) (es : List Coming) (taken : List SaidPart) → AreNamed m.nodes → gathered taken ≡ record g { nodes = m.nodes; entrants = [] }
    → All (IsEntrant m.nodes horizon) es → horizon ≤ horizon_limit → AllPairs ComesBefore es → sum_by (λ n. n.start) m.nodes + sum_by (λ f. f.people) es ≤ people_limit
    → AddsAll taken (map (entrant_said m) es) (record g { nodes = m.nodes; entrants = es })
entrants-go m g horizon es taken named is valid early sorted people =
    let P : List Coming → Type 0 = λ l. All (IsEntrant m.nodes horizon) l × AllPairs ComesBefore l × (sum_by (λ n. n.start) m.nodes + sum_by (λ f. f.people) l ≤ people_limit) in
    adds-each (entrant_said m) (λ l. record g { nodes = m.nodes; entrants = l }) es [] es taken refl is (λ done e rest before split at.
    let k = subst P split (valid, sorted, people) in entrant-adds m g horizon done e rest before named at (all-one (IsEntrant m.nodes horizon) done e rest k.0) early k.1 k.2)
