-- Arcs one after the other.
use Rattle.std.proofs.Common.{◌≡◌, ◌≢◌, ℕ, ◌<◌, ◌≤◌, true, false, not, nat_le, List, [], ◌∷◌, ◌++◌, length, map, sym, ap, subst, ◌∙◌, arith, length-append, refl}
use Rattle.std.specs.List.{All, AllPairs, list_any}
use Rattle.std.proofs.lemmas.Bool.{and_parts, eqb-true, false_from_ne_true, lt-leb}
use Rattle.std.proofs.lemmas.List.{length-map, map-append}
use Rattle.evac_law.specs.Building.{IsArc, arc_row, no_node}
use Rattle.evac_law.specs.Limits.{arc_limit}
use Rattle.evac_law.specs.Names.{IsName}
use Rattle.evac_law.specs.declared.model.ArcRow.{ArcRow}
use Rattle.evac_law.specs.declared.model.Model.{Model}
use Rattle.evac_law.specs.declared.model.NodeRow.{NodeRow}
use Rattle.evac_law.specs.declared.name.NodeName.{NodeName}
use Rattle.model_text.specs.Grammar.{SaidPart, Arc, IsSaidPart}
use Rattle.model_text.specs.Taken.{joins, place_of_node, same_name, part_checks, part_fault}
use Rattle.model_text.proofs.ListFacts.{any-map}
use Rattle.model_writer.specs.ModelText.{arc_said, name_at}
use Rattle.model_writer.proofs.Adding.{Adds, AddsAll, Gathered, adds-each, all-one, gathered, no-code, none-before}
use Rattle.model_writer.proofs.NodesGo.{NamesDiffer, apart-name, known-at, place-at}

-- ---- the ends of an arc

abbrev pub EndsDiffer : ArcRow → ArcRow → Type 0
EndsDiffer a b = a.from ≡ b.from → a.to ≢ b.to

-- nodes with names, no two with the same
pub record AreNamed (nodes : List NodeRow) : Type 0 where
  pub names : All (λ n. IsName n.name) nodes
  pub differ : AllPairs NamesDiffer nodes

-- the name of a node and the place that it is found at
pub record IsKnown (nodes : List NodeRow) (i : ℕ) (name : NodeName) : Type 0 where
  pub named : IsName name
  pub listed : list_any (λ n. same_name n.name name) nodes ≡ true
  pub placed : place_of_node nodes name ≡ i

pub known-name : (m : Model) (i : ℕ) → AreNamed m.nodes → i < length m.nodes → IsKnown m.nodes i (name_at m i)
known-name m i named within = record { named = named.names i no_node within; listed = known-at m.nodes i within; placed = place-at m.nodes i named.differ within }

pub apart-ends : (a b : ArcRow) → EndsDiffer a b → joins b.from b.to a ≡ false
apart-ends a b differ = grind (arith, false_from_ne_true, and_parts, differ, eqb-true)

-- ---- an arc

-- an arc of a valid model that isn't shut
pub record IsPlainArc (nodes : List NodeRow) (a : ArcRow) : Type 0 where
  pub valid : IsArc nodes a
  pub unshut : a.shut ≡ false

-- an arc before its windows
abbrev pub bare : ArcRow → ArcRow
bare a = arc_row a.from a.to a.travel a.rate

arc-adds : (m : Model) (g : Gathered) (done : List ArcRow) (a : ArcRow) (as' : List ArcRow) (taken : List SaidPart) → AreNamed m.nodes
    → gathered taken ≡ record g { nodes = m.nodes; arcs = map bare done } → IsArc m.nodes a → AllPairs EndsDiffer (done ++ (a ∷ as')) → length (done ++ (a ∷ as')) ≤ arc_limit
    → Adds taken (arc_said m a) (record g { nodes = m.nodes; arcs = map bare (done ++ (a ∷ [])) })
unfolding part_fault
arc-adds m g done a as' taken named is valid differ few =
    let size = length-append done (a ∷ as') in
    let same-size = length-map done bare in
    let from = name_at m a.from in
    let to = name_at m a.to in
    let tail = known-name m a.from named valid.from_in in
    let head = known-name m a.to named valid.to_in in
    let said : IsSaidPart (Arc from to a.travel a.rate) = (tail.named, head.named, valid.travel_fits.0, valid.travel_fits.1, valid.rate_fits) in
    let with-arcs : List ArcRow → Gathered = λ l. record g { nodes = m.nodes; arcs = l } in
    let with-ends : ℕ → ℕ → Gathered = λ i j. with-arcs (map bare done ++ (arc_row i j a.travel a.rate ∷ [])) in
    record {
      spelled = said;
      none = no-code (part_checks taken (arc_said m a)) (
        ap (λ (x : Gathered). not (list_any (λ n. same_name n.name from) x.nodes)) is ∙ ap not tail.listed,
        (
          ap (λ (x : Gathered). not (list_any (λ n. same_name n.name to) x.nodes)) is ∙ ap not head.listed,
          (
            apart-name from to (λ same. valid.apart (sym tail.placed ∙ ap (place_of_node m.nodes) same ∙ head.placed)),
            (
              valid.from_no_exit,
              (
                ap (λ (x : Gathered). list_any (joins (place_of_node x.nodes from) (place_of_node x.nodes to)) x.arcs) is
                    ∙ ap (λ i. list_any (joins i (place_of_node m.nodes to)) (map bare done)) tail.placed
                    ∙ ap (λ j. list_any (joins a.from j) (map bare done)) head.placed
                    ∙ any-map (joins a.from a.to) bare done
                    ∙ none-before EndsDiffer (joins a.from a.to) done a as' (λ x apart. apart-ends x a apart) differ,
                (ap (λ (x : Gathered). nat_le arc_limit (length x.arcs)) is ∙ lt-leb arc_limit (length (map bare done)) (omega arith), tt),
              ),
            ),
          ),
        ),
      );
      is = ap (λ (x : Gathered). record x { arcs = x.arcs ++ (arc_row (place_of_node x.nodes from) (place_of_node x.nodes to) a.travel a.rate ∷ []) }) is
          ∙ ap (λ i. with-ends i (place_of_node m.nodes to)) tail.placed ∙ ap (with-ends a.from) head.placed
          ∙ ap with-arcs (sym (map-append bare done (a ∷ [])));
    }

-- ---- arcs

-- arcs whose ends differ from one another, before their windows
pub arcs-go : (m : Model) (g : Gathered) (as' : List ArcRow) (taken : List SaidPart) → AreNamed m.nodes → gathered taken ≡ record g { nodes = m.nodes; arcs = [] }
    → All (IsPlainArc m.nodes) as' → AllPairs EndsDiffer as' → length as' ≤ arc_limit → AddsAll taken (map (arc_said m) as') (record g { nodes = m.nodes; arcs = map bare as' })
arcs-go m g as' taken named is plain differ few =
    let P : List ArcRow → Type 0 = λ l. All (IsPlainArc m.nodes) l × AllPairs EndsDiffer l × (length l ≤ arc_limit) in
    adds-each (arc_said m) (λ l. record g { nodes = m.nodes; arcs = map bare l }) as' [] as' taken refl is (λ done a rest before split at.
    let k = subst P split (plain, differ, few) in arc-adds m g done a rest before named at (all-one (IsPlainArc m.nodes) done a rest k.0).valid k.1 k.2)
