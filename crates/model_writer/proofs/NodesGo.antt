-- Nodes one after the other.
use Rattle.std.proofs.Common.{◌≡◌, ◌≢◌, ℕ, ◌+◌, ◌<◌, ◌≤◌, Bool, true, false, not, ◌||◌, ◌==◌, cond, nat_le, nat_lt, List, [], ◌∷◌, ◌++◌, length, map, get_or, refl, sym, ap, subst, ◌∙◌, arith, length-append}
use Rattle.std.specs.List.{All, AllPairs, list_any, sum_by}
use Rattle.std.proofs.lemmas.Bool.{false_from_ne_true, le-ltb, lt-leb}
use Rattle.std.proofs.lemmas.List.Folds.{list_any_at}
use Rattle.std.proofs.lemmas.List.Sums.{position_or_len_is, sum_by-append, sum_by-cons}
use Rattle.evac_law.specs.Building.{IsNode, no_node, node_row}
use Rattle.evac_law.specs.Limits.{node_limit, people_limit}
use Rattle.evac_law.specs.Names.{is_exit}
use Rattle.evac_law.specs.declared.entrant.Entrant.{Entrant as Coming}
use Rattle.evac_law.specs.declared.model.NodeRow.{NodeRow}
use Rattle.evac_law.specs.declared.name.NodeName.{NodeName}
use Rattle.model_text.specs.Grammar.{SaidPart, Exit, IsSaidPart, Node}
use Rattle.model_text.specs.Taken.{place_of_node, same_name, part_checks, part_fault}
use Rattle.model_text.proofs.ListFacts.{any-map, same-name-is, same-name-self}
use Rattle.model_writer.specs.ModelText.{node_said}
use Rattle.model_writer.proofs.Adding.{Adds, AddsAll, Gathered, adds-each, all-one, gathered, neither, no-code, none-before}

abbrev pub NamesDiffer : NodeRow → NodeRow → Type 0
NamesDiffer a b = a.name ≢ b.name

-- ---- nodes by their names

-- names that aren't equal fail the test
pub apart-name : (a b : NodeName) → a ≢ b → same_name a b ≡ false
apart-name a b apart = false_from_ne_true (same_name a b) (λ same. apart (same-name-is a b same))

-- the node at a place is known by its name, and the place is the first of that name
pub known-at : (nodes : List NodeRow) (i : ℕ) → i < length nodes → list_any (λ n. same_name n.name (get_or nodes i no_node).name) nodes ≡ true
known-at nodes i within = list_any_at (λ n. same_name n.name (get_or nodes i no_node).name) nodes i no_node within (same-name-self (get_or nodes i no_node).name)

pub place-at : (nodes : List NodeRow) (i : ℕ) → AllPairs NamesDiffer nodes → i < length nodes → place_of_node nodes (get_or nodes i no_node).name ≡ i
place-at nodes i differ within =
    let name = (get_or nodes i no_node).name in
    position_or_len_is (λ n. same_name n.name name) nodes i no_node (omega arith)
    (λ k before. apart-name (get_or nodes k no_node).name name (differ k i no_node before within)) (λ _. same-name-self name)

-- ---- a node

-- a node of a valid model that isn't shut, on one of some floors
pub record IsPlainNode (floors : List (ℕ × List ℕ)) (n : NodeRow) : Type 0 where
  pub valid : IsNode n
  pub unshut : n.shut ≡ false
  pub listed : list_any (λ f. f.0 == n.name.floor) floors ≡ true

node-new : (done : List NodeRow) (n : NodeRow) (ns : List NodeRow) → AllPairs NamesDiffer (done ++ (n ∷ ns)) → list_any (λ x. same_name x.name n.name) done ≡ false
node-new done n ns differ = none-before NamesDiffer (λ x. same_name x.name n.name) done n ns (λ x apart. apart-name x.name n.name apart) differ

unshut-row : (n : NodeRow) (capacity start : ℕ) → capacity ≡ n.capacity → start ≡ n.start → n.shut ≡ false → node_row n.name capacity start ≡ n
unshut-row n capacity start c s unshut =
    ap (λ k. node_row n.name k start) c ∙ ap (node_row n.name n.capacity) s ∙ ap (λ b. record n { shut = b }) (sym unshut)

-- the people of nodes up to one are those of all but those after it
people-so-far : (done : List NodeRow) (n : NodeRow) (ns : List NodeRow) (coming : ℕ) → sum_by (λ x. x.start) (done ++ (n ∷ ns)) + coming ≤ people_limit
    → sum_by (λ x. x.start) done + coming + n.start ≤ people_limit
people-so-far done n ns coming few =
    let all = sum_by-append (λ (x : NodeRow). x.start) done (n ∷ ns) in
    let more = sum_by-cons (λ (x : NodeRow). x.start) n ns in
    omega arith

node-adds : (g : Gathered) (done : List NodeRow) (n : NodeRow) (ns : List NodeRow) (taken : List SaidPart) (t : Bool) → is_exit n.name.kind ≡ t → gathered taken ≡ record g { nodes = done }
    → IsPlainNode g.floors n → AllPairs NamesDiffer (done ++ (n ∷ ns)) → length (done ++ (n ∷ ns)) ≤ node_limit
    → sum_by (λ x. x.start) (done ++ (n ∷ ns)) + sum_by (λ e. e.people) g.entrants ≤ people_limit
    → Adds taken (cond t (Exit n.name) (Node n.name n.capacity n.start)) (record g { nodes = done ++ (n ∷ []) })
unfolding part_fault
node-adds g done n ns taken true exit is plain differ few people =
    let size = length-append done (n ∷ ns) in
    let node = plain.valid in
    let empty : n.capacity ≡ 0 = node.exit_is_empty exit in
    let said : IsSaidPart (Exit n.name) = (node.name, exit) in
    record {
      spelled = said;
      none = no-code (part_checks taken (Exit n.name)) (
        ap (λ (x : Gathered). not (list_any (λ f. f == n.name.floor) (map (λ (f : ℕ × List ℕ). f.0) x.floors))) is
            ∙ ap not (any-map (λ f. f == n.name.floor) (λ (f : ℕ × List ℕ). f.0) g.floors ∙ plain.listed),
        (
          ap (λ (x : Gathered). list_any (λ y. same_name y.name n.name) x.nodes) is ∙ node-new done n ns differ,
          (ap (λ (x : Gathered). nat_le node_limit (length x.nodes)) is ∙ lt-leb node_limit (length done) (omega arith), tt),
        ),
      );
      is = ap (λ (x : Gathered). record x { nodes = x.nodes ++ (node_row n.name 0 0 ∷ []) }) is
          ∙ ap (λ y. record g { nodes = done ++ (y ∷ []) }) (unshut-row n 0 0 (sym empty) (let fits = node.start_fits in omega arith) plain.unshut);
    }
node-adds g done n ns taken false room is plain differ few people =
    let size = length-append done (n ∷ ns) in
    let node = plain.valid in
    let start-fits = node.start_fits in
    let said : IsSaidPart (Node n.name n.capacity n.start) = (node.name, room, node.capacity_fits, (let fits = node.capacity_fits in omega arith)) in
    let few-people = people-so-far done n ns (sum_by (λ (e : Coming). e.people) g.entrants) people in
    record {
      spelled = said;
      none = no-code (part_checks taken (Node n.name n.capacity n.start)) (
        ap (λ (x : Gathered). not (list_any (λ f. f == n.name.floor) (map (λ (f : ℕ × List ℕ). f.0) x.floors))) is
            ∙ ap not (any-map (λ f. f == n.name.floor) (λ (f : ℕ × List ℕ). f.0) g.floors ∙ plain.listed),
        (
          ap (λ (x : Gathered). list_any (λ y. same_name y.name n.name) x.nodes) is ∙ node-new done n ns differ,
          (
            le-ltb n.capacity n.start start-fits,
            (
              ap (λ (x : Gathered). nat_le node_limit (length x.nodes) || nat_lt people_limit (sum_by (λ (y : NodeRow). y.start) x.nodes + sum_by (λ (e : Coming). e.people) x.entrants + n.start)) is
                  ∙ neither (nat_le node_limit (length done)) _ (lt-leb node_limit (length done) (omega arith)) (le-ltb people_limit _ few-people),
              tt,
            ),
          ),
        ),
      );
      is = ap (λ (x : Gathered). record x { nodes = x.nodes ++ (node_row n.name n.capacity n.start ∷ []) }) is
          ∙ ap (λ y. record g { nodes = done ++ (y ∷ []) }) (unshut-row n n.capacity n.start refl refl plain.unshut);
    }

-- ---- nodes

-- nodes whose names differ from one another
pub nodes-go : (g : Gathered) (ns : List NodeRow) (taken : List SaidPart) → gathered taken ≡ record g { nodes = [] } → All (IsPlainNode g.floors) ns → AllPairs NamesDiffer ns
    → length ns ≤ node_limit → sum_by (λ x. x.start) ns + sum_by (λ e. e.people) g.entrants ≤ people_limit → AddsAll taken (map node_said ns) (record g { nodes = ns })
nodes-go g ns taken is plain differ few people =
    let P : List NodeRow → Type 0 = λ l. All (IsPlainNode g.floors) l × AllPairs NamesDiffer l × (length l ≤ node_limit) × (sum_by (λ x. x.start) l + sum_by (λ e. e.people) g.entrants ≤ people_limit) in
    adds-each node_said (λ l. record g { nodes = l }) ns [] ns taken refl is (λ done n rest before split at.
    let k = subst P split (plain, differ, few, people) in
    node-adds g done n rest before (is_exit n.name.kind) refl at (all-one (IsPlainNode g.floors) done n rest k.0) k.1 k.2 k.3)
