-- Names and ends that are listed one by one.
use Rattle.std.proofs.Common.{◌≡◌, ℕ, ◌+◌, ◌<◌, ◌≤◌, suc, Bool, true, false, cond, ◌&&◌, ◌==◌, List, [], ◌∷◌, ◌++◌, length, map, take, get_or, refl, sym, ap, ◌∙◌, arith}
use Rattle.std.specs.List.{list_any}
use Rattle.std.proofs.Math.Seq.{take-suc}
use Rattle.std.proofs.lemmas.Bool.{and_parts, eqb-true}
use Rattle.std.proofs.lemmas.List.{get_or-take, get_or_default, length-take-le, length-append, map-append}
use Rattle.std.proofs.lemmas.List.Elements.{All-from_get_or}
use Rattle.std.proofs.lemmas.List.Folds.{list_any_none}
use Rattle.indexmap.specs.IndexSet.{insert_key}
use Rattle.evac_law.specs.Building.{no_node, no_arc}
use Rattle.evac_law.specs.declared.model.ArcRow.{ArcRow}
use Rattle.evac_law.specs.declared.model.NodeRow.{NodeRow}
use Rattle.evac_law.specs.declared.name.NodeName.{NodeName}
use Rattle.evac_law.specs.contracts.name.NodeNamePartialEq.TheImpl.{eq-value}
use Rattle.model_text.specs.Taken.{same_name}
use Rattle.model_text.proofs.ListFacts.{any-map, same-name-is}
use Rattle.building_table.specs.Names.{NameLists, NamesDiffer, EndsDiffer, names_with, ends_with}
use Rattle.building_table.proofs.EqLemmas.{name-test, any-same}

-- the ends of an arc
abbrev pub ends-of : ArcRow → ℕ × ℕ
ends-of a = (a.from, a.to)

-- a list with one more key, where none passes the test
abbrev with-key : {K : Type 0} → (K → Bool) → List K → K → List K
with-key test keys key = cond (list_any test keys) keys (keys ++ (key ∷ []))

few-by : {K : Type 0} (t : Bool) (keys : List K) (key : K) → length (cond t keys (keys ++ (key ∷ []))) ≤ length keys + 1
few-by true keys key = omega arith
few-by false keys key = omega (arith, length-append keys (key ∷ []))

-- there is at most one more
pub few_names : (names : List NodeName) (name : NodeName) → length (names_with names name) ≤ length names + 1
few_names names name = few-by (list_any (λ n. same_name n name) names) names name

pub few_ends : (ends : List (ℕ × ℕ)) (new : ℕ × ℕ) → length (ends_with ends new) ≤ length ends + 1
few_ends ends new = few-by (list_any (λ (e : ℕ × ℕ). e.0 == new.0 && e.1 == new.1) ends) ends new

-- a set into which a name is put
pub insert-name : (names : List NodeName) (name : NodeName) → insert_key eq-value.it names name ≡ names_with names name
insert-name names name = grind (arith, any-same, name-test)

-- an index with these names
abbrev pub with-nodes : List (ℕ × ℕ) → List NodeName → NameLists
with-nodes ends nodes = record { nodes = nodes; ends = ends }

-- the key of one more row goes after those of the others, where none of them passes the test
push-key : {R K : Type 0} (key : R → K) (test : K → Bool) (rows : List R) (row : R) (keys : List K)
    → keys ≡ map key rows → list_any (λ r. test (key r)) rows ≡ false
    → with-key test keys (key row) ≡ map key (rows ++ (row ∷ []))
push-key key test rows row keys same new = grind (arith, any-map, map-append)

-- the name of one more node, and the ends of one more arc
pub push_name : (rows : List NodeRow) (row : NodeRow) (names : List NodeName)
    → names ≡ map (λ n. n.name) rows → list_any (λ n. same_name n.name row.name) rows ≡ false
    → names_with names row.name ≡ map (λ n. n.name) (rows ++ (row ∷ []))
push_name rows row names same new = push-key (λ (n : NodeRow). n.name) (λ n. same_name n row.name) rows row names same new

pub push_ends : (rows : List ArcRow) (row : ArcRow) (ends : List (ℕ × ℕ))
    → ends ≡ map ends-of rows → list_any (λ a. a.from == row.from && a.to == row.to) rows ≡ false
    → ends_with ends (ends-of row) ≡ map ends-of (rows ++ (row ∷ []))
push_ends rows row ends same new = push-key ends-of (λ (e : ℕ × ℕ). e.0 == row.from && e.1 == row.to) rows row ends same new

-- ---- rows in turn

-- the key of the next row goes after those before it, where none of them passes the test
add-next : {R K : Type 0} (key : R → K) (test : K → Bool) (rows : List R) (i : ℕ) (d : R) (keys : List K) → i < length rows
    → ((k : ℕ) → k < i → test (key (get_or rows k d)) ≡ false) → keys ≡ map key (take i rows)
    → with-key test keys (key (get_or rows i d)) ≡ map key (take (i + 1) rows)
add-next key test rows i d keys within differ same =
    push-key key test (take i rows) (get_or rows i d) keys same (list_any_none (λ r. test (key r)) (take i rows)
    (All-from_get_or (λ r. test (key r) ≡ false) (take i rows) d (λ k h.
    let short : k < i = omega (arith, length-take-le i rows) in
    ap (λ r. test (key r)) (get_or-take i rows k d short) ∙ differ k short)))
    ∙ ap (map key) (sym (ap (λ k. take k rows) (let e : i + 1 ≡ suc i = omega arith in e) ∙ take-suc rows i d within))

test-false : (t : Bool) → (t ≡ true → ⊥) → t ≡ false
test-false true h = absurd (h refl)
test-false false h = refl

-- the name of the next node
pub add_name : (rows : List NodeRow) (i : ℕ) (names : List NodeName)
    → i < length rows → NamesDiffer rows → names ≡ map (λ n. n.name) (take i rows)
    → names_with names (get_or rows i no_node).name ≡ map (λ n. n.name) (take (i + 1) rows)
add_name rows i names within differ same =
    let new = (get_or rows i no_node).name in
    add-next (λ (n : NodeRow). n.name) (λ n. same_name n new) rows i no_node names within (λ k h.
    let old = (get_or rows k no_node).name in
    test-false (same_name old new) (λ is. differ k i h within (same-name-is old new is))) same

-- the ends of the next arc
pub add_ends : (rows : List ArcRow) (i : ℕ) (d : ArcRow) (ends : List (ℕ × ℕ))
    → i < length rows → EndsDiffer rows → ends ≡ map ends-of (take i rows)
    → ends_with ends (ends-of (get_or rows i d)) ≡ map ends-of (take (i + 1) rows)
add_ends rows i d ends within differ same =
    let new = ends-of (get_or rows i no_arc) in
    ap (λ a. ends_with ends (ends-of a)) (get_or_default rows i d no_arc within)
    ∙ add-next ends-of (λ (e : ℕ × ℕ). e.0 == new.0 && e.1 == new.1) rows i no_arc ends within (λ k h.
    let old = ends-of (get_or rows k no_arc) in
    test-false (old.0 == new.0 && old.1 == new.1) (λ is.
    let both = and_parts (old.0 == new.0) (old.1 == new.1) is in
    differ k i h within (eqb-true old.0 new.0 both.0) (eqb-true old.1 new.1 both.1))) same
