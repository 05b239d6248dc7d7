-- The floors of a drill, their texts, and a table of names.
use Rattle.std.proofs.Common.{◌≡◌, ℕ, ◌+◌, List, [], ◌∷◌, ◌++◌, map, refl, ap, ◌∙◌, add-one}
use Rattle.std.specs.declared.option.Option.{Option}
use Rattle.std.proofs.lemmas.List.{map-append}
use Rattle.evac_law.specs.Sums.{below}
use Rattle.evac_law.proofs.SumLemmas.{below-suc}
use Rattle.evac_law.specs.declared.name.NodeName.{NodeName}
use Rattle.building_table.specs.Names.{NameTable}

pub below-more : (n : ℕ) → below (n + 1) ≡ below n ++ (n ∷ [])
below-more n = ap below (add-one n) ∙ below-suc n

-- the text of one more floor
pub texts-more : {X : Type 0} (t : X) (n : ℕ) → map (λ (f : ℕ). t) (below (n + 1)) ≡ map (λ (f : ℕ). t) (below n) ++ (t ∷ [])
texts-more t n = ap (map (λ (f : ℕ). t)) (below-more n) ∙ map-append (λ (f : ℕ). t) (below n) (n ∷ [])

-- the numbers of floors that have one text, and their texts
pub numbers-of : {X : Type 0} (t : X) (floors : List ℕ) → map (λ (f : ℕ × X). f.0) (map (λ (f : ℕ). (f, t)) floors) ≡ floors
numbers-of t [] = refl
numbers-of t (f ∷ fs) = ap (λ l. f ∷ l) (numbers-of t fs)

pub texts-of : {X : Type 0} (t : X) (floors : List ℕ) → map (λ (f : ℕ × X). f.1) (map (λ (f : ℕ). (f, t)) floors) ≡ map (λ (f : ℕ). t) floors
texts-of t [] = refl
texts-of t (f ∷ fs) = ap (λ l. t ∷ l) (texts-of t fs)

abbrev make-table : List NodeName → List (ℕ × ℕ) → List ℕ → List (List ℕ) → Option (List ℕ) → NameTable
make-table nodes ends floors texts title = record { nodes = nodes; ends = ends; floors = floors; texts = texts; title = title }

-- a table is what its parts are
pub table-is : (n t : NameTable) → n.nodes ≡ t.nodes → n.ends ≡ t.ends → n.floors ≡ t.floors → n.texts ≡ t.texts → n.title ≡ t.title → n ≡ t
table-is n t nodes ends floors texts title =
    ap (λ x. make-table x n.ends n.floors n.texts n.title) nodes ∙ ap (λ x. make-table t.nodes x n.floors n.texts n.title) ends
    ∙ ap (λ x. make-table t.nodes t.ends x n.texts n.title) floors ∙ ap (λ x. make-table t.nodes t.ends t.floors x n.title) texts
    ∙ ap (λ x. make-table t.nodes t.ends t.floors t.texts x) title
