-- The text of a building, part by part, is that of the statements that say it.
use Rattle.std.proofs.Common.{◌≡◌, ℕ, zero, suc, ◌+◌, ◌≤◌, List, [], ◌∷◌, ◌++◌, length, map, take, get_or, refl, sym, ap, ◌∙◌, arith, append_assoc, append-nil}
use Rattle.std.specs.List.{flat_map}
use Rattle.std.proofs.Math.Seq.{take-length}
use Rattle.std.proofs.lemmas.Grind.{flat_map-append}
use Rattle.std.proofs.Math.ListN.{get_or-map}
use Rattle.std.proofs.lemmas.List.{length-map, take_more}
use Rattle.std.proofs.lemmas.List.Folds.{flat_map-map}
use Rattle.evac_law.specs.Sums.{below}
use Rattle.evac_law.specs.declared.model.ArcRow.{ArcRow}
use Rattle.evac_law.specs.declared.model.Model.{Model}
use Rattle.evac_law.proofs.PartLemmas.{flat_map-suc}
use Rattle.building_table.specs.declared.building.Building.{Building}
use Rattle.building_table.specs.Built.{IsBuilding}
use Rattle.building_table.specs.Names.{NameTable, names_of}
use Rattle.model_text.specs.Grammar.{Header, Part, Period, Horizon, End}
use Rattle.model_text.specs.Taken.{Description}
use Rattle.model_writer.specs.ModelText.{arc_text, building_text, entrant_text, floor_said, floor_text, floors_text, model_text, node_text, part_text, parts_said, rows_text, said_text, title_text, window_said, windows_said, windows_text}

-- parts by place are parts by element
by-places : {X : Type 0} (h : X → List ℕ) (xs : List X) (d : X) (n : ℕ) → n ≤ length xs → flat_map (λ i. h (get_or xs i d)) (below n) ≡ flat_map h (take n xs)
by-places h xs d zero l = refl
by-places h xs d (suc n) l =
    flat_map-suc (λ i. h (get_or xs i d)) n ∙ ap (λ t. t ++ h (get_or xs n d)) (by-places h xs d n (omega arith))
    ∙ ap (λ t. flat_map h (take n xs) ++ t) (sym (append-nil (h (get_or xs n d)))) ∙ sym (flat_map-append h (take n xs) (get_or xs n d ∷ []))
    ∙ ap (flat_map h) (sym (take_more xs n d (omega arith))) ∙ ap (λ k. flat_map h (take k xs)) (let e : n + 1 ≡ suc n = omega arith in e)

floors-said : (fs : List (ℕ × List ℕ)) → flat_map (floor_text (map (λ f. f.0) fs) (map (λ f. f.1) fs)) (below (length (map (λ (f : ℕ × List ℕ). f.0) fs))) ≡ flat_map part_text (map floor_said fs)
floors-said fs =
    let none : ℕ × List ℕ = (0, []) in
    let text : ℕ × List ℕ → List ℕ = λ f. part_text (floor_said f) in
    let same : (i : ℕ) → floor_text (map (λ f. f.0) fs) (map (λ f. f.1) fs) i ≡ text (get_or fs i none) = λ i.
    ap (λ n. part_text (floor_said (n, get_or (map (λ (f : ℕ × List ℕ). f.1) fs) i []))) (get_or-map (λ (f : ℕ × List ℕ). f.0) fs i none)
    ∙ ap (λ t. part_text (floor_said ((get_or fs i none).0, t))) (get_or-map (λ (f : ℕ × List ℕ). f.1) fs i none) in
    ap (λ n. flat_map (floor_text (map (λ f. f.0) fs) (map (λ f. f.1) fs)) (below n)) (length-map fs (λ (f : ℕ × List ℕ). f.0))
    ∙ ap (λ (g : ℕ → List ℕ). flat_map g (below (length fs))) (λ j i. same i j)
    ∙ by-places text fs none (length fs) (omega arith)
    ∙ ap (flat_map text) (take-length fs)
    ∙ sym (flat_map-map part_text floor_said fs)

windows-said : (m : Model) (arcs : List ArcRow) → flat_map (windows_text m) arcs ≡ flat_map part_text (flat_map (windows_said m) arcs)
windows-said m [] = refl
windows-said m (a ∷ arcs) =
    ap (λ t. t ++ flat_map (windows_text m) arcs) (sym (flat_map-map part_text (window_said m a) a.windows.items))
    ∙ ap (λ t. flat_map part_text (windows_said m a) ++ t) (windows-said m arcs)
    ∙ sym (flat_map-append part_text (windows_said m a) (flat_map (windows_said m) arcs))

joined : (s t p h f n a w e z : List ℕ) → (((((s ++ t) ++ p) ++ h) ++ f) ++ (((n ++ a) ++ w) ++ e)) ++ z ≡ s ++ ((t ++ (p ++ (h ++ (f ++ (n ++ (a ++ (w ++ e))))))) ++ (z ++ []))
joined s t p h f n a w e z = simp (append_assoc, append-nil)

-- the texts of a description's parts
parts-joined : (d : Description) → flat_map part_text (parts_said d)
    ≡ title_text d.title ++ (part_text (Period d.model.seconds) ++ (part_text (Horizon d.model.horizon)
    ++ (flat_map part_text (map floor_said d.floors) ++ (flat_map node_text d.model.nodes ++ (flat_map (arc_text d.model) d.model.arcs
    ++ (flat_map (windows_text d.model) d.model.arcs ++ flat_map (entrant_text d.model) d.model.entrants))))))
parts-joined d = grind (arith, flat_map-append, flat_map-map, windows-said)

-- the text by parts of a description
abbrev by-parts : Model → NameTable → List ℕ
by-parts m names =
    (((((said_text (Header 2) ++ title_text names.title) ++ part_text (Period m.seconds)) ++ part_text (Horizon m.horizon)) ++ floors_text names) ++ rows_text m) ++ said_text End

described : (d : Description) → by-parts d.model (names_of d) ≡ model_text d
unfolding model_text
described d =
    let m = d.model in
    joined (said_text (Header 2)) (title_text d.title) (part_text (Period m.seconds)) (part_text (Horizon m.horizon)) (floors_text (names_of d))
    (flat_map node_text m.nodes) (flat_map (arc_text m) m.arcs) (flat_map (windows_text m) m.arcs) (flat_map (entrant_text m) m.entrants) (said_text End)
    ∙ ap (λ f. said_text (Header 2) ++ ((title_text d.title ++ (part_text (Period m.seconds) ++ (part_text (Horizon m.horizon) ++ (f ++ (flat_map node_text m.nodes
    ++ (flat_map (arc_text m) m.arcs ++ (flat_map (windows_text m) m.arcs ++ flat_map (entrant_text m) m.entrants))))))) ++ (said_text End ++ []))) (floors-said d.floors)
    ∙ ap (λ x. said_text (Header 2) ++ (x ++ (said_text End ++ []))) (sym (parts-joined d) ∙ sym (flat_map-map said_text Part (parts_said d)))
    ∙ ap (λ x. said_text (Header 2) ++ x) (sym (flat_map-append said_text (map Part (parts_said d)) (End ∷ [])))

pub text-is : (b : Building) (d : Description) → IsBuilding b d → building_text b ≡ model_text d
text-is b d is = ap (λ m. by-parts m b.names) is.model ∙ ap (by-parts d.model) is.names ∙ described d
