-- Lines of a bounded length describe a plain building.
use Rattle.std.proofs.Common.{◌≡◌, ◌≢◌, ℕ, ◌+◌, ◌<◌, ◌≤◌, zero, suc, true, false, not, ◌||◌, ◌==◌, nat_le, nat_lt, List, [], ◌∷◌, ◌++◌, length, Ok, Err, None, refl, sym, ap, subst, ◌∙◌, arith, eq-eqb}
use Rattle.std.specs.Prelude.{decimal, MatchOption, ⊤}
use Rattle.std.specs.List.{All, AllPairs, list_any}
use Rattle.std.proofs.lemmas.List.Elements.{All-cons, All-head, All-nil, All-push, All-tail, All-weaker}
use Rattle.std.proofs.lemmas.List.Folds.{list_any-append}
use Rattle.std.proofs.lemmas.List.Quantifiers.{all_pairs_push}
use Rattle.evac_law.specs.declared.code.Code.TheVariants.{RepeatedSetting, UnknownFloor, RepeatedNode, OverFull, TooMany}
use Rattle.evac_law.specs.Building.{node_row}
use Rattle.evac_law.specs.Limits.{floor_limit, floor_number_limit, node_limit, people_limit}
use Rattle.evac_law.specs.declared.model.ArcRow.{ArcRow}
use Rattle.evac_law.specs.declared.model.NodeRow.{NodeRow}
use Rattle.evac_law.specs.declared.window.Window.{Window as ClosureWindow}
use Rattle.model_text.specs.Grammar.{SaidPart, Title, Floor, Node, Exit, Arc, Window}
use Rattle.model_text.specs.Plain.{IsContentWithin, IsPlain, IsTextBehind}
use Rattle.model_text.specs.Readings.{Line, Described, AtStart, reading_at}
use Rattle.model_text.specs.Taken.{AreTaken, Description, arcs_of, closing, description_of, end_fault, floors_of, has_floor, has_node, model_taken, nodes_of, people_of, part_fault, title_of}
use Rattle.model_text.proofs.ListFacts.{any-map, length-push, missing, not-false}
use Rattle.model_text.proofs.ReadingLemmas.{Says, reading-said}
use Rattle.model_text.proofs.SoundLemmas.{below-limit, first-none, may-end, none-four, none-three, taken-valid}
use Rattle.model_text.proofs.TextLemmas.{HasText, line-text}

-- ---- nothing is shut

nodes-open : (taken : List SaidPart) → All (λ n. n.shut ≡ false) (nodes_of taken)
nodes-open [] = All-nil (λ (n : NodeRow). n.shut ≡ false)
nodes-open (Node name capacity start ∷ before) = All-push (λ (n : NodeRow). n.shut ≡ false) (nodes_of before) (node_row name capacity start) (nodes-open before) refl
nodes-open (Exit name ∷ before) = All-push (λ (n : NodeRow). n.shut ≡ false) (nodes_of before) (node_row name 0 0) (nodes-open before) refl
nodes-open (_ ∷ before) = nodes-open before

abbrev IsOpen : ArcRow → Type 0
IsOpen a = a.shut ≡ false

closing-open : (arcs : List ArcRow) (place : ℕ) (w : ClosureWindow) → All IsOpen arcs → All IsOpen (closing arcs place w)
closing-open [] place w each = All-nil IsOpen
closing-open (a ∷ arcs) zero w each = All-cons IsOpen _ arcs (All-head IsOpen a arcs each) (All-tail IsOpen a arcs each)
closing-open (a ∷ arcs) (suc n) w each = All-cons IsOpen a (closing arcs n w) (All-head IsOpen a arcs each) (closing-open arcs n w (All-tail IsOpen a arcs each))

arcs-open : (taken : List SaidPart) → All IsOpen (arcs_of taken)
arcs-open [] = All-nil IsOpen
arcs-open (Arc start finish travel rate ∷ before) = All-push IsOpen (arcs_of before) _ (arcs-open before) refl
arcs-open (Window start finish first until ∷ before) = closing-open (arcs_of before) _ _ (arcs-open before)
arcs-open (_ ∷ before) = arcs-open before

-- ---- floors

abbrev IsOn : NodeRow → List (ℕ × List ℕ) → Type 0
IsOn n floors = list_any (λ f. f.0 == n.name.floor) floors ≡ true

abbrev FloorsDiffer : ℕ × List ℕ → ℕ × List ℕ → Type 0
FloorsDiffer f g = f.0 ≢ g.0

abbrev IsWithin : ℕ × List ℕ → Type 0
IsWithin f = f.0 ≤ floor_number_limit

abbrev HasFloorText : ℕ → ℕ × List ℕ → Type 0
HasFloorText limit f = IsTextBehind limit (7 + length (decimal f.0)) f.1

-- floors as a plain building has them, among them that of each node
record AreFloors (limit : ℕ) (floors : List (ℕ × List ℕ)) (nodes : List NodeRow) : Type 0 where
  few : length floors ≤ floor_limit
  fit : All IsWithin floors
  differ : AllPairs FloorsDiffer floors
  texts : All (HasFloorText limit) floors
  listed : All (λ n. IsOn n floors) nodes

floors-none : (limit : ℕ) → AreFloors limit [] []
floors-none limit = record {
  few = omega arith;
  fit = All-nil IsWithin;
  differ = λ i j d before within. absurd (omega arith);
  texts = All-nil (HasFloorText limit);
  listed = All-nil (λ n. IsOn n []);
}

-- one more floor
on-kept : (floors : List (ℕ × List ℕ)) (new : ℕ × List ℕ) (n : NodeRow) → IsOn n floors → IsOn n (floors ++ (new ∷ []))
on-kept floors new n on = list_any-append (λ f. f.0 == n.name.floor) floors (new ∷ []) ∙ ap (λ t. t || list_any (λ f. f.0 == n.name.floor) (new ∷ [])) on

floors-floor : (limit : ℕ) (floors : List (ℕ × List ℕ)) (nodes : List NodeRow) (new : ℕ × List ℕ) → AreFloors limit floors nodes → IsWithin new → HasFloorText limit new
    → list_any (λ f. f.0 == new.0) floors ≡ false → length floors < floor_limit → AreFloors limit (floors ++ (new ∷ [])) nodes
floors-floor limit floors nodes new are within text unlisted few = record {
  few = let longer = length-push floors new in omega arith;
  fit = All-push IsWithin floors new are.fit within;
  differ = all_pairs_push FloorsDiffer floors new are.differ (λ k d inside same. missing (λ f. f.0 == new.0) floors k d unlisted inside (eq-eqb _ new.0 same));
  texts = All-push (HasFloorText limit) floors new are.texts text;
  listed = All-weaker (λ n. IsOn n floors) (λ n. IsOn n (floors ++ (new ∷ []))) (on-kept floors new) nodes are.listed;
}

-- one more node
floors-node : (limit : ℕ) (floors : List (ℕ × List ℕ)) (nodes : List NodeRow) (row : NodeRow) → AreFloors limit floors nodes → IsOn row floors → AreFloors limit floors (nodes ++ (row ∷ []))
floors-node limit floors nodes row are on = record {
  few = are.few;
  fit = are.fit;
  differ = are.differ;
  texts = are.texts;
  listed = All-push (λ n. IsOn n floors) nodes row are.listed on;
}

-- a number is a floor's where it is among the floors' numbers
has-floor : (before : List SaidPart) (floor : ℕ) → has_floor before floor ≡ list_any (λ f. f.0 == floor) (floors_of before)
has-floor before floor = any-map (λ f. f == floor) (λ (f : ℕ × List ℕ). f.0) (floors_of before)

floors-of : (limit : ℕ) (taken : List SaidPart) → AreTaken taken → All (HasText limit) taken → AreFloors limit (floors_of taken) (nodes_of taken)
unfolding part_fault
floors-of limit [] are texts = floors-none limit
floors-of limit (Floor floor text ∷ before) are texts =
    let full = nat_le floor_limit (length (floors_of before)) in
    let new = first-none (has_floor before floor) RepeatedSetting ((full, TooMany) ∷ []) are.1 in
    let few = first-none full TooMany [] new.1 in
    floors-floor limit (floors_of before) (nodes_of before) (floor, text) (floors-of limit before are.2 (All-tail (HasText limit) (Floor floor text) before texts))
    are.0.0 (All-head (HasText limit) (Floor floor text) before texts) (sym (has-floor before floor) ∙ new.0) (below-limit floor_limit (length (floors_of before)) few.0)
floors-of limit (Node name capacity start ∷ before) are texts =
    let s = Node name capacity start in
    let crowded = nat_le node_limit (length (nodes_of before)) || nat_lt people_limit (people_of before + start) in
    let none = none-four (not (has_floor before name.floor)) (has_node before name) (nat_lt capacity start) crowded UnknownFloor RepeatedNode OverFull TooMany are.1 in
    floors-node limit (floors_of before) (nodes_of before) (node_row name capacity start) (floors-of limit before are.2 (All-tail (HasText limit) s before texts))
    (sym (has-floor before name.floor) ∙ not-false (has_floor before name.floor) none.0)
floors-of limit (Exit name ∷ before) are texts =
    let none = none-three (not (has_floor before name.floor)) (has_node before name) (nat_le node_limit (length (nodes_of before))) UnknownFloor RepeatedNode TooMany are.1 in
    floors-node limit (floors_of before) (nodes_of before) (node_row name 0 0) (floors-of limit before are.2 (All-tail (HasText limit) (Exit name) before texts))
    (sym (has-floor before name.floor) ∙ not-false (has_floor before name.floor) none.0)
floors-of limit (s ∷ before) are texts = floors-of limit before are.2 (All-tail (HasText limit) s before texts)

-- ---- the building

title-text : (limit : ℕ) (taken : List SaidPart) → All (HasText limit) taken → MatchOption (title_of taken) ⊤ (λ text. IsTextBehind limit 6 text)
title-text limit [] texts = tt
title-text limit (Title text ∷ before) texts = All-head (HasText limit) (Title text) before texts
title-text limit (s ∷ before) texts = title-text limit before (All-tail (HasText limit) s before texts)

-- parts that were taken, whose texts fit, describe a plain building where they may end
pub taken-plain : (limit : ℕ) (taken : List SaidPart) → AreTaken taken → All (HasText limit) taken → end_fault taken ≡ None → IsPlain limit (description_of taken)
unfolding model_taken
taken-plain limit taken are texts h =
    let floors = floors-of limit taken are texts in
    record {
      valid = taken-valid taken are h;
      nodes_open = nodes-open taken;
      arcs_open = arcs-open taken;
      has_exit = (may-end taken h).has_exit;
      title = title-text limit taken texts;
      few_floors = floors.few;
      floors_fit = floors.fit;
      floors_differ = floors.differ;
      floor_texts = floors.texts;
      floors_listed = floors.listed;
    }

says-text : (limit : ℕ) (line : Line) → IsContentWithin limit line → Says (HasText limit) line
says-text limit (Ok content) fits s h = line-text limit content fits s h
says-text limit (Err code) fits s h = absurd h

-- the building that lines of a bounded length describe is plain
pub opening-plain : (limit : ℕ) (lines : List Line) (before : ℕ) (d : Description) (last : ℕ) (rest : List Line) → All (IsContentWithin limit) lines
    → reading_at AtStart before lines ≡ Described d last rest → IsPlain limit d
opening-plain limit lines before d last rest fit h =
    let by = reading-said (HasText limit) AtStart lines before d last rest (All-weaker (IsContentWithin limit) (Says (HasText limit)) (says-text limit) lines fit) tt h in
    subst (IsPlain limit) by.is (taken-plain limit by.taken by.are by.each by.may_end)
