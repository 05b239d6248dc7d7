-- The steps of the walk through the parts of a cut's value.
use Rattle.std.proofs.Common.{◌≡◌, ℕ, suc, ◌+◌, ◌-◌, ◌*◌, ◌<◌, ◌≤◌, List, [], ◌++◌, length, refl, ap, sym, ◌∙◌, arith, append_assoc, append-nil, mul-le-mul_right}
use Rattle.evac_law.specs.declared.model.Model.{Model}
use Rattle.evac_law.specs.declared.cut.CutItem.{CutItem}
use Rattle.evac_law.specs.Cuts.{Cut, arc_part, hold_items, arc_items, cut_items}
use Rattle.cut_witness.specs.declared.position.Part.{Part}
use Rattle.cut_witness.specs.declared.position.Part.TheVariants.{Entries, Holds, Arcs}
use Rattle.cut_witness.specs.declared.position.Position.{Position}
use Rattle.cut_witness.specs.Walk.{rest_of_rows}
use Rattle.cut_witness.specs.Crossing.{next_part, part_at, rest_in, rest_at, rows_of, width_of, IsPosition, left_in, left_at}
use Rattle.cut_witness.proofs.WalkLemmas.{rest-more, rest-turn, rest-start, left-more, left-turn}

-- what stands after the rows of a part
abbrev pub after : Model → Cut → ℕ → Part → List CutItem
after m x k Entries = hold_items m x k ++ arc_items m x k
after m x k Holds = arc_items m x k
after m x k Arcs = []

pub rest_is : (m : Model) (x : Cut) (k : ℕ) (p : Part) (i j : ℕ)
    → rest_in m x k p i j ≡ rest_of_rows (part_at m x k p) (width_of m k p) i j (rows_of m k p - i) ++ after m x k p
rest_is m x k Entries i j = refl
rest_is m x k Holds i j = refl
rest_is m x k Arcs i j = sym (append-nil (rest_of_rows (arc_part m x k) (length m.arcs) i j (k + 1 - i)))

pub rest_more : (m : Model) (x : Cut) (k : ℕ) (p : Part) (i j : ℕ) → i < rows_of m k p → j < width_of m k p
    → rest_in m x k p i j ≡ part_at m x k p i j ++ rest_in m x k p i (j + 1)
rest_more m x k p i j l h =
    let rows : rows_of m k p - i ≡ suc (rows_of m k p - (i + 1)) = omega arith in
    rest_is m x k p i j
    ∙ ap (λ z. z ++ after m x k p) (rest-more (part_at m x k p) (width_of m k p) i j (rows_of m k p - i) (rows_of m k p - (i + 1)) h rows)
    ∙ append_assoc (part_at m x k p i j) (rest_of_rows (part_at m x k p) (width_of m k p) i (j + 1) (rows_of m k p - i)) (after m x k p)
    ∙ ap (λ z. part_at m x k p i j ++ z) (sym (rest_is m x k p i (j + 1)))

pub rest_turn : (m : Model) (x : Cut) (k : ℕ) (p : Part) (i : ℕ) → i < rows_of m k p
    → rest_in m x k p i (width_of m k p) ≡ rest_in m x k p (i + 1) 0
rest_turn m x k p i l = grind (arith, rest_is, rest-turn)

pub rest_done : (m : Model) (x : Cut) (k : ℕ) (p : Part) (j : ℕ) → rest_in m x k p (rows_of m k p) j ≡ after m x k p
rest_done m x k p j = grind (arith, rest_is)

pub holds_start : (m : Model) (x : Cut) (k : ℕ) → rest_in m x k Holds 0 0 ≡ after m x k Entries
holds_start m x k = grind (arith, rest-start)

pub arcs_start : (m : Model) (x : Cut) (k : ℕ) → rest_in m x k Arcs 0 0 ≡ after m x k Holds
arcs_start m x k = grind (arith, rest-start)

pub items_start : (m : Model) (x : Cut) (k : ℕ) → rest_in m x k Entries 0 0 ≡ cut_items m x k
unfolding cut_items
items_start m x k = grind (arith, rest-start)

pub left_more : (m : Model) (k : ℕ) (p : Part) (i j : ℕ) → i < rows_of m k p → j < width_of m k p → left_in m k p i (j + 1) < left_in m k p i j
left_more m k Entries i j l h = omega (arith, left-more (length m.nodes) (k + 1) i j l h)
left_more m k Holds i j l h = omega (arith, left-more (length m.nodes) k i j l h)
left_more m k Arcs i j l h = omega (arith, left-more (k + 1) (length m.arcs) i j l h)

pub left_turn : (m : Model) (k : ℕ) (p : Part) (i : ℕ) → i < rows_of m k p → left_in m k p (i + 1) 0 < left_in m k p i (width_of m k p)
left_turn m k Entries i l = omega (arith, left-turn (length m.nodes) (k + 1) i l)
left_turn m k Holds i l = omega (arith, left-turn (length m.nodes) k i l)
left_turn m k Arcs i l = omega (arith, left-turn (k + 1) (length m.arcs) i l)

-- ---- the same at a position

pub at_more : (m : Model) (x : Cut) (k : ℕ) (p : Position) → p.row < rows_of m k p.part → p.column < width_of m k p.part
    → (rest_at m x k p ≡ part_at m x k p.part p.row p.column ++ rest_at m x k (record p { column = p.column + 1 }))
    × (left_at m k (record p { column = p.column + 1 }) < left_at m k p)
unfolding rest_at left_at
at_more m x k p l h = (rest_more m x k p.part p.row p.column l h, left_more m k p.part p.row p.column l h)

pub at_turn : (m : Model) (x : Cut) (k : ℕ) (p : Position) → p.row < rows_of m k p.part → p.column ≡ width_of m k p.part
    → (rest_at m x k p ≡ rest_at m x k (record p { row = p.row + 1; column = 0 }))
    × (left_at m k (record p { row = p.row + 1; column = 0 }) < left_at m k p)
unfolding rest_at left_at
at_turn m x k p l e = grind (arith, rest_turn, left_turn)

end_of : (m : Model) (x : Cut) (k : ℕ) (q : Part) (i j : ℕ) → i ≡ rows_of m k q → j ≡ 0 → 0 < left_in m k q i j
    → (after m x k q ≡ rest_in m x k (next_part q) 0 0) × (left_in m k (next_part q) 0 0 < left_in m k q i j)
end_of m x k Entries i j e z s = (sym (holds_start m x k), omega arith)
end_of m x k Holds i j e z s = (sym (arcs_start m x k), omega arith)
end_of m x k Arcs i j e z s = grind arith

-- at the end of a part's rows the next part begins
pub at_end : (m : Model) (x : Cut) (k : ℕ) (p : Position) → p.row ≡ rows_of m k p.part → p.column ≡ 0 → 0 < left_at m k p
    → (rest_at m x k p ≡ rest_at m x k (record { part = next_part p.part; row = 0; column = 0 }))
    × (left_at m k (record { part = next_part p.part; row = 0; column = 0 }) < left_at m k p)
unfolding rest_at left_at
at_end m x k p e z some = grind (arith, end_of, rest_done)

-- where the walk still makes steps, and where it is at its end
pub some_left : (m : Model) (k : ℕ) (p : Part) (i j : ℕ) → (p ≡ Arcs → i < k + 1) → j ≤ width_of m k p → 0 < left_in m k p i j
some_left m k Entries i j l w = omega arith
some_left m k Holds i j l w = omega arith
some_left m k Arcs i j l w =
    let in_rows = l refl in
    let row : suc 0 * (length m.arcs + 1) ≤ (k + 1 - i) * (length m.arcs + 1) = mul-le-mul_right (length m.arcs + 1) (omega arith) in
    omega (arith, row)

pub at_some : (m : Model) (k : ℕ) (p : Position) → IsPosition m k p → (p.part ≡ Arcs → p.row < k + 1) → 0 < left_at m k p
unfolding left_at
at_some m k p h l = some_left m k p.part p.row p.column l h.column_in

pub at_none : (m : Model) (x : Cut) (k : ℕ) (p : Position) → p.part ≡ Arcs → k + 1 ≤ p.row → rest_at m x k p ≡ []
unfolding rest_at
at_none m x k p e l = grind arith
