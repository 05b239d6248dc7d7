-- What is saved of a grid, where a cell changes.
use Rattle.std.proofs.Common.{◌≡◌, ℕ, zero, suc, ◌+◌, ◌<◌, ◌≤◌, Bool, true, false, List, length, map, take, drop, set, get_or, refl, ap, sym, subst, ◌∙◌, arith, add-one, drop-cons, length-set, drop-set-lt}
use Rattle.std.proofs.Math.Seq.{map-set_same, sets}
use Rattle.std.proofs.lemmas.List.{append_assoc, drop-drop, length-append, length-drop, length-map, length-take}
use Rattle.std.proofs.lemmas.List.Edits.{sets-eq}
use borrow.Rule.Slice.PartMut.{put_mid}
use Rattle.residual_net.specs.declared.place.Place.{Place}
use Rattle.residual_net.specs.declared.place.Cell.{Cell}
use Rattle.residual_net.specs.Legs.{with_more}
use Rattle.residual_net.specs.Site.{IsPlace, cell_of}
use Rattle.residual_net.specs.Network.{Network, IsGrid, flow_at, no_cell}
use Rattle.residual_net.specs.Change.{IsLimitSet}
use Rattle.residual_net.specs.Start.{saved_cells}
use Rattle.residual_net.proofs.Steps.{limit_set}

-- a cell with the same limit changes nothing of what is saved
pub same_limit_saved : (b : Bool) (cells saved : List Cell) (i : ℕ) (c : Cell) → c.limit ≡ (get_or cells i no_cell).limit
    → saved_cells b (set cells i c) saved ≡ saved_cells b cells saved
same_limit_saved true cells saved i c h = refl
same_limit_saved false cells saved i c h = map-set_same (λ (z : Cell). record { flow = 0; limit = z.limit }) cells i c no_cell (ap (λ (n : ℕ). record { flow = 0; limit = n }) h)

-- cells changed one after another from a place on, and those from the next place on
pub sets_more : {X : Type 0} (f : X → X) (c i : ℕ) (l : List X) (d : X) → i < length l
    → sets (set l i (f (get_or l i d))) (i + 1) (map f (take c (drop (i + 1) (set l i (f (get_or l i d)))))) ≡ sets l i (map f (take (suc c) (drop i l)))
sets_more f c i l d lt = grind (arith, drop-set-lt, sets, add-one, drop-cons)

-- a part of a list that was changed as a whole
pub sets_put : (xs ys : List Cell) (a k x : ℕ) → a + k ≤ length xs → ys ≡ map (with_more x) (take k (drop a xs))
    → put_mid a k xs ys ≡ sets xs a (map (with_more x) (take k (drop a xs)))
sets_put xs ys a k x fits same = grind (arith, length-map, length-take, length-drop, drop-drop, append_assoc, sets-eq)

pub length_put : (xs ys : List Cell) (a k x : ℕ) → a + k ≤ length xs → ys ≡ map (with_more x) (take k (drop a xs)) → length (put_mid a k xs ys) ≡ length xs
length_put xs ys a k x fits same = grind (arith, length-map, length-take, length-drop, length-append)

-- more people over cells one after another change nothing of what is saved
pub more_saved : (b : Bool) (saved : List Cell) (x c i : ℕ) (cells : List Cell) → i + c ≤ length cells
    → saved_cells b (sets cells i (map (with_more x) (take c (drop i cells)))) saved ≡ saved_cells b cells saved
more_saved b saved x zero i cells fits = refl
more_saved b saved x (suc c) i cells fits =
    let more = with_more x (get_or cells i no_cell) in
    ap (λ z. saved_cells b z saved) (sym (sets_more (with_more x) c i cells no_cell (omega (arith, fits))))
    ∙ more_saved b saved x c (i + 1) (set cells i more) (omega (arith, fits, length-set cells i more))
    ∙ same_limit_saved b cells saved i more refl

-- a net that differs from another in its cells alone
pub other_cells : (v w : Network) (cells : List Cell) → v.site ≡ w.site → v.cells ≡ cells → v.saved ≡ w.saved → v ≡ record w { cells = cells }
other_cells v w cells e f g = grind arith

-- another limit at a place, with what was saved kept
pub limit_put : (v w : Network) (p : Place) (at : ℕ) (c : Cell) → IsGrid w → IsPlace w.site p → at ≡ cell_of w.site p → v.site ≡ w.site
    → v.cells ≡ set w.cells at c → v.saved ≡ w.saved → c.flow ≡ flow_at w p → IsLimitSet w v p c.limit
limit_put v w p at c g i here e f h flow =
    subst (λ (z : Network). IsLimitSet w z p c.limit) (sym (other_cells v w (set w.cells (cell_of w.site p) c) e (f ∙ ap (λ (z : ℕ). set w.cells z c) here) h))
    (limit_set w p c g i flow)
