use Rattle.std.proofs.Common.{◌≡◌, ◌≤◌, ◌++◌, List, arith, length, refl, sym}
use Rattle.std.specs.List.{All}
use Rattle.std.proofs.lemmas.List.{drop_at, take_at}
use Rattle.std.proofs.lemmas.List.Elements.{All-append, All-drop, All-same, All-take}
use Rattle.residual_net.specs.declared.place.Cell.{Cell}
use Rattle.residual_ways.proofs.cells.is_all_sent.Goals as goal

-- what holds of all in a list holds of all in both of its parts
All-parts : {X : Type 0} (P : X → Type 0) (whole xs ys : List X) → whole ≡ xs ++ ys → All P whole → All P xs × All P ys
All-parts P whole xs ys is all =
    let both = All-same P (xs ++ ys) whole (sym is) all in (
      All-same P _ _ (sym (take_at xs ys (length xs) refl)) (All-take P (length xs) (xs ++ ys) both),
      All-same P _ _ (sym (drop_at xs ys (length xs) refl)) (All-drop P (length xs) (xs ++ ys) both),
    )

pub loop-row-preserved : goal.loop-row-preserved
loop-row-preserved c =
    let P = λ (cell : Cell). cell.limit ≤ cell.flow in
    let row = c.in-Some.row.now in
    let rest = c.next.new.self.rest.now in
    let sent : All P row = grind arith in
    let is : c.loop-row.row-iterator.rest.now ≡ row ++ rest = grind arith in (
      λ all. c.loop-row.invariant.0 (All-same P _ _ is (All-append P row rest sent all)),
      λ all. (All-parts P _ row rest is (c.loop-row.invariant.1 all)).1,
    )

pub returns-then-not-are_sent : goal.returns-then-not-are_sent
returns-then-not-are_sent c =
    let P = λ (cell : Cell). cell.limit ≤ cell.flow in
    let row = c.in-Some.row.now in
    let rest = c.next.new.self.rest.now in
    let is : c.loop-row.row-iterator.rest.now ≡ row ++ rest = grind arith in (
      λ yes. cc,
      λ all.
          let left = c.loop-row.invariant.1 (rw c.supplies-supplies.ensures all.1) in
          cc (c.are_sent.ensures.1 (All-parts P _ row rest is left).0),
    )
