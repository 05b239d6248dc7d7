use Rattle.std.specs.Prelude.{◌≤◌, ◌↔◌}
use Rattle.std.specs.List.{All}
use Rattle.residual_ways.proofs.cells.is_all_sent.Given as goal

-- what is left to look at decides
abbrev pub invariant-loop-row : goal.invariant-loop-row
invariant-loop-row l = All (λ cell. cell.limit ≤ cell.flow) l.row-iterator.rest.now ↔ All (λ cell. cell.limit ≤ cell.flow) l.supplies
