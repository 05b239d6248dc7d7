-- The rows so far, and those of the entries that are left.
use Rattle.std.proofs.Common.{◌≡◌, ◌++◌, map}
use Rattle.building_table.specs.EntrantRows.{entrant_row}
use Rattle.building_table.proofs.entrants.EntrantTable.rows.Given as goal

abbrev pub invariant-loop-key : goal.invariant-loop-key
invariant-loop-key l = l.rows.items ++ map entrant_row l.key-iterator ≡ l.self
