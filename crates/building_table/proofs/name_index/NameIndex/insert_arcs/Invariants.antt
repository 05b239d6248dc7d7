-- The ends of the arcs so far.
use Rattle.std.proofs.Common.{◌≡◌, ◌≤◌, length, map, take}
use Rattle.building_table.specs.Names.{EndsDiffer}
use Rattle.building_table.proofs.IndexLemmas.{ends-of}
use Rattle.building_table.proofs.name_index.NameIndex.insert_arcs.Given as goal

abbrev pub invariant-loop-row : goal.invariant-loop-row
invariant-loop-row l = record {
  few : length l.self.ends ≤ l.row-index;
  ends : EndsDiffer l.rows → l.self.ends ≡ map ends-of (take l.row-index l.rows);
  nodes : l.self.nodes ≡ l.initial.self.nodes;
}
