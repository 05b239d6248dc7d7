-- The names of the nodes so far.
use Rattle.std.proofs.Common.{◌≡◌, ◌≤◌, length, map, take}
use Rattle.building_table.specs.Names.{NamesDiffer}
use Rattle.building_table.proofs.name_index.NameIndex.insert_nodes.Given as goal

abbrev pub invariant-loop-row : goal.invariant-loop-row
invariant-loop-row l = record {
  few : length l.self.nodes ≤ l.row-index;
  names : NamesDiffer l.rows → l.self.nodes ≡ map (λ n. n.name) (take l.row-index l.rows);
  ends : l.self.ends ≡ l.initial.self.ends;
}
