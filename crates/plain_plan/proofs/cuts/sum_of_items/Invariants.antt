use Rattle.std.proofs.Common.{◌≡◌, ◌≤◌, ◌*◌, ◌^◌, take, sum_by}
use Rattle.evac_law.specs.Cuts.{number_of}
use Rattle.plain_plan.proofs.cuts.sum_of_items.Given as goal

abbrev pub invariant-loop-item : goal.invariant-loop-item
invariant-loop-item l = record {
  value : l.total ≡ sum_by number_of (take l.item-index l.items);
  few : l.total ≤ l.item-index * 2 ^ 32;
}
