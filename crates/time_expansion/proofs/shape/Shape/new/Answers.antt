use Rattle.time_expansion.specs.Expansion.{Expansion}
use Rattle.time_expansion.proofs.Lists.{from_index, to_index}
use Rattle.time_expansion.proofs.shape.Shape.new.Goals as goal

pub invariant_of-result : goal.invariant_of-result
invariant_of-result c =
    let x : Expansion = record { nodes = c.args.nodes; ends = c.args.ends.now; horizon = c.args.horizon } in
    let left = c.in_ok-leaving.leaving in
    let entered = c.in_ok-entering.entering in
    rw c.in_ok-copy.ensures.items (record {
      expansion = c.requires;
      left = from_index x left.starts.items left.items.items c.in_ok-leaving.ensures;
      entered = to_index x entered.starts.items entered.items.items c.in_ok-entering.ensures;
    })
