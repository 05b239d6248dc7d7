use Rattle.std.proofs.lemmas.List.Sorted.{All-permutation}
use Rattle.residual_ways.specs.Ways.{IsWayWithin}
use Rattle.residual_ways.proofs.layout.all_ways.Goals as goal

pub returns : goal.returns
returns c = All-permutation (IsWayWithin c.args.sizes) _ _ c.sort_unstable.ensures.permutation c.in_ok-add_waits.ensures
