use Rattle.std.proofs.Common.{ℕ, ◌<◌, get_or, true}
use Rattle.time_expansion.specs.Expansion.{arcs_from}
use Rattle.residual_net.specs.declared.place.Place.TheVariants.{Arc}
use Rattle.terminal_augment.specs.Floods.{IsDone, IsFlooding, IsGrown}
use Rattle.terminal_augment.proofs.flood.expand_out.Given as goal

abbrev pub invariant-loop-i : goal.invariant-loop-i
invariant-loop-i l = record {
  flooding : IsFlooding l.net l.labels l.k l.queue;
  grown : IsGrown l.k l.fn.labels l.labels l.fn.queue l.queue;
  done : (j : ℕ) → j < l.i → IsDone l.net l.labels l.k (record { place = Arc (get_or (arcs_from l.net.site.shape l.fn.spot.node) j 0) l.fn.spot.moment; back = true });
}
