use Rattle.terminal_augment.specs.Floods.{IsSeededBelow, IsFlooding, IsGrown}
use Rattle.terminal_augment.proofs.flood.seed_all.Given as goal

abbrev pub invariant-loop-node : goal.invariant-loop-node
invariant-loop-node l = record {
  flooding : IsFlooding l.net l.labels l.k l.queue;
  grown : IsGrown l.k l.fn.labels l.labels l.fn.queue l.queue;
  seeded : IsSeededBelow l.net l.labels l.k l.node;
}
