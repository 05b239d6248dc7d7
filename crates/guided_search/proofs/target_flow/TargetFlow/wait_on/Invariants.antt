use Rattle.residual_ways.specs.Steps.{IsStepWithin}
use Rattle.guided_search.specs.Targets.{IsReady}
use Rattle.guided_search.proofs.target_flow.TargetFlow.wait_on.Given as goal

abbrev pub invariant-loop : goal.invariant-loop
invariant-loop l = record {
  ready : IsReady l.net.ways.now.sizes l.self;
  last : IsStepWithin l.net.ways.now.sizes l.last;
}
