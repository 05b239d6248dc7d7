use Rattle.guided_search.specs.Targets.{IsReady}
use Rattle.guided_search.proofs.target_flow.TargetFlow.find.Given as goal

abbrev pub invariant-loop : goal.invariant-loop
invariant-loop l = IsReady l.net.ways.now.sizes l.self
