use Rattle.std.proofs.Common.{◌≡◌, false}
use Rattle.residual_net.specs.Site.{IsPlace}
use Rattle.residual_net.specs.Network.{flow_at, limit_at}
use Rattle.residual_net.specs.OfModel.{model_limit}
use Rattle.flow_repair.specs.Repairing.{RepairsOn}
use Rattle.flow_repair.proofs.repair.Repair.cancel_all.Given as goal

abbrev pub invariant-loop-place : goal.invariant-loop-place
invariant-loop-place g l = record {
  goes_on : RepairsOn (λ _. false) l.fn.self l.self;
  place : IsPlace l.self.net.now.site l.place;
  limit : limit_at l.self.net.now l.place ≡ model_limit l.self.model.now l.place;
}

abbrev pub decreases-loop-place : goal.decreases-loop-place
decreases-loop-place g l = flow_at l.self.net.now l.place
