use Rattle.evac_top.proofs.TellLemmas.{stops-named}
use Rattle.talk.specs.Statuses.{status_number}
use Rattle.evac_top.proofs.stop.stop.Goals as goal

pub returns-in-Named : goal.returns-in-Named
returns-in-Named g c =
    stops-named c.args.fault c.in-Named.code c.in-Named.line c.send_refusal.result _ _ (status_number c.status_after.result) c.in-Named.is c.status_after.ensures
    c.requires c.send_refusal.ensures
