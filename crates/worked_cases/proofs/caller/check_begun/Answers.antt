-- A session on a building fits the building's names.
use Rattle.what_if.proofs.Cleared.{begun-fit}
use Rattle.worked_cases.proofs.caller.check_begun.Goals as goal

pub check_session-requires : goal.check_session-requires
check_session-requires g c =
    let b = c.in-Ok.ensures in begun-fit c.args.building.names c.args.building.model c.in-Ok.session b.0 c.requires.names b.2
