use Rattle.talk.proofs.DeskLemmas.{desk_seen, desk_site, with_routes}
use Rattle.talk.proofs.sessions.desk.Desk.put_routes.Goals as goal

pub put_routes-requires : goal.put_routes-requires
put_routes-requires g c = record { site = desk_site _ _ (desk_seen c.self.view_is c.requires) }

pub returns-clause-desk : goal.returns-clause-desk
returns-clause-desk g c = with_routes _ c.put_routes.new.routes _ (desk_seen c.self.view_is c.requires) c.put_routes.ensures.model
