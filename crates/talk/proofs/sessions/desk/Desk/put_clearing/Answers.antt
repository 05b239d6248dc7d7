use Rattle.talk.proofs.DeskLemmas.{desk_seen, desk_space, with_space}
use Rattle.talk.proofs.sessions.desk.Desk.put_clearing.Goals as goal

pub put_clearing-requires : goal.put_clearing-requires
put_clearing-requires g c = record { space = desk_space _ _ (desk_seen c.self.view_is c.requires) }

pub returns-clause-desk : goal.returns-clause-desk
returns-clause-desk g c = with_space _ c.put_clearing.new.space _ (desk_seen c.self.view_is c.requires) c.put_clearing.ensures.space
