use Rattle.talk.proofs.DeskLemmas.{desk_seen, desk_space, with_space}
use Rattle.talk.proofs.sessions.desk.Desk.put_summary.Goals as goal

pub put_summary-requires : goal.put_summary-requires
put_summary-requires g c = record { space = desk_space _ _ (desk_seen c.self.view_is c.requires) }

pub returns-clause-desk : goal.returns-clause-desk
returns-clause-desk g c = with_space _ c.put_summary.new.space _ (desk_seen c.self.view_is c.requires) c.put_summary.ensures.space
