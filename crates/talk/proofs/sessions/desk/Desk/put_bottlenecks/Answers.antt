use Rattle.talk.proofs.DeskLemmas.{desk_seen, desk_space, with_space}
use Rattle.talk.proofs.sessions.desk.Desk.put_bottlenecks.Goals as goal

pub returns-clause-desk : goal.returns-clause-desk
returns-clause-desk g c =
    let desk = desk_seen c.self.view_is c.requires in
    with_space _ c.put_bottlenecks.new.space _ desk (c.put_bottlenecks.ensures.space _ (desk_space _ _ desk))
