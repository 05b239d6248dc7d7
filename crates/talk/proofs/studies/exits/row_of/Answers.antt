use Rattle.talk.proofs.RowLemmas.{cleared_already}
use Rattle.talk.proofs.studies.exits.row_of.Goals as goal

pub returns-then-node-clause-row : goal.returns-then-node-clause-row
returns-then-node-clause-row g c =
    let s = c.args.session.now.state in
    rw c.cleared.ensures (cleared_already s c.args.node c.model.ensures.solved (let e = c.if-node.true in let f = c.node.ensures in let h = c.model.ensures.model in cc))
