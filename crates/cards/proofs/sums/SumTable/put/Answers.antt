use Rattle.cards.proofs.SumTables.{put_sum}
use Rattle.cards.proofs.sums.SumTable.put.Goals as goal

pub invariant_of-self : goal.invariant_of-self
invariant_of-self c = put_sum c.self.inside.sums c.put.new.self c.args.row c.args.moment c.args.number c.self.invariant c.put.ensures c.requires.small
