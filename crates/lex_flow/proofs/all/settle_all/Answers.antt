use Rattle.lex_flow.proofs.SettleLemmas.{answer_is, labels_are, net_is}
use Rattle.lex_flow.proofs.all.settle_all.Goals as goal

pub returns-clause-net : goal.returns-clause-net
returns-clause-net g c =
    net_is c.args.net.now c.settle_on-settled.new.net c.args.labels.now c.settle_on-settled.new.labels c.args.from c.settle_on-settled.result.next
    c.settle_on-settled.result.pushes c.settle_on-settled.ensures.settled c.outcome_of.result c.outcome_of.ensures.outcome c.outcome_of.ensures.pushes

pub returns-clause-labels : goal.returns-clause-labels
returns-clause-labels g c =
    labels_are c.args.net.now c.settle_on-settled.new.net c.args.labels.now c.settle_on-settled.new.labels c.args.from c.settle_on-settled.result.next
    c.settle_on-settled.result.pushes c.settle_on-settled.ensures.settled c.outcome_of.result c.outcome_of.ensures.outcome

pub returns-clause-answer : goal.returns-clause-answer
returns-clause-answer g c b =
    answer_is c.args.net.now c.settle_on-settled.new.net c.args.labels.now c.settle_on-settled.new.labels c.args.from c.settle_on-settled.result.next
    c.settle_on-settled.result.pushes c.settle_on-settled.ensures.settled b c.outcome_of.result c.outcome_of.ensures.outcome
