use Rattle.std.proofs.Common.{◌∙◌}
use Rattle.plan_checker.proofs.HoldLemmas.{are_counts, counts_fit, first_hold}
use Rattle.plan_checker.proofs.holds.first_broken_hold.Goals as goal

pub first_broken_count-requires-clause-few : goal.first_broken_count-requires-clause-few
first_broken_count-requires-clause-few c =
    counts_fit c.args.model.now c.args.moves.now c.count_coming.new.tally c.count_leaving.new.tally c.args.last
    (are_counts c.count_coming.ensures c.count_leaving.ensures c.in_ok-came.ensures.last (c.in_ok-came.ensures.rows ∙ c.node_count.ensures.count) c.in_ok-left.ensures.last
    (c.in_ok-left.ensures.rows ∙ c.node_count-2.ensures.count))
    c.requires.moves.valid c.requires.moves.few

pub returns : goal.returns
returns c =
    first_hold c.args.model.now c.args.moves.now c.count_coming.new.tally c.count_leaving.new.tally c.args.last
    (are_counts c.count_coming.ensures c.count_leaving.ensures c.in_ok-came.ensures.last (c.in_ok-came.ensures.rows ∙ c.node_count.ensures.count) c.in_ok-left.ensures.last
    (c.in_ok-left.ensures.rows ∙ c.node_count-2.ensures.count))
    c.first_broken_count.result c.first_broken_count.ensures.well c.first_broken_count.ensures.broken
