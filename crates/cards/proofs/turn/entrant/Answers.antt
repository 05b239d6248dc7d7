use Rattle.std.proofs.Common.{arith}
use Rattle.cards.specs.Numbers.{entrants_before}
use Rattle.cards.proofs.Counted.{came_before_is}
use Rattle.cards.proofs.Numbers.{enters_then}
use Rattle.cards.proofs.turn.entrant.Goals as goal

pub returns-clause-number : goal.returns-clause-number
unfolding entrants_before
returns-clause-number c = grind (arith, came_before_is)

pub returns-clause-comer : goal.returns-clause-comer
unfolding entrants_before
returns-clause-comer c =
    let p = c.args.counts.now.plan in
    let t = c.args.turn in
    let here = c.requires.turn in
    let earlier = came_before_is c.args.counts.now c.requires.counts t.node t.moment here.node_in here.turn.moment_in in
    record {
      node_in = here.node_in;
      in_time = here.turn.moment_in;
      at =
          enters_then p.model p.moves c.requires.counts.takes.plan.feasible.arcs t.node t.moment _
          (record {
            from = omega (arith, c.before-earlier.ensures.number, earlier, c.coming-along_arcs.ensures.coming);
            until = omega (arith, c.before-earlier.ensures.number, earlier, c.coming-along_arcs.ensures.coming, c.from.ensures);
          });
    }
