use Rattle.std.proofs.Common.{ap}
use Rattle.residual_net.specs.Route.{Trail}
use Rattle.residual_net.specs.Site.{start_of}
use Rattle.terminal_augment.proofs.ChainLemmas.{met_steps}
use Rattle.terminal_augment.proofs.SendLemmas.{found_augments, pushed_on}
use Rattle.terminal_augment.proofs.path.send_found.Goals as goal

pub lay-people-requires-clause-met : goal.lay-people-requires-clause-met
lay-people-requires-clause-met g c = met_steps c.args.net.now c.args.k c.args.buffers.now.queue.list c.requires.met

pub push-requires-clause-path : goal.push-requires-clause-path
push-requires-clause-path g c =
    let path = ap (λ (t : Trail). t.steps) c.lay-people.ensures.path in (
      start_of c.args.net.now.site c.args.found,
      c.args.k,
      found_augments c.lay-people.result c.lay-people.new.path.steps c.requires.met c.requires.found path c.lay-people.ensures.room,
    )

pub returns-clause-counted : goal.returns-clause-counted
returns-clause-counted g c =
    let path = ap (λ (t : Trail). t.steps) c.lay-people.ensures.path in
    let augments = found_augments c.lay-people.result c.lay-people.new.path.steps c.requires.met c.requires.found path
    c.lay-people.ensures.room in
    record {
      pushed = pushed_on c.push.ensures.net c.push.ensures.within c.lay-people.ensures.some augments c.push.ensures.pushed;
      ticked = c.push.ensures.ticked;
    }
