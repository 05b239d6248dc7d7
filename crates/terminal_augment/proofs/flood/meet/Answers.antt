use Rattle.std.proofs.Common.{arith}
use Rattle.terminal_augment.proofs.FloodLemmas.{IsNew, done_noted, flooding_noted, grown_noted, has_noted, met_room}
use Rattle.terminal_augment.proofs.flood.meet.Goals as goal

pub push-requires : goal.push-requires
push-requires c = grind (arith, met_room)

pub returns : goal.returns
returns c =
    let new : IsNew c.args.net.now c.args.labels.now c.args.k c.args.queue.now c.args.met = record {
      inside = c.requires.inside;
      place = c.requires.place;
      start = c.requires.start;
      stop = c.requires.stop;
      above = omega (arith, c.get.ensures, c.if-get-k.false);
    } in
    record {
      flooding = flooding_noted _ _ c.requires.flooding new (omega (arith, c.room.ensures, c.if-room-eq0.false)) c.set.ensures c.push.ensures;
      grown = grown_noted _ _ c.requires.flooding new c.set.ensures c.push.ensures;
      done = done_noted _ c.requires.flooding new c.set.ensures;
      met = λ _. has_noted c.args.queue.now c.push.new.self c.args.met c.push.ensures;
    }
