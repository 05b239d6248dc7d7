use Rattle.terminal_augment.proofs.ClosedLemmas.{alike_after, over_after}
use Rattle.terminal_augment.proofs.FloodLemmas.{seeded_later, flooding_begins, grown_then}
use Rattle.terminal_augment.proofs.flood.flood.Goals as goal

pub seed_all-requires : goal.seed_all-requires
seed_all-requires c = record {
  flooding = flooding_begins c.args.queue.now c.clear.new.self c.requires.net c.requires.settled c.nodes.ensures.table.full
      c.requires.room c.clear.ensures;
}

pub returns-in-None-clause-flooded : goal.returns-in-None-clause-flooded
returns-in-None-clause-flooded c =
    let w = c.args.net.now in
    over_after c.requires.settled (grown_then c.seed_all.ensures.grown c.expand_all.ensures.grown) c.expand_all.ensures.flooding
    c.in-None.ensures.found (seeded_later w w.site.shape.nodes c.expand_all.ensures.grown c.seed_all.ensures.seeded)

pub returns-in-Some-clause-flooded : goal.returns-in-Some-clause-flooded
returns-in-Some-clause-flooded c =
    record {
      alike = alike_after c.unset_from.new.self (grown_then c.seed_all.ensures.grown c.expand_all.ensures.grown) c.requires.settled.unset
          c.expand_all.ensures.flooding.full c.unset_from.ensures.unset;
      met = c.expand_all.ensures.flooding.met;
      found = c.in-Some.ensures.found;
    }
