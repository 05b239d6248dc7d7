use Rattle.std.proofs.Common.{false}
use Rattle.residual_net.specs.declared.place.PathStep.{PathStep}
use Rattle.residual_net.specs.declared.place.Place.TheVariants.{Arc}
use Rattle.residual_net.proofs.Taking.{take_room, take_step, taken_nothing}
use Rattle.residual_net.proofs.cancel.take_all.Goals as goal

abbrev blank : PathStep
blank = record { place = Arc 0 0; back = false }

pub loop-step-init : goal.loop-step-init
loop-step-init c = record { taken = taken_nothing c.args.grid.now c.args.people; grid = c.requires.grid }

pub shift-requires-clause-room : goal.shift-requires-clause-room
shift-requires-clause-room c =
    take_room c.args.grid.now c.loop-step.grid c.args.path.now c.args.people c.loop-step.step-index blank c.requires.path c.loop-step.invariant.taken
    c.loop-step-test.true

pub loop-step-preserved : goal.loop-step-preserved
loop-step-preserved c = record {
  taken =
      take_step c.args.grid.now c.loop-step.grid c.shift.new.self c.args.path.now c.args.people c.loop-step.step-index blank c.requires.path
      c.loop-step.invariant.taken c.shift.ensures.pushed c.loop-step-test.true;
  grid = c.shift.ensures.grid;
}
