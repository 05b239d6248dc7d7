use Rattle.std.proofs.Common.{◌≡◌, false, take}
use Rattle.std.proofs.lemmas.List.{take_all}
use Rattle.residual_net.specs.declared.place.PathStep.{PathStep}
use Rattle.residual_net.specs.declared.place.Place.TheVariants.{Arc}
use Rattle.residual_net.proofs.Steps.{step_place, step_room, push_none, push_more, within_pushed}
use Rattle.residual_net.proofs.net.shift_all.Goals as goal

abbrev blank : PathStep
blank = record { place = Arc 0 0; back = false }

pub loop-step-init : goal.loop-step-init
loop-step-init c = record { pushed = push_none c.args.grid.now c.args.people; grid = c.requires.grid }

pub shift-requires-clause-place : goal.shift-requires-clause-place
shift-requires-clause-place c =
    step_place c.args.grid.now c.loop-step.grid c.args.path.now c.args.people c.loop-step.step-index blank c.requires.path
    c.loop-step.invariant.pushed c.loop-step-test.true

pub shift-requires-clause-room : goal.shift-requires-clause-room
shift-requires-clause-room c =
    step_room c.args.grid.now c.loop-step.grid c.args.path.now c.args.people c.loop-step.step-index blank c.requires.path
    c.loop-step.invariant.pushed c.loop-step-test.true

pub loop-step-preserved : goal.loop-step-preserved
loop-step-preserved c = record {
  pushed =
      push_more c.args.grid.now c.loop-step.grid c.shift.new.self c.args.path.now c.args.people c.loop-step.step-index blank
      c.loop-step.invariant.pushed c.shift.ensures.pushed c.loop-step-test.true;
  grid = c.shift.ensures.grid;
}

pub returns-clause-within : goal.returns-clause-within
returns-clause-within c =
    let all : take c.loop-step.step-index c.args.path.now ≡ c.args.path.now = take_all c.loop-step.step-index c.args.path.now c.loop-step-test.false in
    within_pushed c.args.grid.now c.loop-step.grid c.args.path.now c.args.people c.requires.within c.requires.path (rw all at c.loop-step.invariant.pushed)
