use Rattle.line_io.proofs.CallLemmas.{asked-none}
use Rattle.evac_top.specs.Reads.{InputIs}
use Rattle.evac_top.specs.Solve.{IsPlannedOrShort}
use Rattle.evac_top.specs.declared.words.Mode.TheVariants.{Solve}
use Rattle.evac_top.proofs.SolveLemmas.{said-building, solve-fault, solved-few}
use Rattle.evac_top.proofs.TellLemmas.{fault-told, no-memory, read-told, solve-reads}
use Rattle.talk.specs.Statuses.{status_number}
use Rattle.evac_top.proofs.solve.solve.Goals as goal

pub returns-in_default-clause-run : goal.returns-in_default-clause-run
returns-in_default-clause-run g c = no-memory (Solve c.args.flags) (solve-reads c.args.flags) _

pub tell-status-requires-clause-begun : goal.tell-status-requires-clause-begun
tell-status-requires-clause-begun g c =
    let b = c.begin-begun.ensures in (c.in-Ok-read_input.input.building.model, (b.0, c.in-Ok-read_input.ensures.valid, b.2))

pub returns-in-Ok-read_input-clause-run : goal.returns-in-Ok-read_input-clause-run
returns-in-Ok-read_input-clause-run g c =
    let flags = c.args.flags in
    let input = c.in-Ok-read_input.input in
    let m = input.building.model in
    let begun = c.begin-begun.ensures in
    read-told (Solve flags) (solve-reads flags) InputIs (IsPlannedOrShort flags input.building.names m input.last) input (solved-few flags input.building.names m input.last) (said-building flags input)
    (status_number c.tell-status.result) begun.0 c.args.steps.now c.begin-begun.new.steps _ _ _ _ c.in-Ok-read_input.ensures.takes c.in-Ok-read_input.ensures.cause begun.1 (c.tell-status.ensures m begun.0 begun.2) c.in-Ok-read_input.ensures.input

pub returns-clause-run : goal.returns-clause-run
returns-clause-run g c =
    let flags = c.args.flags in
    let read = c.in-Err.ensures in
    fault-told (Solve flags) (solve-reads flags) InputIs c.in-Err.fault (solve-fault flags c.in-Err.fault) (status_number c.stop.result) c.args.steps.now _ _ _ _ read.takes
    read.cause c.stop.ensures read.input

pub returns-in_default-clause-asked : goal.returns-in_default-clause-asked
returns-in_default-clause-asked g c = asked-none g.S.Source.takes _ _
