use Rattle.evac_top.proofs.InputLemmas.{told-building, told-fault}
use Rattle.evac_top.proofs.OpenLemmas.{takes-tail, takes-tail-fault}
use Rattle.evac_top.proofs.TakeLemmas.{not-failed, rises-on}
use Rattle.evac_top.proofs.read.read_end.Goals as goal

pub returns-in-Ok-clause-input : goal.returns-in-Ok-clause-input
returns-in-Ok-clause-input g c = λ first left fresh reading.
    told-building first left c.args.building c.number-last.result _ _ fresh reading c.in-Ok.ensures.tail c.number-last.ensures.number

pub returns-in-Ok-clause-takes : goal.returns-in-Ok-clause-takes
returns-in-Ok-clause-takes g c = λ first left fresh reads drained.
    let tail = c.in-Ok.ensures in
    takes-tail _ first c.args.lines.now c.read_tail.new.lines left _ _ c.args.building fresh reads tail.passes drained tail.drained tail.ended

pub returns-in-Err-clause-input : goal.returns-in-Err-clause-input
returns-in-Err-clause-input g c = λ first left fresh reading. told-fault first left c.args.building c.in-Err.fault _ _ fresh reading c.in-Err.ensures.tail

pub returns-in-Err-clause-takes : goal.returns-in-Err-clause-takes
returns-in-Err-clause-takes g c = λ first left fresh reads drained.
    takes-tail-fault c.in-Err.fault first c.args.lines.now c.read_tail.new.lines left _ _ c.args.building fresh reads c.in-Err.ensures.passes c.in-Err.ensures.unfinished

pub returns-in-Ok-clause-cause : goal.returns-in-Ok-clause-cause
returns-in-Ok-clause-cause g c = record { rose = λ e. absurd (not-failed _ e); same = λ not. c.in-Ok.ensures.cause.same (not-failed tt) }

pub returns-in-Err-clause-cause : goal.returns-in-Err-clause-cause
returns-in-Err-clause-cause g c = rises-on c.in-Err.fault c.in-Err.ensures.cause

pub returns-in-Ok-clause-room : goal.returns-in-Ok-clause-room
returns-in-Ok-clause-room g c = c.in-Ok.ensures.passes.passes.room

pub returns-in-Err-clause-room : goal.returns-in-Err-clause-room
returns-in-Err-clause-room g c = c.in-Err.ensures.passes.passes.room
