use Rattle.evac_top.specs.Inputs.{IsOpenInput}
use Rattle.evac_top.proofs.OpenLemmas.{missing-input, takes-model}
use Rattle.evac_top.proofs.TakeLemmas.{asked-fresh, asked-then, rises-on, rises-then}
use Rattle.evac_top.proofs.read.read_input.Goals as goal

pub returns-in-Ok-clause-input : goal.returns-in-Ok-clause-input
returns-in-Ok-clause-input g c = c.read_end.ensures.input c.args.lines.now _ c.requires c.in-Ok.ensures.reading

pub returns-in-Ok-clause-takes : goal.returns-in-Ok-clause-takes
returns-in-Ok-clause-takes g c = c.read_end.ensures.takes c.args.lines.now _ c.requires c.in-Ok.ensures.bytes c.in-Ok.ensures.drained

pub returns-in-Ok-clause-cause : goal.returns-in-Ok-clause-cause
returns-in-Ok-clause-cause g c = rises-then c.in-Ok.building c.read_end.result c.in-Ok.ensures.cause c.read_end.ensures.cause

pub returns-in-Err-clause-cause : goal.returns-in-Err-clause-cause
returns-in-Err-clause-cause g c = rises-on c.in-Err.fault c.in-Err.ensures.cause

pub returns-in-Err-clause-takes : goal.returns-in-Err-clause-takes
returns-in-Err-clause-takes g c =
    let read = c.in-Err.ensures in
    takes-model IsOpenInput missing-input c.in-Err.fault c.args.lines.now c.read_model.new.lines _ _ c.requires read.bytes read.unfinished

pub returns-in-Ok-clause-asked : goal.returns-in-Ok-clause-asked
returns-in-Ok-clause-asked g c = asked-then c.requires c.in-Ok.ensures.asks c.in-Ok.ensures.bytes.passes.room c.read_end.ensures.asks c.read_end.ensures.room

pub returns-in-Err-clause-asked : goal.returns-in-Err-clause-asked
returns-in-Err-clause-asked g c = asked-fresh c.requires c.in-Err.ensures.asks c.in-Err.ensures.bytes.passes.room
