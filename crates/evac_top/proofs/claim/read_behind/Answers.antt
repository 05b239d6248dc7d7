use Rattle.std.proofs.Common.{◌∙◌}
use Rattle.line_io.proofs.CallLemmas.{asks-then}
use Rattle.evac_top.proofs.BlockOpenLemmas.{block-not-failed, rises-after-block, rises-as-block, takes-block, takes-block-fault, takes-block-tail}
use Rattle.evac_top.proofs.ClaimLemmas.{told-block-fault, told-claim, told-tail}
use Rattle.evac_top.proofs.TakeLemmas.{not-failed}
use Rattle.evac_top.proofs.claim.read_behind.Goals as goal

pub returns-in-Err-clause-input : goal.returns-in-Err-clause-input
returns-in-Err-clause-input g c = λ first left fresh reading.
    told-block-fault first left c.args.building c.block_fault.result c.in-Err.fault _ _ _ _ c.block_fault.ensures fresh reading c.in-Err.ensures.reading

pub returns-in-Err-clause-takes : goal.returns-in-Err-clause-takes
returns-in-Err-clause-takes g c = λ first left fresh reads drained.
    let block = c.in-Err.ensures in
    takes-block-fault c.block_fault.result first c.args.lines.now c.read_block.new.lines left _ _ c.args.building c.in-Err.fault c.block_fault.ensures fresh reads
    block.bytes block.unfinished

pub returns-in-Err-clause-cause : goal.returns-in-Err-clause-cause
returns-in-Err-clause-cause g c = rises-as-block c.block_fault.result c.in-Err.fault c.block_fault.ensures c.in-Err.ensures.cause

pub returns-in-Ok-read_tail-clause-input : goal.returns-in-Ok-read_tail-clause-input
returns-in-Ok-read_tail-clause-input g c = λ first left fresh reading.
    told-claim first left c.args.building c.in-Ok.block _ _ _ _ fresh reading c.in-Ok.ensures.reading c.in-Ok-read_tail.ensures.tail

pub returns-in-Ok-read_tail-clause-takes : goal.returns-in-Ok-read_tail-clause-takes
returns-in-Ok-read_tail-clause-takes g c = λ first left fresh reads drained.
    let block = c.in-Ok.ensures in
    let tail = c.in-Ok-read_tail.ensures in
    takes-block _ first c.args.lines.now c.read_block.new.lines c.read_tail.new.lines left _ _ _ c.args.building c.in-Ok.block fresh reads block.bytes tail.passes
    drained block.drained tail.drained tail.ended

pub returns-in-Err-read_tail-clause-input : goal.returns-in-Err-read_tail-clause-input
returns-in-Err-read_tail-clause-input g c = λ first left fresh reading.
    told-tail first left c.args.building c.in-Ok.block c.in-Err-read_tail.fault _ _ _ _ fresh reading c.in-Ok.ensures.reading c.in-Err-read_tail.ensures.tail

pub returns-in-Err-read_tail-clause-takes : goal.returns-in-Err-read_tail-clause-takes
returns-in-Err-read_tail-clause-takes g c = λ first left fresh reads drained.
    let tail = c.in-Err-read_tail.ensures in
    takes-block-tail c.in-Err-read_tail.fault first c.args.lines.now c.read_block.new.lines c.read_tail.new.lines left _ _ _ c.args.building c.in-Ok.block fresh
    reads c.in-Ok.ensures.bytes tail.passes tail.unfinished

pub returns-in-Ok-read_tail-clause-cause : goal.returns-in-Ok-read_tail-clause-cause
returns-in-Ok-read_tail-clause-cause g c = record {
  rose = λ e. absurd (not-failed _ e);
  same = λ not. c.in-Ok-read_tail.ensures.cause.same (not-failed tt) ∙ c.in-Ok.ensures.cause.same (block-not-failed c.in-Ok.block);
}

pub returns-in-Err-read_tail-clause-cause : goal.returns-in-Err-read_tail-clause-cause
returns-in-Err-read_tail-clause-cause g c = rises-after-block c.in-Ok.block c.in-Err-read_tail.fault c.in-Ok.ensures.cause c.in-Err-read_tail.ensures.cause

pub returns-in-Err-clause-room : goal.returns-in-Err-clause-room
returns-in-Err-clause-room g c = c.in-Err.ensures.bytes.passes.room

pub returns-in-Ok-read_tail-clause-asks : goal.returns-in-Ok-read_tail-clause-asks
returns-in-Ok-read_tail-clause-asks g c = asks-then c.in-Ok.ensures.asks c.in-Ok-read_tail.ensures.asks

pub returns-in-Ok-read_tail-clause-room : goal.returns-in-Ok-read_tail-clause-room
returns-in-Ok-read_tail-clause-room g c = λ h. c.in-Ok-read_tail.ensures.passes.passes.room (c.in-Ok.ensures.bytes.passes.room h)

pub returns-in-Err-read_tail-clause-asks : goal.returns-in-Err-read_tail-clause-asks
returns-in-Err-read_tail-clause-asks g c = asks-then c.in-Ok.ensures.asks c.in-Err-read_tail.ensures.asks

pub returns-in-Err-read_tail-clause-room : goal.returns-in-Err-read_tail-clause-room
returns-in-Err-read_tail-clause-room g c = λ h. c.in-Err-read_tail.ensures.passes.passes.room (c.in-Ok.ensures.bytes.passes.room h)
