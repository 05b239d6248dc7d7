use Rattle.std.proofs.Common.{sym}
use Rattle.std.proofs.Math.Nat.{add-zero}
use Rattle.line_io.proofs.CallLemmas.{asked-none}
use Rattle.evac_top.specs.Check.{IsChecked}
use Rattle.evac_top.specs.Reads.{ClaimIs}
use Rattle.evac_top.specs.declared.words.Mode.TheVariants.{Check}
use Rattle.evac_top.proofs.ClaimLemmas.{check-fault, checked-few, said-checked}
use Rattle.evac_top.proofs.TellLemmas.{check-reads, fault-told, no-memory, read-told}
use Rattle.talk.specs.Statuses.{status_number}
use Rattle.evac_top.proofs.check.check.Goals as goal

pub returns-in_default-clause-run : goal.returns-in_default-clause-run
returns-in_default-clause-run g c = λ steps. no-memory Check check-reads _

pub returns-in-Ok-read_claim-clause-run : goal.returns-in-Ok-read_claim-clause-run
returns-in-Ok-read_claim-clause-run g c = λ steps.
    let m = c.in-Ok-read_claim.claim.building.model in
    let b = c.in-Ok-read_claim.claim.block in
    read-told Check check-reads ClaimIs (IsChecked m b) c.in-Ok-read_claim.claim (checked-few m b) (said-checked c.in-Ok-read_claim.claim) (status_number c.judge_claim.result) 0 steps steps _ _ _ _
    c.in-Ok-read_claim.ensures.takes c.in-Ok-read_claim.ensures.cause (sym (add-zero steps)) c.judge_claim.ensures c.in-Ok-read_claim.ensures.input

pub returns-clause-run : goal.returns-clause-run
returns-clause-run g c = λ steps.
    let read = c.in-Err.ensures in
    fault-told Check check-reads ClaimIs c.in-Err.fault (check-fault c.in-Err.fault) (status_number c.stop.result) steps _ _ _ _ read.takes read.cause
    c.stop.ensures read.input

pub returns-in_default-clause-asked : goal.returns-in_default-clause-asked
returns-in_default-clause-asked g c = asked-none g.S.Source.takes _ _
