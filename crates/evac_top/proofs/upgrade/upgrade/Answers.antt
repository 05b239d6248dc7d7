use Rattle.std.proofs.Common.{sym}
use Rattle.std.proofs.Math.Nat.{add-zero}
use Rattle.line_io.proofs.CallLemmas.{asked-none}
use Rattle.evac_top.specs.Reads.{InputIs}
use Rattle.evac_top.specs.Upgrade.{IsUpgraded}
use Rattle.evac_top.specs.declared.words.Mode.TheVariants.{Upgrade}
use Rattle.evac_top.proofs.TellLemmas.{fault-told, no-memory, read-told, upgrade-reads}
use Rattle.evac_top.proofs.UpgradeLemmas.{said-upgraded, upgrade-fault, upgraded-few}
use Rattle.talk.specs.Statuses.{status_number}
use Rattle.evac_top.proofs.upgrade.upgrade.Goals as goal

pub returns-in_default-clause-run : goal.returns-in_default-clause-run
returns-in_default-clause-run g c = λ steps. no-memory Upgrade upgrade-reads _

pub returns-in-Ok-read_input-clause-run : goal.returns-in-Ok-read_input-clause-run
returns-in-Ok-read_input-clause-run g c = λ steps.
    let building = c.in-Ok-read_input.input.building in
    read-told Upgrade upgrade-reads InputIs (IsUpgraded building) c.in-Ok-read_input.input (upgraded-few building) (said-upgraded c.in-Ok-read_input.input) (status_number c.answer.result) 0 steps steps
    _ _ _ _ c.in-Ok-read_input.ensures.takes c.in-Ok-read_input.ensures.cause (sym (add-zero steps)) c.answer.ensures c.in-Ok-read_input.ensures.input

pub returns-clause-run : goal.returns-clause-run
returns-clause-run g c = λ steps.
    let read = c.in-Err.ensures in
    fault-told Upgrade upgrade-reads InputIs c.in-Err.fault (upgrade-fault c.in-Err.fault) (status_number c.stop.result) steps _ _ _ _ read.takes read.cause
    c.stop.ensures read.input

pub returns-in_default-clause-asked : goal.returns-in_default-clause-asked
returns-in_default-clause-asked g c = asked-none g.S.Source.takes _ _
