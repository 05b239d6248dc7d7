use Rattle.std.proofs.Common.{arith}
use Rattle.certificate_text.specs.BlockText.{shortfall_text}
use Rattle.evac_law.specs.Building.{people}
use Rattle.evac_law.specs.Certificates.{label_cut}
use Rattle.evac_top.specs.Solve.{IsShort}
use Rattle.evac_top.proofs.SolveLemmas.{short-as, short_by_labels, table-as, valid-as}
use Rattle.evac_top.proofs.TellLemmas.{tells-nothing, tells-sent}
use Rattle.talk.specs.Statuses.{status_number}
use Rattle.evac_top.proofs.stop.stop_short.Goals as goal

pub send_short-requires-clause-valid : goal.send_short-requires-clause-valid
send_short-requires-clause-valid g c =
    let h = c.requires.begun in
    let short = c.in-NotCleared.short in
    let n = short-as h.0 h.1.0 c.args.fault short c.in-NotCleared.is h.1.2 in
    valid-as h.0 short.model n.0 h.1.1

pub send_short-requires-clause-table : goal.send_short-requires-clause-table
send_short-requires-clause-table g c =
    let h = c.requires.begun in
    let short = c.in-NotCleared.short in
    let n = short-as h.0 h.1.0 c.args.fault short c.in-NotCleared.is h.1.2 in
    table-as h.0 short.model short.labels n.0 n.1

pub returns-in-NotCleared : goal.returns-in-NotCleared
returns-in-NotCleared g c = λ m steps ends.
    let line = c.args.line in
    let short = c.in-NotCleared.short in
    let n = short-as m steps c.args.fault short c.in-NotCleared.is ends in
    tells-sent (IsShort m line) 1 steps (shortfall_text line short.model (label_cut short.model short.labels short.model.horizon) short.most)
    c.send_short.result _ _ (status_number c.status_after.result) c.status_after.ensures (omega arith)
    c.requires.fresh c.send_short.ensures
    (λ taken. short_by_labels m short.model short.labels (people m) short.most line steps taken n.0 n.2 n.3)

pub returns-in-Memory : goal.returns-in-Memory
returns-in-Memory g c = λ m steps ends. tells-nothing (IsShort m c.args.line) steps _
