use Rattle.std.proofs.Common.{Err, subst, sym}
use Rattle.edit_session.specs.declared.faults.Short.{Short}
use Rattle.what_if.specs.declared.answer.WhatIfFault.TheVariants.{NeverCleared}
use Rattle.what_if.specs.WhatIf.{AnswersOn}
use Rattle.what_if.proofs.Cleared.{begun, begun-fit, not-begun}
use Rattle.what_if.proofs.shut_exit.answer.Goals as goal

pub shut-answer-requires-clause-solved : goal.shut-answer-requires-clause-solved
shut-answer-requires-clause-solved g c = c.in-Ok.ensures.2.0.solved

pub shut-answer-requires-clause-names : goal.shut-answer-requires-clause-names
shut-answer-requires-clause-names g c =
    let b = c.in-Ok.ensures in begun-fit c.args.names.now c.args.model c.in-Ok.session b.0 c.requires.names b.2

pub returns-in-Ok : goal.returns-in-Ok
returns-in-Ok g c =
    let b = c.in-Ok.ensures in
    begun c.args.model c.args.names.now c.args.exit c.in-Ok.session b.0 c.shut-answer.result b.2 c.shut-answer.ensures

pub returns-in-Err-NotCleared : goal.returns-in-Err-NotCleared
returns-in-Err-NotCleared g c =
    let b = c.in-Err-NotCleared.ensures in
    let h = not-begun c.args.model c.args.names.now c.args.exit c.in-Err-NotCleared.field-0 c.in-Err-NotCleared.short b.0 c.in-Err-NotCleared.field-0-is b.2 in
    subst (λ (x : Short). AnswersOn c.args.model c.args.names.now c.args.exit (Err (NeverCleared x.most))) (sym c.in-Err-NotCleared.short-is) h
