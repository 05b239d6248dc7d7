use Rattle.std.proofs.Common.{None, Some, ap, sym, ◌∙◌}
use Rattle.line_io.proofs.CallLemmas.{asked-none}
use Rattle.evac_top.specs.declared.words.Mode.TheVariants.{Check, Drill, Replan, Session, Solve, Study, Upgrade}
use Rattle.evac_top.proofs.TalkLemmas.{replan-talks, session-talks, study-talks}
use Rattle.evac_top.proofs.TellLemmas.{check-reads, reads-not, runs-by, solve-reads, upgrade-reads}
use Rattle.talk.specs.Statuses.{status_number}
use Rattle.evac_top.proofs.top.run.Goals as goal

pub returns-in-Some-Solve-clause-untouched : goal.returns-in-Some-Solve-clause-untouched
returns-in-Some-Solve-clause-untouched g c = λ not. (let h = c.in-Some-Solve in absurd (reads-not _ (Some (Solve h.flags)) (sym h.ensures.mode ∙ ap Some h.field-0-is) (solve-reads h.flags).input not))

pub returns-in-Some-Check-clause-run : goal.returns-in-Some-Check-clause-run
returns-in-Some-Check-clause-run g c =
    let h = c.in-Some-Check in runs-by _ (Some Check) (status_number c.check.result) _ _ (sym h.ensures.mode ∙ ap Some h.field-0-is) (c.check.ensures.run c.args.steps.now)

pub returns-in-Some-Check-clause-untouched : goal.returns-in-Some-Check-clause-untouched
returns-in-Some-Check-clause-untouched g c = λ not. (let h = c.in-Some-Check in absurd (reads-not _ (Some Check) (sym h.ensures.mode ∙ ap Some h.field-0-is) check-reads.input not))

pub returns-in-Some-Session-clause-run : goal.returns-in-Some-Session-clause-run
returns-in-Some-Session-clause-run g c =
    let h = c.in-Some-Session in runs-by _ (Some Session) (status_number c.hold.result) _ _ (sym h.ensures.mode ∙ ap Some h.field-0-is) (c.hold.ensures.run Session session-talks)

pub returns-in-Some-Session-clause-untouched : goal.returns-in-Some-Session-clause-untouched
returns-in-Some-Session-clause-untouched g c = λ not. (let h = c.in-Some-Session in absurd (reads-not _ (Some Session) (sym h.ensures.mode ∙ ap Some h.field-0-is) session-talks.input not))

pub returns-in-Some-Study-clause-run : goal.returns-in-Some-Study-clause-run
returns-in-Some-Study-clause-run g c =
    let h = c.in-Some-Study in runs-by _ (Some Study) (status_number c.hold-in-Some-Study.result) _ _ (sym h.ensures.mode ∙ ap Some h.field-0-is) (c.hold-in-Some-Study.ensures.run Study study-talks)

pub returns-in-Some-Study-clause-untouched : goal.returns-in-Some-Study-clause-untouched
returns-in-Some-Study-clause-untouched g c = λ not. (let h = c.in-Some-Study in absurd (reads-not _ (Some Study) (sym h.ensures.mode ∙ ap Some h.field-0-is) study-talks.input not))

pub returns-in-Some-Replan-clause-run : goal.returns-in-Some-Replan-clause-run
returns-in-Some-Replan-clause-run g c =
    let h = c.in-Some-Replan in runs-by _ (Some Replan) (status_number c.hold-in-Some-Replan.result) _ _ (sym h.ensures.mode ∙ ap Some h.field-0-is) (c.hold-in-Some-Replan.ensures.run Replan replan-talks)

pub returns-in-Some-Replan-clause-untouched : goal.returns-in-Some-Replan-clause-untouched
returns-in-Some-Replan-clause-untouched g c = λ not. (let h = c.in-Some-Replan in absurd (reads-not _ (Some Replan) (sym h.ensures.mode ∙ ap Some h.field-0-is) replan-talks.input not))

pub returns-in-Some-Upgrade-clause-run : goal.returns-in-Some-Upgrade-clause-run
returns-in-Some-Upgrade-clause-run g c =
    let h = c.in-Some-Upgrade in runs-by _ (Some Upgrade) (status_number c.upgrade.result) _ _ (sym h.ensures.mode ∙ ap Some h.field-0-is) (c.upgrade.ensures.run c.args.steps.now)

pub returns-in-Some-Upgrade-clause-untouched : goal.returns-in-Some-Upgrade-clause-untouched
returns-in-Some-Upgrade-clause-untouched g c = λ not. (let h = c.in-Some-Upgrade in absurd (reads-not _ (Some Upgrade) (sym h.ensures.mode ∙ ap Some h.field-0-is) upgrade-reads.input not))

pub returns-in-Some-Drill-clause-run : goal.returns-in-Some-Drill-clause-run
returns-in-Some-Drill-clause-run g c =
    let h = c.in-Some-Drill in runs-by _ (Some (Drill h.number)) (status_number c.drill.result) _ _ (sym h.ensures.mode ∙ ap Some h.field-0-is) (c.drill.ensures _)

pub returns-in-None-clause-run : goal.returns-in-None-clause-run
returns-in-None-clause-run g c = runs-by _ None (status_number c.refuse_words.result) _ _ (sym c.in-None.ensures.mode) (c.refuse_words.ensures _ c.args.steps.now)

pub returns-in-Some-Drill-clause-asked : goal.returns-in-Some-Drill-clause-asked
returns-in-Some-Drill-clause-asked g c = asked-none g.S.Source.takes _ _

pub returns-in-None-clause-asked : goal.returns-in-None-clause-asked
returns-in-None-clause-asked g c = asked-none g.S.Source.takes _ _
