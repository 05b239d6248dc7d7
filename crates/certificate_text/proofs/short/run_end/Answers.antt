use Rattle.std.proofs.Common.{◌∙◌, arith}
use Rattle.evac_law.specs.Certificates.{label_cut}
use Rattle.certificate_text.proofs.RunLemmas.{run_end-last, run_end-more, run_end-stop}
use Rattle.certificate_text.proofs.short.run_end.Goals as goal

pub loop-last-preserved : goal.loop-last-preserved
loop-last-preserved c = grind (arith, run_end-more)

pub returns-else-is_inside : goal.returns-else-is_inside
returns-else-is_inside c = grind (arith, run_end-stop)

pub returns-after-loop-last : goal.returns-after-loop-last
returns-after-loop-last c = run_end-last (label_cut c.args.model.now c.args.labels.now c.args.k c.args.node) c.loop-last.last c.args.model.now.horizon (omega arith) ∙ c.loop-last.invariant.same
