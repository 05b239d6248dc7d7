use Rattle.std.proofs.Common.{ap₂, ℕ, ◌∙◌, get_or, take, ap, sym, None}
use Rattle.std.proofs.lemmas.List.{take_more}
use Rattle.clearing_report.specs.Clearing.{latest, later}
use Rattle.clearing_report.proofs.MomentLemmas.{latest_none, latest_push}
use Rattle.clearing_report.proofs.moments.latest.Goals as goal

pub loop-node-init : goal.loop-node-init
loop-node-init c = sym (latest_none _)

pub loop-node-preserved : goal.loop-node-preserved
loop-node-preserved c =
    let g = λ (n : ℕ). get_or c.args.moments.now n None in
    let xs = c.args.nodes.now in
    let i = c.loop-node.node-index in
    c.later-last.ensures ∙ ap₂ later c.loop-node.invariant c.moment_at.ensures ∙ sym (latest_push g (take i xs) (get_or xs i 0)) ∙ ap (latest g) (sym (take_more xs i 0 c.loop-node-test.true))
