use Rattle.std.proofs.Common.{◌≡◌, ◌∙◌, ap, arith, length}
use Rattle.std.specs.List.{flat_map}
use Rattle.line_io.proofs.WriterLemmas.{writes_is, writes_part}
use Rattle.evac_law.specs.Sums.{below, moments_to}
use Rattle.report_text.specs.Parts.{entry_text}
use Rattle.report_text.proofs.CutItems.{entry_lines}
use Rattle.report_text.proofs.cut.put_all_coming.Goals as goal

pub loop-node-preserved : goal.loop-node-preserved
loop-node-preserved g c = writes_part (λ n. flat_map (entry_text c.args.model.now n) (moments_to c.args.k)) c.loop-node.node c.loop-node.invariant c.put_node_coming.ensures

pub returns : goal.returns
returns g c =
    let m = c.args.model.now in
    let all : c.loop-node.node ≡ length m.nodes = omega (arith, c.loop-node-test.false, c.loop-node.auto.node-end, c.node_count-node-end.ensures.count) in
    (writes_is (ap (λ k. flat_map (λ n. flat_map (entry_text m n) (moments_to c.args.k)) (below k)) all ∙ entry_lines m c.args.k) c.loop-node.invariant)
