use Rattle.line_io.proofs.WriterLemmas.{writes_part}
use Rattle.certificate_text.specs.BlockText.{node_labels}
use Rattle.certificate_text.proofs.answer.put_labels.Goals as goal

pub loop-node-preserved : goal.loop-node-preserved
loop-node-preserved g c = writes_part (node_labels c.args.model.now c.args.labels.now c.args.cleared) c.loop-node.node c.loop-node.invariant c.put_node.ensures
