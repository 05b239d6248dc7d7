use Rattle.line_io.proofs.WriterLemmas.{writes_part}
use Rattle.evac_law.specs.Certificates.{label_cut}
use Rattle.certificate_text.specs.BlockText.{node_in}
use Rattle.certificate_text.proofs.short.put_ins.Goals as goal

pub loop-node-preserved : goal.loop-node-preserved
loop-node-preserved g c = writes_part (node_in c.args.model.now (label_cut c.args.model.now c.args.labels.now c.args.k)) c.loop-node.node c.loop-node.invariant c.put_node.ensures
