use Rattle.std.proofs.Common.{◌+◌, ◌∙◌, subst, sym, arith}
use Rattle.evac_law.specs.LabelTable.{LabelTable}
use Rattle.terminal_augment.specs.AllOut.{AreLowered}
use Rattle.terminal_augment.proofs.AllOutLemmas.{in_node, lowered_kept, lowered_set}
use Rattle.terminal_augment.proofs.all_out.label_node.Goals.{then-get-k, else-get-k}
use Rattle.terminal_augment.proofs.all_out.label_node.Goals as goal

pub loop-moment-preserved : goal.loop-moment-preserved
loop-moment-preserved c =
    let old = c.loop-moment.invariant.lowered in
    elim c.if-get-k.branch [
      | then-get-k b ↦ record {
        lowered = lowered_set c.if-get-k.labels old c.requires.node c.loop-moment-test.true c.requires.moment
            (omega (arith, b.if-get-k.true, c.get.ensures)) (b.labels-is ∙ b.set.ensures);
      }
      | else-get-k b ↦ record {
        lowered = subst (λ (z : LabelTable). AreLowered c.args.k (in_node c.args.node (c.loop-moment.moment + 1)) c.args.labels.now z) (sym b.labels-is)
            (lowered_kept old (omega (arith, b.if-get-k.false, c.get.ensures)));
      }
    ]
