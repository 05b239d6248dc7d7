use Rattle.std.proofs.Common.{◌≡◌, ◌∙◌, true, false, arith}
use Rattle.evac_law.specs.Building.{is_exit_at}
use Rattle.talk.proofs.RowLemmas.{count_more, count_same}
use Rattle.talk.proofs.studies.exits.exit_count.Goals as goal
use Rattle.talk.proofs.studies.exits.exit_count.Goals.{then-is_exit, else-is_exit}

pub loop-node-preserved : goal.loop-node-preserved
loop-node-preserved c =
    let p = is_exit_at c.args.model.now in
    let n = c.loop-node.node in
    let h = c.loop-node.invariant in
    elim c.if-is_exit.branch [
      | then-is_exit w ↦
          let exit : p n ≡ true = (let a = w.if-is_exit.true in let b = c.is_exit.ensures in let d = c.node.ensures in cc) in
          record { counted = w.count-is ∙ count_more p n c.loop-node.count exit h.counted; few = omega (arith, w.count-is, h.few) }
      | else-is_exit w ↦
          let none : p n ≡ false = (let a = w.if-is_exit.false in let b = c.is_exit.ensures in let d = c.node.ensures in cc) in
          record { counted = w.count-is ∙ count_same p n c.loop-node.count none h.counted; few = omega (arith, w.count-is, h.few) }
    ]
