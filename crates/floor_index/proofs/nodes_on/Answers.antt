use Rattle.std.proofs.Common.{◌≡◌, ◌∙◌, ◌++◌, ◌∷◌, [], ap, sym, cond, append-nil}
use Rattle.floor_index.specs.Floors.{is_on}
use Rattle.floor_index.proofs.FloorLemmas.{filter-more}
use Rattle.floor_index.proofs.nodes_on.Goals.{then-is_on+in_ok-push, else-is_on}
use Rattle.floor_index.proofs.nodes_on.Goals as goal

pub loop-node-preserved : goal.loop-node-preserved
loop-node-preserved c =
    let test = is_on c.args.model.now c.args.floor in
    let n = c.loop-node.node in
    let more : c.if-is_on.nodes.items ≡ c.loop-node.nodes.items ++ cond (test n) (n ∷ []) [] =
    elim c.if-is_on.branch [
      | then-is_on+in_ok-push w ↦
          ap (λ v. v.items) w.nodes-is ∙ w.in_ok-push.ensures.items
          ∙ ap (λ b. c.loop-node.nodes.items ++ cond b (n ∷ []) []) (sym w.if-is_on.true ∙ c.is_on.ensures)
      | else-is_on w ↦
          ap (λ v. v.items) w.nodes-is ∙ sym (append-nil c.loop-node.nodes.items)
          ∙ ap (λ b. c.loop-node.nodes.items ++ cond b (n ∷ []) []) (sym w.if-is_on.false ∙ c.is_on.ensures)
    ] in
    more ∙ ap (λ l. l ++ cond (test n) (n ∷ []) []) c.loop-node.invariant ∙ sym (filter-more test n)
