-- A draft has one block.
use Rattle.std.proofs.Common.{◌≡◌, ℕ, ◌+◌, ◌<◌, ◌≤◌, List, length, get_or, refl, sym, ap, ◌∙◌, arith}
use Rattle.std.specs.Prelude.{◌*◌, ◌/◌, ◌%◌}
use Rattle.std.proofs.Math.Nat.{div-add-mod', div-lt_iff_lt-mul}
use Rattle.std.proofs.lemmas.Bool.{cases_lt}
use Rattle.std.proofs.lemmas.List.{ext_get_or}
use Rattle.evac_law.specs.declared.model.Model.{Model}
use Rattle.evac_law.specs.LabelTable.{LabelTable, label_at}
use Rattle.certificate_text.specs.declared.block.Block.{Block}
use Rattle.block_reader.specs.declared.run.Run.{Run}
use Rattle.block_reader.specs.Drafts.{AreRunLabels, Draft, IsStated}

same-label : (m : Model) (c : ℕ) (runs : List Run) (l o : LabelTable) → AreRunLabels m c runs l → AreRunLabels m c runs o → (n t : ℕ) → n < length m.nodes → t ≤ m.horizon
    → label_at l n t ≡ label_at o n t
same-label m c runs l o a b n t h k = grind (arith, cases_lt)

same-at : (m : Model) (c : ℕ) (runs : List Run) (l o : LabelTable) → AreRunLabels m c runs l → AreRunLabels m c runs o → (i w : ℕ) → w ≡ m.horizon + 1 → i < length m.nodes * w
    → get_or l.list i 0 ≡ get_or o.list i 0
same-at m c runs l o a b i w is h =
    let n = i / w in
    let t = i % w in
    let node : n < length m.nodes = (div-lt_iff_lt-mul {k = w} {x = i} {y = length m.nodes} (omega (arith, is))).1 h in
    let moment : t ≤ m.horizon = omega (arith, is) in
    let here : n * (l.horizon + 1) + t ≡ i = ap (λ k. n * k + t) (let e : l.horizon + 1 ≡ w = omega (arith, a.table.horizon, is) in e) ∙ div-add-mod' i w in
    let there : n * (o.horizon + 1) + t ≡ i = ap (λ k. n * k + t) (let e : o.horizon + 1 ≡ w = omega (arith, b.table.horizon, is) in e) ∙ div-add-mod' i w in
    sym (ap (λ k. get_or l.list k 0) here) ∙ same-label m c runs l o a b n t node moment ∙ ap (λ k. get_or o.list k 0) there

same-labels : (m : Model) (c : ℕ) (runs : List Run) (l o : LabelTable) → AreRunLabels m c runs l → AreRunLabels m c runs o → l ≡ o
same-labels m c runs l o a b =
    let w = m.horizon + 1 in
    let cells = λ (x y : ℕ). x * (y + 1) in
    let size : length l.list ≡ length m.nodes * w = a.full ∙ ap (λ x. cells x l.horizon) a.table.nodes ∙ ap (cells (length m.nodes)) a.table.horizon in
    let other : length o.list ≡ length m.nodes * w = b.full ∙ ap (λ x. cells x o.horizon) b.table.nodes ∙ ap (cells (length m.nodes)) b.table.horizon in
    let list : l.list ≡ o.list = ext_get_or 0 l.list o.list (size ∙ sym other) (λ i h. same-at m c runs l o a b i w refl (omega (arith, h, size))) in
    let nodes : l.nodes ≡ o.nodes = a.table.nodes ∙ sym b.table.nodes in
    let horizon : l.horizon ≡ o.horizon = a.table.horizon ∙ sym b.table.horizon in
    let same : (let x : LabelTable = record { nodes = l.nodes; horizon = l.horizon; list = l.list } in x) ≡ record { nodes = o.nodes; horizon = o.horizon; list = o.list } = cc in same

pub states_one : (m : Model) (d : Draft) (b o : Block) → IsStated m d b → IsStated m d o → b ≡ o
states_one m d b o x y =
    let labels = same-labels m d.cleared d.runs b.labels o.labels x.labels y.labels in
    let whole : (let z : Block = record { index = b.index; people = b.people; cleared = b.cleared; outs = b.outs; labels = b.labels; moves = b.moves } in z)
    ≡ record { index = o.index; people = o.people; cleared = o.cleared; outs = o.outs; labels = o.labels; moves = o.moves } = cc in whole
