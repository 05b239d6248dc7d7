-- The entries of a block: what its lines say, in their order.
use Rattle.std.specs.Prelude.{ℕ, if◌then◌else◌, List, [], ◌∷◌, ◌++◌, map}
use Rattle.std.specs.List.{enumerate_from, flat_map}
use Rattle.evac_law.specs.declared.model.Model.{Model}
use Rattle.evac_law.specs.declared.plan.Move.{Move as Entering}
use Rattle.evac_law.specs.Building.{head, is_exit_at, node_at, tail}
use Rattle.evac_law.specs.LabelTable.{label_at}
use Rattle.evac_law.specs.Sums.{below, places}
use Rattle.certificate_text.specs.declared.block.Block.{Block}
use Rattle.certificate_text.specs.declared.entry.Entry.{Entry}
use Rattle.certificate_text.specs.declared.entry.Entry.TheVariants.{Index, People, Cleared, Out, Label, Move, End}
use Rattle.certificate_text.specs.BlockText.{begins_run}

-- the people out by each period from 0 on
abbrev pub out_entries : List ℕ → List Entry
out_entries outs = map (λ out. Out out.0 out.1) (enumerate_from 0 outs)

-- the label of a node from a moment on, where it begins then
abbrev pub label_entry_at : Model → (ℕ → ℕ → ℕ) → ℕ → ℕ → List Entry
label_entry_at m label n t = if begins_run (label n) t then Label (node_at m n).name t (label n t) ∷ [] else []

-- the labels of a node that is no exit, at the moments before c
abbrev pub node_entries : Model → (ℕ → ℕ → ℕ) → ℕ → ℕ → List Entry
node_entries m label c n = if is_exit_at m n then [] else flat_map (label_entry_at m label n) (below c)

abbrev pub label_entries : Model → (ℕ → ℕ → ℕ) → ℕ → List Entry
label_entries m label c = flat_map (node_entries m label c) (places m.nodes)

-- the people who enter an arc at a moment
abbrev pub entry_of_move : Model → Entering → Entry
entry_of_move m v = Move v.moment (node_at m (tail m v.arc)).name (node_at m (head m v.arc)).name v.people

-- the number, the people, the clearing moment, the people out by each period, the labels, the moves and the end
abbrev pub entries_of : Model → Block → List Entry
entries_of m b =
    (Index b.index ∷ People b.people ∷ Cleared b.cleared ∷ []) ++ out_entries b.outs ++ label_entries m (label_at b.labels) b.cleared
    ++ map (entry_of_move m) b.moves ++ (End ∷ [])
