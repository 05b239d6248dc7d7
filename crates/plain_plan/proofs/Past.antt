-- What labels are past their last node.
use Rattle.std.proofs.Common.{◌≡◌, ◌≤◌, ℕ, ◌+◌, length, arith, le_refl}
use Rattle.std.proofs.lemmas.List.{get_or_past}
use Rattle.std.proofs.lemmas.Nat.{mul-le}
use Rattle.evac_law.specs.LabelTable.{IsTable, LabelTable, label_at, label_place}

-- the label past the last node is 0
pub past_all : (l : LabelTable) (n t : ℕ) → IsTable l.nodes l.horizon l.list → l.nodes ≤ n → label_at l n t ≡ 0
past_all l n t table after =
    let beyond : length l.list ≤ label_place l n t = omega (arith, table.full, mul-le l.nodes (l.horizon + 1) n (l.horizon + 1) after (le_refl (l.horizon + 1))) in
    get_or_past l.list (label_place l n t) 0 beyond
