-- Tables of labels, and labels that are unset from a moment on.
use Rattle.std.proofs.Common.{◌≡◌, ℕ, ◌+◌, ◌*◌, ◌<◌, ◌≤◌, ◌^◌, List, ◌++◌, drop, length, map, take, ◌∙◌, arith}
use Rattle.std.proofs.lemmas.Bool.Decides.{nat_tests}
use Rattle.std.proofs.lemmas.List.{get_or-map, length-map, take_at}
use Rattle.std.proofs.lemmas.List.Elements.{All-map}
use Rattle.std.proofs.lemmas.Nat.{mul-add-lt}
use Rattle.std.proofs.Math.Nat.{mul_comm}
use Rattle.evac_law.specs.LabelTable.{IsTable, LabelTable, below_or_unset, label_at, label_place, unset_from}

fits : (from label : ℕ) → label < 2 ^ 16 → below_or_unset from label < 2 ^ 16
fits from label h = grind (arith, nat_tests)

unset_table : (nodes horizon from : ℕ) (list : List ℕ) → IsTable nodes horizon list → IsTable nodes horizon (map (below_or_unset from) list)
unset_table nodes horizon from list h = record {
  full = length-map list (below_or_unset from) ∙ h.full;
  labels = All-map (λ l. l < 2 ^ 16) (below_or_unset from) list (λ i d l. fits from _ (h.labels i d l));
}

-- the table whose list is written over
pub table_after : (nodes horizon from len : ℕ) (items seen now : List ℕ) → IsTable nodes horizon items → seen ≡ items → length seen ≡ len
    → now ≡ map (below_or_unset from) seen → IsTable nodes horizon (take len (now ++ drop (length now) items))
table_after nodes horizon from len items seen now table same long unset = grind (arith, length-map, take_at, unset_table)

-- the label of each pair stands in the list
pub label_within : (l : LabelTable) (n t : ℕ) → length l.list ≡ l.nodes * (l.horizon + 1) → n < l.nodes → t ≤ l.horizon → label_place l n t < length l.list
label_within l n t full node moment = grind (arith, mul-add-lt, mul_comm)

-- each label is one that was below the moment, or is unset
pub unset_at : (l : LabelTable) (from n t : ℕ) → length l.list ≡ l.nodes * (l.horizon + 1) → n < l.nodes → t ≤ l.horizon
    → label_at (unset_from l from) n t ≡ below_or_unset from (label_at l n t)
unset_at l from n t full node moment = get_or-map (below_or_unset from) l.list (label_place l n t) 0 0 (label_within l n t full node moment)
