-- What a mark that is set changes.
use Rattle.std.proofs.Common.{◌≡◌, ◌<◌, ◌≤◌, ℕ, true, length, arith, inl, inr}
use Rattle.std.proofs.Math.Nat.{mul_comm}
use Rattle.std.proofs.lemmas.Bool.{cases_eq, eq-eqb}
use Rattle.std.proofs.lemmas.List.{get_or-set_same, get_or-set_other}
use Rattle.std.proofs.lemmas.Nat.{mul-add-lt}
use Rattle.terminal_augment.specs.Marking.{MarkTable, IsMarks, is_marked, mark_place, with_stamp}

-- a node at a moment of the table
pub record IsIn (m : MarkTable) (n t : ℕ) : Type 0 where
  pub node : n < m.nodes
  pub moment : t ≤ m.horizon

pub place_in : {m : MarkTable} {n t : ℕ} → IsMarks m → IsIn m n t → mark_place m n t < length m.list
place_in {m} {n} {t} h i = grind (arith, mul-add-lt, mul_comm)

-- a mark that is set stands
pub marked_here : {m : MarkTable} {n t : ℕ} → IsMarks m → IsIn m n t → is_marked (with_stamp m n t m.stamp) n t ≡ true
marked_here {m} {n} {t} h i =
    let lt : mark_place m n t < length m.list = place_in h i in
    eq-eqb _ _ (get_or-set_same m.list (mark_place m n t) m.stamp 0 lt)

-- whatever is marked stays so
pub marked_grows : {m : MarkTable} {n t : ℕ} (u v : ℕ) → IsMarks m → IsIn m n t → is_marked m u v ≡ true → is_marked (with_stamp m n t m.stamp) u v ≡ true
marked_grows {m} {n} {t} u v h i e = elim (cases_eq (mark_place m u v) (mark_place m n t)) [
  | inl same ↦
      let lt : mark_place m n t < length m.list = place_in h i in
      rw same (eq-eqb _ _ (get_or-set_same m.list (mark_place m n t) m.stamp 0 lt))
  | inr other ↦ rw (get_or-set_other m.list (mark_place m n t) (mark_place m u v) m.stamp 0 other) e
]
