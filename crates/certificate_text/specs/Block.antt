-- What holds of each block that is read for a model.
use Rattle.std.specs.Prelude.{◌≡◌, ℕ, ◌+◌, ◌*◌, ◌<◌, ◌≤◌, length, IsTrue, IsFalse}
use Rattle.std.specs.List.{All}
use Rattle.evac_law.specs.declared.model.Model.{Model}
use Rattle.evac_law.specs.Building.{is_exit_at}
use Rattle.evac_law.specs.Certificates.{IsTableOf}
use Rattle.evac_law.specs.LabelTable.{LabelTable, label_at, unset}
use Rattle.evac_law.specs.Stands.{IsOrdered}
use Rattle.certificate_text.specs.declared.block.Block.{Block}

-- the greatest number that a line of a block may have: nine digits
unfoldable pub number_field_limit : ℕ
number_field_limit = 999999999

-- the labels are for the model's nodes and moments; an exit has none, nor has a moment from c on, and every other label is at most c
pub record AreLabelsOf (m : Model) (c : ℕ) (l : LabelTable) : Type 0 where
  pub table : IsTableOf m l
  pub exits_unset : (n t : ℕ) → n < length m.nodes → t ≤ m.horizon → IsTrue (is_exit_at m n) → label_at l n t ≡ unset
  pub late_unset : (n t : ℕ) → n < length m.nodes → t ≤ m.horizon → c ≤ t → label_at l n t ≡ unset
  pub fit : (n t : ℕ) → n < length m.nodes → IsFalse (is_exit_at m n) → t < c → label_at l n t ≤ c

-- the block keeps the model's sizes, its numbers are in range, and its moves stand in order
pub record IsBlockOf (m : Model) (b : Block) : Type 0 where
  pub in_horizon : b.cleared ≤ m.horizon
  pub index_fits : b.index ≤ number_field_limit
  pub people_fit : b.people ≤ number_field_limit
  pub outs_full : length b.outs ≡ b.cleared + 1
  pub outs_fit : All (λ n. n ≤ number_field_limit) b.outs
  pub labels : AreLabelsOf m b.cleared b.labels
  pub ordered : IsOrdered (length m.arcs) m.horizon b.moves
  pub moves_fit : All (λ v. v.people ≤ number_field_limit) b.moves

-- its list of labels has one for each of their nodes and moments, and no more
pub record HasAllLabels (b : Block) : Type 0 where
  pub full : length b.labels.list ≡ b.labels.nodes * (b.labels.horizon + 1)
