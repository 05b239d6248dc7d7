-- An answer block that was written reads back.
use Rattle.std.specs.Prelude.{◌≡◌, ℕ, ◌+◌, ◌<◌, ◌≤◌, List, ◌++◌, length, map, IsTrue, IsFalse}
use Rattle.evac_law.specs.declared.model.Model.{Model}
use Rattle.evac_law.specs.declared.plan.Move.{Move}
use Rattle.evac_law.specs.Building.{IsValid, is_exit_at, people}
use Rattle.evac_law.specs.Certificates.{IsCertified, IsTableOf}
use Rattle.evac_law.specs.LabelTable.{LabelTable, label_at, unset}
use Rattle.evac_law.specs.Plans.{out_by}
use Rattle.evac_law.specs.Stands.{IsOrdered}
use Rattle.evac_law.specs.Sums.{moments_to}
use Rattle.line_io.specs.Line.{Line, input_limit, lines_after, pieces}
use Rattle.certificate_text.specs.declared.block.Block.{Block}
use Rattle.certificate_text.specs.Block.{number_field_limit}
use Rattle.certificate_text.specs.BlockReadings.{ReadsAs, Stated}
use Rattle.certificate_text.specs.BlockText.{answer_text, shown_label}

-- the most bytes of an answer block
unfoldable pub block_limit : ℕ
block_limit = 40000000

-- the answer block of a certified plan is within its limit
abbrev pub BlockIsSmall : Type 0
BlockIsSmall =
    (index : ℕ) (m : Model) (p : List Move) (l : LabelTable) (c : ℕ) → index ≤ number_field_limit → IsValid m → IsCertified m p l c
    → length (answer_text index m p l c) ≤ block_limit

-- a block has this index, the model's people, the moment c, the people out by each period up to it, the labels as they are shown,
-- none for exits and from c on, which certify the plan, and the moves of the plan
pub record IsAnswerBlock (index : ℕ) (m : Model) (p : List Move) (l : LabelTable) (c : ℕ) (b : Block) : Type 0 where
  pub index_same : b.index ≡ index
  pub people_same : b.people ≡ people m
  pub cleared_same : b.cleared ≡ c
  pub outs_same : b.outs ≡ map (out_by m p) (moments_to c)
  pub table : IsTableOf m b.labels
  pub shown : (n t : ℕ) → n < length m.nodes → IsFalse (is_exit_at m n) → t < c → label_at b.labels n t ≡ shown_label l c n t
  pub exits_unset : (n t : ℕ) → n < length m.nodes → IsTrue (is_exit_at m n) → t ≤ m.horizon → label_at b.labels n t ≡ unset
  pub late_unset : (n t : ℕ) → n < length m.nodes → c ≤ t → t ≤ m.horizon → label_at b.labels n t ≡ unset
  pub certified : IsCertified m p b.labels c
  pub moves_same : b.moves ≡ p

-- the lines of the text of an answer, after other lines of an input, state a block and end with it, and the block is that answer
pub record ReadsBack (index : ℕ) (m : Model) (p : List Move) (l : LabelTable) (c : ℕ) : Type 0 where
  pub block : Block
  pub count : ℕ
  pub reads : (given before : ℕ) (rest : List Line) → given + block_limit ≤ input_limit
      → ReadsAs m before (lines_after given (pieces (answer_text index m p l c)) ++ rest) (Stated block (before + count) rest)
  pub answer : IsAnswerBlock index m p l c block

-- it does for each certified plan whose moves stand in order
abbrev pub BlockReadsBack : Type 0
BlockReadsBack =
    (index : ℕ) (m : Model) (p : List Move) (l : LabelTable) (c : ℕ) → index ≤ number_field_limit → IsValid m → IsCertified m p l c
    → IsOrdered (length m.arcs) m.horizon p → ReadsBack index m p l c
