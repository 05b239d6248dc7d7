-- The block that a draft has.
use Rattle.std.proofs.Common.{ℕ, ◌≤◌, cond, refl, arith}
use Rattle.std.specs.Prelude.{nat_lt}
use Rattle.std.proofs.lemmas.Bool.{le-ltb, lt-ltb}
use Rattle.evac_law.specs.declared.model.Model.{Model}
use Rattle.evac_law.specs.LabelTable.{unset}
use Rattle.certificate_text.specs.declared.block.Block.{Block}
use Rattle.certificate_text.proofs.Tables.{is-table, table-at, table-full, table_of}
use Rattle.block_reader.specs.Drafts.{AreRunLabels, Draft, IsStated, run_label}

run_cell : Draft → ℕ → ℕ → ℕ
run_cell d n t = cond (nat_lt t d.cleared) (run_label d.runs n t) unset

pub stated_block : Model → Draft → Block
stated_block m d = record { index = d.index; people = d.people; cleared = d.cleared; outs = d.outs; labels = table_of m (run_cell d); moves = d.moves }

run-labels : (m : Model) (d : Draft) → d.cleared ≤ m.horizon → AreRunLabels m d.cleared d.runs (table_of m (run_cell d))
unfolding run_cell
run-labels m d inside = grind (arith, is-table, table-full, table-at, lt-ltb, le-ltb)

pub is-stated : (m : Model) (d : Draft) → d.cleared ≤ m.horizon → IsStated m d (stated_block m d)
unfolding stated_block
is-stated m d h = record { index = refl; people = refl; cleared = refl; outs = refl; labels = run-labels m d h; moves = refl }
