use Rattle.std.proofs.Common.{◌<◌, ◌∙◌, arith}
use Rattle.evac_law.specs.Certificates.{label_cut}
use Rattle.cut_witness.specs.Crossing.{rows_of, width_of}
use Rattle.cut_witness.proofs.CrossingLemmas.{at_end, at_more, at_turn}
use Rattle.cut_witness.proofs.period_cut.PeriodCut.step.Goals as goal

pub returns-then-place-rows-clause-rest : goal.returns-then-place-rows-clause-rest
returns-then-place-rows-clause-rest c = grind (arith, at_end)

pub returns-then-place-rows-clause-fewer : goal.returns-then-place-rows-clause-fewer
returns-then-place-rows-clause-fewer c =
    let p = c.args.place.now in
    let last = c.if-place-rows.true ∙ c.size_of-rows.ensures.rows in
    rw c.next.ensures
    (at_end c.args.self.now.model.now (label_cut c.args.self.now.model.now c.args.self.now.labels.now c.args.self.now.k) c.args.self.now.k p last (c.requires.position.end_first last) c.requires.more).1

pub returns-then-place-columns-clause-rest : goal.returns-then-place-columns-clause-rest
returns-then-place-columns-clause-rest c = grind (arith, at_turn)

pub returns-then-place-columns-clause-fewer : goal.returns-then-place-columns-clause-fewer
returns-then-place-columns-clause-fewer c =
    let p = c.args.place.now in
    let in_rows : p.row < rows_of c.args.self.now.model.now c.args.self.now.k p.part = omega (arith, c.size_of-rows.ensures.rows, c.requires.position.row_in) in
    (at_turn c.args.self.now.model.now (label_cut c.args.self.now.model.now c.args.self.now.labels.now c.args.self.now.k) c.args.self.now.k p in_rows
    (c.if-place-columns.true ∙ c.size_of-rows.ensures.columns)).1

pub returns-else-place-columns-clause-rest : goal.returns-else-place-columns-clause-rest
returns-else-place-columns-clause-rest c = grind (arith, at_more)

pub returns-else-place-columns-clause-fewer : goal.returns-else-place-columns-clause-fewer
returns-else-place-columns-clause-fewer c =
    let p = c.args.place.now in
    let in_rows : p.row < rows_of c.args.self.now.model.now c.args.self.now.k p.part = omega (arith, c.size_of-rows.ensures.rows, c.requires.position.row_in) in
    let in_columns : p.column < width_of c.args.self.now.model.now c.args.self.now.k p.part = omega (arith, c.size_of-rows.ensures.columns, c.requires.position.column_in) in
    (at_more c.args.self.now.model.now (label_cut c.args.self.now.model.now c.args.self.now.labels.now c.args.self.now.k) c.args.self.now.k p in_rows in_columns).1
