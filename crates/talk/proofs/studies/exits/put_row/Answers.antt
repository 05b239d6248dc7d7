use Rattle.line_io.proofs.WriterLemmas.{writes_is, writes_then}
use Rattle.talk.proofs.RowLemmas.{short_row}
use Rattle.talk.proofs.studies.exits.put_row.Goals as goal

pub returns-in-Short : goal.returns-in-Short
returns-in-Short g c =
    let s = c.args.session.now in
    let line = rw (c.node.ensures, c.model-model.ensures.model) at c.put_exit_short.ensures in
    let ins = rw (c.model-model.ensures.model, c.refused_cut.ensures.labels) at c.put_ins.ensures in
    writes_is (short_row s.state.model c.args.node s.refused c.args.row c.in-Short.people c.in-Short.most c.in-Short.is) (writes_then line ins)
