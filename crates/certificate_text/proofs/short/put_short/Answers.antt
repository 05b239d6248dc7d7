use Rattle.line_io.proofs.WriterLemmas.{writes_is, writes_then}
use Rattle.certificate_text.proofs.ShortLemmas.{short-same, short_text}
use Rattle.certificate_text.proofs.short.put_short.Goals as goal

pub returns-clause-text : goal.returns-clause-text
unfolding short_text
returns-clause-text g c = λ other same few.
    writes_is (short-same c.args.line c.args.model.now other c.args.people c.args.labels.now c.args.most same few)
    (writes_then (writes_then (writes_then (writes_then c.put_refusal.ensures c.put_people.ensures) c.put_most.ensures) c.put_ins.ensures) c.put_end.ensures)

pub returns-clause-written : goal.returns-clause-written
returns-clause-written g c = (_, writes_then (writes_then (writes_then (writes_then c.put_refusal.ensures c.put_people.ensures) c.put_most.ensures) c.put_ins.ensures) c.put_end.ensures)
