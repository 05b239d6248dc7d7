use Rattle.std.proofs.Common.{ap, subst, ℕ}
use Rattle.evac_law.specs.Stands.{IsOrdered}
use Rattle.line_io.proofs.WriterLemmas.{writes_is, writes_then}
use Rattle.certificate_text.specs.BlockText.{answer_text, cleared_line, label_lines, out_lines, people_line}
use Rattle.certificate_text.proofs.AnswerBack.{reads_back}
use Rattle.certificate_text.proofs.answer.put_answer.Goals as goal

pub returns-clause-text : goal.returns-clause-text
unfolding answer_text
returns-clause-text g c =
    let m = c.args.model.now in
    let s = g.F.Standing.stand c.args.standing.now in
    let last = c.cleared-cleared.ensures in
    let head = writes_then (writes_then c.put_index.ensures (writes_is (ap people_line c.people-people.ensures) c.put_people.ensures)) (writes_is (ap cleared_line last) c.put_cleared.ensures) in
    let outs = writes_then head (writes_is (ap (λ k. out_lines m s.plan k) last) c.put_outs.ensures) in
    let labels = writes_then outs (writes_is (ap (λ k. label_lines m c.args.labels.now k) last) c.put_labels.ensures) in
    writes_then (writes_then labels c.put_named_moves.ensures) c.put_end.ensures

pub returns-clause-back : goal.returns-clause-back
returns-clause-back g c = λ few cert.
    let m = c.args.model.now in
    let s = g.F.Standing.stand c.args.standing.now in
    let fits = c.requires.fits in
    let ordered = subst (λ (n : ℕ). IsOrdered n m.horizon s.plan) fits.arcs_same (subst (λ (h : ℕ). IsOrdered s.arcs h s.plan) fits.horizon_same fits.ordered) in
    reads_back c.args.index m s.plan c.args.labels.now s.last few c.requires.valid cert ordered
