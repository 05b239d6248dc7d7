use Rattle.std.proofs.Common.{◌&&◌, ap, sym}
use Rattle.std.proofs.lemmas.Bool.{le-ltb, lt-ltb}
use Rattle.line_io.proofs.WriterLemmas.{writes_is}
use Rattle.evac_law.specs.Certificates.{label_cut}
use Rattle.report_text.specs.ReportText.{cut_text}
use Rattle.report_text.proofs.cut.put_cut.Goals as goal

pub returns-then-k-cleared : goal.returns-then-k-cleared
returns-then-k-cleared g c =
    let m = c.args.model.now in
    let k = c.args.k in
    writes_is (ap (λ b. cut_text m (λ n t. b && label_cut m c.args.labels.now k n t) k) (sym (lt-ltb k c.args.cleared c.if-k-cleared.true))) c.put_label_cut.ensures

pub returns-else-k-cleared : goal.returns-else-k-cleared
returns-else-k-cleared g c =
    let m = c.args.model.now in
    let k = c.args.k in
    writes_is (ap (λ b. cut_text m (λ n t. b && label_cut m c.args.labels.now k n t) k) (sym (le-ltb k c.args.cleared c.if-k-cleared.false))) c.put_empty_cut.ensures
