use Rattle.std.proofs.Common.{ℕ, ap, arith, get_or}
use Rattle.line_io.proofs.WriterLemmas.{writes_each, writes_is}
use Rattle.floor_index.specs.Floors.{listed}
use Rattle.clearing_report.specs.Clearing.{latest, clearing_moment}
use Rattle.report_text.specs.ReportText.{floor_clear_line, floor_clear_part}
use Rattle.report_text.proofs.clearing.put_floors.Goals as goal

pub loop-floor-preserved : goal.loop-floor-preserved
loop-floor-preserved g c =
    let floors = c.args.floors.now in
    let i = c.loop-floor.floor-index in
    let last = λ (f : ℕ). latest (clearing_moment c.args.clearing.now) (listed c.args.index.now f) in
    writes_each (floor_clear_part last) floors i 0 (omega (arith, c.loop-floor-test.true)) c.loop-floor.invariant
    (writes_is (ap (floor_clear_line (get_or floors i 0)) c.floor_clear.ensures) c.put_floor_clear.ensures)
