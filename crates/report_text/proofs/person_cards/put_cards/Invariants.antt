-- The cards so far were put.
use Rattle.std.proofs.Common.{◌≡◌, ◌-◌, ◌++◌, List, codes}
use Rattle.evac_law.specs.Building.{people}
use Rattle.line_io.specs.Writer.{Writes}
use Rattle.cards.specs.Cards.{CardView}
use Rattle.cards.proofs.Given.{AreGiven}
use Rattle.report_text.specs.ReportText.{cards_from, number_line}
use Rattle.report_text.proofs.person_cards.put_cards.Given as goal

abbrev pub invariant-loop-number : goal.invariant-loop-number
invariant-loop-number g l =
    let m = l.model in
    (given : List CardView) × AreGiven m (g.F.Standing.stand l.standing).plan given l.cards
    × Writes g.K.Sink l.fn.writer (number_line (codes "cards") l.index ++ cards_from m 1 given) l.writer
    × (l.number ≡ l.cards.given)

abbrev pub decreases-loop-number : goal.decreases-loop-number
decreases-loop-number g l = people l.model - l.cards.given
