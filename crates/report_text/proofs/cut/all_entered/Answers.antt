use Rattle.std.proofs.Common.{arith}
use Rattle.evac_law.specs.Building.{entered_by}
use Rattle.evac_law.proofs.Entries.{empty_cut_is}
use Rattle.report_text.proofs.cut.all_entered.Goals as goal

pub returns : goal.returns
unfolding entered_by
returns c = grind (arith, empty_cut_is)
