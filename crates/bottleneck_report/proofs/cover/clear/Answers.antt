use Rattle.bottleneck_report.proofs.CoverLemmas.{covers_none}
use Rattle.bottleneck_report.proofs.cover.clear.Goals as goal

pub returns-clause-none : goal.returns-clause-none
returns-clause-none c k = covers_none c.blank.new.list k c.blank.ensures.zeros
