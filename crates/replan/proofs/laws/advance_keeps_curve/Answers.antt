use Rattle.replan.proofs.KeptCurve.{curve-kept}
use Rattle.replan.proofs.laws.advance_keeps_curve.Goals as goal

pub returns : goal.returns
returns c = curve-kept
