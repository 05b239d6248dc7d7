use Rattle.std.proofs.Common.{◌≡◌, vec_capacity}
use Rattle.guided_search.proofs.straight_path.StraightPath.lay.Given as goal

abbrev pub invariant-loop-stay : goal.invariant-loop-stay
invariant-loop-stay l = vec_capacity l.legs ≡ vec_capacity l.fn.legs
