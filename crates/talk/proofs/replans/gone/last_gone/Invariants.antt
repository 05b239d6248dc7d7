-- Fewer are out by the moments so far.
use Rattle.std.proofs.Common.{◌<◌, ◌≢◌, ℕ, slice_index}
use Rattle.talk.proofs.replans.gone.last_gone.Given as goal

abbrev pub invariant-loop-moment : goal.invariant-loop-moment
invariant-loop-moment l = (j : ℕ) → j < l.moment → slice_index l.replan.gone j ≢ slice_index l.replan.gone l.replan.session.state.model.horizon
