use Rattle.std.proofs.Common.{◌≡◌, ℕ, ◌<◌}
use Rattle.plan_layout.specs.Tables.{people_at}
use Rattle.route_decompose.proofs.store.Store.find.Given as goal

abbrev pub invariant-loop-node : goal.invariant-loop-node
invariant-loop-node l = (n t : ℕ) → n < l.node → people_at l.self-inside.waiting n t ≡ 0
