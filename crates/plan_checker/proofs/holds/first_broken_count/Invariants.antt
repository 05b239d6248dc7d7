use Rattle.std.proofs.Common.{◌≡◌, ℕ, ◌+◌, ◌<◌, ◌≤◌, IsFalse, MatchOption}
use Rattle.evac_law.specs.Building.{is_exit_at}
use Rattle.plan_checker.specs.Counts.{IsCountedWell}
use Rattle.plan_checker.proofs.holds.first_broken_count.Given as goal

abbrev pub invariant-loop-node : goal.invariant-loop-node
invariant-loop-node l = record {
  until : l.until ≤ l.came.last + 1;
  well : (n t : ℕ) → n < l.node → IsFalse (is_exit_at l.model n) → t < l.until → IsCountedWell l.model l.came l.left n t;
  first : MatchOption l.first (l.until ≡ l.came.last + 1)
      (λ r. (r.0 ≡ l.until) × (r.0 ≤ l.came.last) × (r.1 < l.node) × IsFalse (is_exit_at l.model r.1) × (¬ (IsCountedWell l.model l.came l.left r.1 r.0))
      × ((n : ℕ) → n < r.1 → IsFalse (is_exit_at l.model n) → IsCountedWell l.model l.came l.left n r.0));
}
