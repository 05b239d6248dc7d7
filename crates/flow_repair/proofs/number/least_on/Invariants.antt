use Rattle.std.proofs.Common.{◌≡◌, ◌≤◌, ◌<◌, ◌⊎◌, ℕ, get_or}
use Rattle.residual_net.specs.declared.place.PathStep.{PathStep}
use Rattle.flow_repair.specs.Opened.{head_number}
use Rattle.flow_repair.proofs.number.least_on.Given as goal

abbrev pub invariant-loop-step : goal.invariant-loop-step
invariant-loop-step l = record {
  most : l.least ≤ l.first;
  all : (i : ℕ) (d : PathStep) → i < l.step-index → l.least ≤ head_number l.labels l.net.site (get_or l.path i d).place;
  one : (l.least ≡ l.first)
      ⊎ ((i : ℕ) × (r : PathStep) × (i < l.step-index) × (get_or l.path i r ≡ r) × (l.least ≡ head_number l.labels l.net.site r.place));
}
