-- What true counts say of the moments before.
use Rattle.std.proofs.Common.{◌≡◌, ℕ, zero, suc, ◌<◌, ◌≤◌, length, refl, arith}
use Rattle.evac_law.specs.Plans.{came}
use Rattle.plan_layout.specs.Tables.{people_at}
use Rattle.cards.specs.declared.counts.Counts.{Counts}
use Rattle.cards.specs.Counts.{AreTrueCounts}
use Rattle.cards.specs.Numbers.{count_before}

before_same : (f g : ℕ → ℕ) (t last : ℕ) → t ≤ last → ((s : ℕ) → s ≤ last → f s ≡ g s) → count_before f t ≡ count_before g t
before_same f g zero last l h = refl
before_same f g (suc t) last l h = h t (omega (arith, l))

module _ (w : Counts) (h : AreTrueCounts w) (n t : ℕ) (l : n < length w.plan.model.nodes) (k : t ≤ w.plan.model.horizon) where
  pub came_before_is : count_before (people_at w.came n) t ≡ count_before (came w.plan.model w.plan.moves n) t
  came_before_is = before_same (people_at w.came n) (came w.plan.model w.plan.moves n) t w.plan.model.horizon k (λ s i. h.comes n s l i)
