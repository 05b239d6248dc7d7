-- How much work an edit may take: by what it breaks, and by whom it brings out sooner.
use Rattle.std.specs.Prelude.{◌≡◌, ℕ, ◌+◌, ◌*◌, ◌≤◌, List}
use Rattle.std.specs.List.{sum_by}
use Rattle.evac_law.specs.declared.model.Model.{Model}
use Rattle.evac_law.specs.declared.plan.Move.{Move}
use Rattle.evac_law.specs.Plans.{out_by, violation}
use Rattle.evac_law.specs.Sums.{moments_to}
use Rattle.edit_session.specs.declared.work.Work.{Work}

-- the people out by each moment up to k, added up
unfoldable pub outs_to : Model → List Move → ℕ → ℕ
outs_to m p k = sum_by (λ t. out_by m p t) (moments_to k)

-- the work from a plan of a model to a plan of an edited model, with everybody out by c: no more people are taken back than the edit breaks, no
-- more are sent than the people taken back, once a moment up to c, and those who are out sooner; and without work the plan stays
pub record IsThrifty (m : Model) (p : List Move) (m' : Model) (p' : List Move) (c : ℕ) (w : Work) : Type 0 where
  pub few_cancelled : w.cancelled ≤ violation m p m'
  pub few_pushes : w.pushes + outs_to m p c ≤ (c + 1) * w.cancelled + outs_to m' p' c
  pub idle : w.cancelled ≡ 0 → w.pushes ≡ 0 → p' ≡ p

-- the work from nothing to a plan, with everybody out by c
pub record IsThriftyOpening (m : Model) (p : List Move) (c : ℕ) (w : Work) : Type 0 where
  pub none_cancelled : w.cancelled ≡ 0
  pub few_pushes : w.pushes ≤ outs_to m p c

-- the steps of some work: at least one for each push, and at most one more for each person taken back
abbrev pub IsCounted : Work → ℕ → Type 0
IsCounted w steps = (w.pushes ≤ steps) × (steps ≤ w.cancelled + w.pushes)

-- the steps that may be spent from a plan of a model on an edited one that can't be cleared, with a cut that is worth `most`
abbrev pub IsSpent : Model → List Move → Model → ℕ → ℕ → Type 0
IsSpent m p m' most steps =
    steps + outs_to m p m.horizon ≤ (m.horizon + 1) * most + (m.horizon + 2) * violation m p m'

-- the steps that may be spent from nothing
abbrev pub IsSpentOpening : Model → ℕ → ℕ → Type 0
IsSpentOpening m most steps = steps ≤ (m.horizon + 1) * most
