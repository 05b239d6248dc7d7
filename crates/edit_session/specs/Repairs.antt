-- What a repair keeps of a plan and of the labels that prove it best.
use Rattle.std.specs.Prelude.{◌≡◌, ℕ, ◌+◌, ◌<◌, ◌≤◌, ◌⊎◌, if◌then◌else◌, List, length}
use Rattle.evac_law.specs.declared.model.Model.{Model}
use Rattle.evac_law.specs.declared.plan.Move.{Move}
use Rattle.evac_law.specs.Building.{arrival, capacity, entry, head, is_exit_at, rate}
use Rattle.evac_law.specs.LabelTable.{LabelTable, label_at}
use Rattle.evac_law.specs.Parts.{TakesPartOut}
use Rattle.evac_law.specs.Plans.{moved, out_by, staying}

-- all but `lost` of those whom a plan of model m brings out keep their way in model m': moves of that plan bring them out there, when the others
-- aren't there
pub record KeepTheirWay (m : Model) (p : List Move) (m' : Model) (lost : ℕ) : Type 0 where
  pub moves : List Move
  pub kept : ℕ
  pub fewer : (a t : ℕ) → moved moves a t ≤ moved p a t
  pub take_out : TakesPartOut m' moves kept
  pub others : kept + lost ≡ out_by m p m.horizon

-- ---- labels

-- the number of a node at a moment: in an exit the moment itself, else the label
abbrev pub number_at : Model → LabelTable → ℕ → ℕ → ℕ
number_at m l n t = if is_exit_at m n then t else label_at l n t

-- from plan p of model m to model m', where those who keep their way are alone in `some` with the plan `moves`, nothing comes open below k: where a
-- rate, a capacity or an entry rose, or fewer people enter, stay or come in, they would reach a number that is k or more
pub record OpensFrom (m : Model) (p : List Move) (l : LabelTable) (m' some : Model) (moves : List Move) (k : ℕ) : Type 0 where
  pub arcs : (a t : ℕ) → a < length m.arcs → t ≤ m.horizon → (rate m a t < rate m' a t) ⊎ (moved moves a t < moved p a t)
      → k ≤ number_at m l (head m a) (arrival m a t)
  pub stays : (n t : ℕ) → n < length m.nodes → t ≤ m.horizon → (capacity m n < capacity m' n) ⊎ (staying some moves n t < staying m p n t)
      → k ≤ label_at l n (t + 1)
  pub entries : (n t : ℕ) → n < length m.nodes → t ≤ m.horizon → (entry m n t < entry m' n t) ⊎ (entry some n t < entry m n t) → k ≤ label_at l n t

-- labels of model m below k are the same in both tables, and no others are below k in the second
pub record AgreeBelow (m : Model) (l l' : LabelTable) (k : ℕ) : Type 0 where
  pub same : (n t : ℕ) → n < length m.nodes → t ≤ m.horizon → label_at l n t < k → label_at l' n t ≡ label_at l n t
  pub others : (n t : ℕ) → n < length m.nodes → t ≤ m.horizon → k ≤ label_at l n t → k ≤ label_at l' n t

-- from plan p of model m, with everybody out by c, and its labels l to labels l' of model m': all but `lost` people keep their way, and where nothing
-- comes open below k the labels below k stay
pub record IsRepairOf (m : Model) (p : List Move) (l : LabelTable) (c : ℕ) (m' : Model) (l' : LabelTable) (lost : ℕ) : Type 0 where
  pub way : KeepTheirWay m p m' lost
  pub labels : (k : ℕ) → k ≤ c + 1 → OpensFrom m p l m' way.take_out.some way.moves k → AgreeBelow m l l' k
