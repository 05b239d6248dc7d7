-- The laws on states, and on the cuts that an edit leaves.
use Rattle.std.specs.Prelude.{◌≡◌, ℕ, ◌<◌, ◌≤◌, List, length}
use Rattle.evac_law.specs.declared.model.Model.{Model}
use Rattle.evac_law.specs.declared.plan.Move.{Move}
use Rattle.evac_law.specs.Building.{is_exit_at, people}
use Rattle.evac_law.specs.Certificates.{label_cut}
use Rattle.evac_law.specs.LabelTable.{LabelTable}
use Rattle.evac_law.specs.Laws.{SomeoneArrivesFrom}
use Rattle.evac_law.specs.Plans.{IsFeasible, out_by, person_periods}
use Rattle.edit_session.specs.Repairs.{AgreeBelow}
use Rattle.edit_session.specs.Sessions.{Begins, GoesOn, IsSolved, SessionState}

-- what an edit or an undo goes on to has the last moment and the curve of whatever begins with the same model
abbrev pub GoesOnAsFresh : Type 0
GoesOnAsFresh =
    (s t fresh : SessionState) (m : Model) (earlier : List Model) → GoesOn s m earlier t → Begins m fresh
    → (t.last ≡ fresh.last) × ((k : ℕ) → out_by m t.plan k ≡ out_by m fresh.plan k)

-- of the feasible plans that take everybody out, a state's is over first and has the fewest person-periods
abbrev pub StateIsQuickest : Type 0
StateIsQuickest =
    (s : SessionState) (q : List Move) → IsSolved s → IsFeasible s.model q s.model.horizon
    → out_by s.model q s.model.horizon ≡ people s.model
    → (0 < s.last → SomeoneArrivesFrom s.model q s.last) × (person_periods s.model s.plan ≤ person_periods s.model q)

-- where labels agree below k, the cut of each moment below k has the same nodes at the same moments
abbrev pub CutsStay : Type 0
CutsStay =
    (m m' : Model) (l l' : LabelTable) (k i : ℕ) → ((n : ℕ) → is_exit_at m' n ≡ is_exit_at m n) → AgreeBelow m l l' k → i < k
    → (n t : ℕ) → n < length m.nodes → t ≤ m.horizon → label_cut m' l' i n t ≡ label_cut m l i n t
