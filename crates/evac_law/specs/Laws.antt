-- The laws on plans, cuts, edits, and tables of flows and of entrants.
use Rattle.std.specs.Prelude.{◌≡◌, ℕ, ◌<◌, ◌≤◌, List, false, Ok, IsTrue}
use Rattle.std.specs.List.{All, AllPairs, Any}
use Rattle.evac_law.specs.declared.model.Model.{Model}
use Rattle.evac_law.specs.declared.plan.Move.{Move}
use Rattle.evac_law.specs.declared.edit.Edit.{Edit}
use Rattle.evac_law.specs.Building.{IsValid, is_exit_at, head, arrival, people, entered_by}
use Rattle.evac_law.specs.Certificates.{IsCertified, IsShortfall, IsTight, IsClearable, stated_cut}
use Rattle.evac_law.specs.Cuts.{Cut, IsCut, cut_value}
use Rattle.evac_law.specs.Edits.{IsEditOf, applied}
use Rattle.evac_law.specs.Entrants.{ComesBefore, entering, table_entrants}
use Rattle.evac_law.specs.LabelTable.{LabelTable}
use Rattle.evac_law.specs.Moves.{moves_of}
use Rattle.evac_law.specs.Parts.{CanGetOut}
use Rattle.evac_law.specs.Plans.{IsEarliest, IsFeasible, NobodyIsLeft, moved, out_by, person_periods}
use Rattle.evac_law.specs.Shapes.{HasSameShape}
use Rattle.evac_law.specs.Stands.{IsOrdered}

-- no feasible plan has more people out by k than a cut is worth there; any test serves as a cut
abbrev pub WeakDuality : Type 0
WeakDuality = (m : Model) (x : Cut) (q : List Move) (k : ℕ) → IsValid m → IsFeasible m q k → out_by m q k ≤ cut_value m x k

-- the cut of no pair is worth those who have come in by then, at most the people of the model
abbrev pub EmptyCut : Type 0
EmptyCut = (m : Model) (k : ℕ) → (cut_value m (λ _ _. false) k ≡ entered_by m k) × (entered_by m k ≤ people m)

-- where a feasible plan has everybody out by k, nobody is left then
abbrev pub AllOutLeavesNobody : Type 0
AllOutLeavesNobody =
    (m : Model) (p : List Move) (k : ℕ) → IsValid m → IsFeasible m p k → out_by m p k ≡ people m → NobodyIsLeft m p k

-- at no moment does a feasible plan have more people out than a certified one
abbrev pub CertifiedIsBest : Type 0
CertifiedIsBest = (m : Model) (p : List Move) (l : LabelTable) (c : ℕ) → IsValid m → IsCertified m p l c → IsEarliest m p

-- where a cut is worth less than the people, no feasible plan takes everybody out
abbrev pub ShortfallBarsClearing : Type 0
ShortfallBarsClearing = (m : Model) (x : Cut) (v : ℕ) → IsValid m → IsShortfall m x v → ¬ IsClearable m

-- no more people can get out than a cut is worth at the horizon, not even when the others aren't there
abbrev pub PartsAreBounded : Type 0
PartsAreBounded = (m : Model) (x : Cut) (v : ℕ) → CanGetOut m v → v ≤ cut_value m x m.horizon

-- at every moment the cut that a block states of a certified plan is worth as many as are out by then; up to the horizon it is a cut
abbrev pub StatedCutIsWorth : Type 0
StatedCutIsWorth =
    (m : Model) (p : List Move) (l : LabelTable) (c k : ℕ) → IsValid m → IsCertified m p l c
    → (k ≤ m.horizon → IsCut m (stated_cut m l c k)) × (cut_value m (stated_cut m l c k) k ≡ out_by m p k)

-- an edit keeps the names, the ends and traversal times, the horizon, the period and the entrants
abbrev pub EditKeepsShape : Type 0
EditKeepsShape = (m m' : Model) (e e' : Edit) → applied m e ≡ Ok (m', e') → HasSameShape m m'

-- the inverse of an edit is an edit of the edited model and gives the old model back
abbrev pub InverseUndoes : Type 0
InverseUndoes =
    (m m' : Model) (e e' : Edit) → IsValid m → IsEditOf m e → applied m e ≡ Ok (m', e')
    → IsEditOf m' e' × (applied m' e' ≡ Ok (m, e))

-- two certified plans of one model clear at the same moment and have as many people out by each moment
abbrev pub CertifiedPlansAgree : Type 0
CertifiedPlansAgree =
    (m : Model) (p q : List Move) (l i : LabelTable) (c d : ℕ) → IsValid m → IsCertified m p l c → IsCertified m q i d
    → (c ≡ d) × ((k : ℕ) → out_by m p k ≡ out_by m q k)

-- somebody arrives at an exit at moment c or later, and by the horizon
abbrev pub SomeoneArrivesFrom : Model → List Move → ℕ → Type 0
SomeoneArrivesFrom m q c =
    Any (λ v. (0 < v.people) × IsTrue (is_exit_at m (head m v.arc)) × (c ≤ arrival m v.arc v.moment) × (arrival m v.arc v.moment ≤ m.horizon)) q

-- of the feasible plans that take everybody out, a certified one is over first and has the fewest person-periods
abbrev pub CertifiedIsQuickest : Type 0
CertifiedIsQuickest =
    (m : Model) (p q : List Move) (l : LabelTable) (c : ℕ) → IsValid m → IsCertified m p l c → IsFeasible m q m.horizon
    → out_by m q m.horizon ≡ people m
    → (0 < c → SomeoneArrivesFrom m q c) × (person_periods m p ≤ person_periods m q)

-- a plan that fills a cut of moment k has as many people out by then as the cut is worth
abbrev pub TightIsEqual : Type 0
TightIsEqual =
    (m : Model) (x : Cut) (p : List Move) (k : ℕ) → IsValid m → IsFeasible m p k → IsTight m p x k → out_by m p k ≡ cut_value m x k

-- a model with a certified plan is clearable
abbrev pub CertifiedIsClearable : Type 0
CertifiedIsClearable = (m : Model) (p : List Move) (l : LabelTable) (c : ℕ) → IsValid m → IsCertified m p l c → IsClearable m

-- a model is clearable where a feasible plan has everybody out by some moment, whatever it does later
abbrev pub AllOutIsClearable : Type 0
AllOutIsClearable =
    (m : Model) (p : List Move) (k : ℕ) → IsValid m → k ≤ m.horizon → IsFeasible m p k → out_by m p k ≡ people m → IsClearable m

-- what enters each arc by the moves of a table is what the table says, and the moves stand in their order
pub record MovesAreTable (arcs horizon : ℕ) (table : ℕ → ℕ → ℕ) : Type 0 where
  pub same : (a t : ℕ) → a < arcs → t ≤ horizon → moved (moves_of arcs horizon table) a t ≡ table a t
  pub ordered : IsOrdered arcs horizon (moves_of arcs horizon table)

abbrev pub MovesOfTable : Type 0
MovesOfTable = (arcs horizon : ℕ) (table : ℕ → ℕ → ℕ) → MovesAreTable arcs horizon table

-- who comes in by the entrants of a table comes in by the table, and the entrants stand in their order
pub record EntrantsAreTable (nodes horizon : ℕ) (table : ℕ → ℕ → ℕ) : Type 0 where
  pub same : (n t : ℕ) → n < nodes → 1 ≤ t → t ≤ horizon → entering (table_entrants nodes horizon table) n t ≡ table n t
  pub sorted : AllPairs ComesBefore (table_entrants nodes horizon table)
  pub in_range : All (λ e. (e.node < nodes) × (1 ≤ e.moment) × (e.moment ≤ horizon)) (table_entrants nodes horizon table)
  pub of_table : All (λ e. (1 ≤ e.people) × (e.people ≡ table e.node e.moment)) (table_entrants nodes horizon table)

abbrev pub EntrantsOfTable : Type 0
EntrantsOfTable = (nodes horizon : ℕ) (table : ℕ → ℕ → ℕ) → EntrantsAreTable nodes horizon table
