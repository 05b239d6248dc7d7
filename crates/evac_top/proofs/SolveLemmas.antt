-- How a building is solved: the plan with which a session begins, or its shortfall.
use Rattle.std.proofs.Common.{Result, ◌≡◌, ℕ, ◌≤◌, List, Ok, Err, Some, refl, sym, subst, arith, inl, inr}
use Rattle.evac_law.specs.declared.model.Model.{Model}
use Rattle.evac_law.specs.declared.plan.Move.{Move}
use Rattle.evac_law.specs.Building.{IsValid}
use Rattle.evac_law.specs.Certificates.{IsClearable, IsTableOf, label_cut}
use Rattle.evac_law.specs.LabelTable.{LabelTable}
use Rattle.evac_law.specs.Plans.{IsFeasible, out_by}
use Rattle.evac_law.proofs.Optimal.{certified_is_best, certified_is_clearable}
use Rattle.building_table.specs.Names.{NameTable, names_of}
use Rattle.building_table.specs.declared.faults.ModelFault.{ModelFault}
use Rattle.building_table.specs.declared.faults.ModelFault.TheVariants.{Named, ReadFault, Memory}
use Rattle.certificate_text.specs.BlockText.{shortfall_text}
use Rattle.clearing_report.specs.Walks.{IsUncongested}
use Rattle.drill_building.specs.Drill.{drill_model}
use Rattle.drill_building.specs.Summary.{drill_text, figures_of}
use Rattle.drill_building.specs.declared.summary.Figures.{Figures}
use Rattle.edit_session.specs.Sessions.{BeginEnds, Begins, IsNotCleared, SessionState, SessionView}
use Rattle.edit_session.specs.declared.faults.BeginFault.{BeginFault}
use Rattle.edit_session.specs.declared.faults.BeginFault.TheVariants.{NotCleared}
use Rattle.edit_session.specs.declared.faults.Short.{Short}
use Rattle.edit_session.specs.Thrift.{IsSpentOpening}
use Rattle.evac_top.specs.Accounts.{Account}
use Rattle.evac_top.specs.Answers.{runs_of}
use Rattle.evac_top.specs.Drill.{IsDrilled}
use Rattle.evac_top.specs.Reads.{InputIs}
use Rattle.evac_top.specs.Solve.{IsPlanned, IsShort, IsPlannedOrShort, SaysPlan, Solves}
use Rattle.evac_top.specs.declared.read.Input.{Input}
use Rattle.evac_top.specs.declared.words.Flags.{Flags}
use Rattle.evac_top.specs.declared.words.Mode.TheVariants.{Solve}
use Rattle.evac_top.specs.Tells.{Tells}
use Rattle.evac_top.proofs.TellLemmas.{FaultIs, tells-as}
use Rattle.line_io.specs.Sides.{Side}

-- ---- the beginning of a session

-- no feasible plan has more people out by any period than that with which a session begins
pub opening-best : (m : Model) (s : SessionState) → Begins m s → (other : List Move) (k : ℕ) → IsFeasible m other k → out_by m other k ≤ out_by m s.plan k
opening-best m s h =
    let good = h.solved in
    subst (λ (x : Model). (other : List Move) (k : ℕ) → IsFeasible x other k → out_by x other k ≤ out_by x s.plan k) h.begun
    (certified_is_best s.model s.plan s.labels s.last good.valid good.certified)

-- a model with which a session begins can be cleared
pub opening-clears : (m : Model) (s : SessionState) → Begins m s → IsClearable m
opening-clears m s h =
    let good = h.solved in subst IsClearable h.begun (certified_is_clearable s.model s.plan s.labels s.last good.valid good.certified)

-- ---- answers

-- a text that says the plan with which a session begins
pub planned : (flags : Flags) (names : NameTable) (m : Model) (s : SessionState) (text taken : List ℕ) → Begins m s → SaysPlan flags names s text
    → IsPlanned flags names m (record { status = 0; taken = taken; written = text; steps = s.work.pushes })
planned flags names m s text taken begins says =
    record { opening = s; begins = begins; best = opening-best m s begins; done = refl; says = says; counted = refl }

-- a summary of the plan with which a session on a drill's building begins
pub drilled : (n : ℕ) (s : SessionState) (f : Figures) (taken : List ℕ) → Begins (drill_model n) s → IsUncongested s.model (Some f.uncongested)
    → f ≡ figures_of s.model s.plan s.last f.uncongested
    → IsDrilled n (record { status = 0; taken = taken; written = drill_text n s.model f; steps = s.work.pushes })
drilled n s f taken begins time figures =
    let m = drill_model n in
    record {
      opening = s;
      begins = begins;
      best = opening-best m s begins;
      time = f.uncongested;
      uncongested = subst (λ (x : Model). IsUncongested x (Some f.uncongested)) begins.begun time;
      ends = record {
        over = refl;
        text_whole = subst (λ (x : Model). f ≡ figures_of x s.plan s.last f.uncongested → drill_text n x f ≡ drill_text n m (figures_of m s.plan s.last f.uncongested)) (sym begins.begun)
            (λ e. subst (λ (g : Figures). drill_text n m f ≡ drill_text n m g) e refl) figures;
        counted = refl;
      };
    }

-- the same with the model that the session lends
pub lent-drilled : (n : ℕ) (s : SessionState) (f : Figures) (m : Model) (taken : List ℕ) → m ≡ s.model → Begins (drill_model n) s
    → IsUncongested s.model (Some f.uncongested) → f ≡ figures_of s.model s.plan s.last f.uncongested
    → IsDrilled n (record { status = 0; taken = taken; written = drill_text n m f; steps = s.work.pushes })
lent-drilled n s f m taken lent begins time figures =
    subst (λ (x : Model). IsDrilled n (record { status = 0; taken = taken; written = drill_text n x f; steps = s.work.pushes })) (sym lent)
    (drilled n s f taken begins time figures)

-- labels whose cut is worth too little refuse a building
pub short_by_labels : (m other : Model) (l : LabelTable) (all most line count : ℕ) (taken : List ℕ) → other ≡ m → IsNotCleared m l all most → IsSpentOpening m most count
    → IsShort m line (record { status = 1; taken = taken; written = shortfall_text line other (label_cut other l other.horizon) most; steps = count })
short_by_labels m other l all most line count taken same h spent = record {
  cut = label_cut m l m.horizon;
  most = most;
  barred_by = h.barred_by;
  refused = refl;
  block = subst (λ (x : Model). shortfall_text line x (label_cut x l x.horizon) most ≡ shortfall_text line m (label_cut m l m.horizon) most) (sym same) refl;
  few_steps = spent;
}

pub solved-few : (flags : Flags) (names : NameTable) (m : Model) (line : ℕ) (x : Account) → IsPlannedOrShort flags names m line x → x.status ≤ 1
solved-few flags names m line x (inl h) = omega (arith, h.done)
solved-few flags names m line x (inr h) = omega (arith, h.refused)

pub drilled-few : (n : ℕ) (x : Account) → IsDrilled n x → x.status ≤ 1
drilled-few n x h = omega (arith, h.ends.over)

-- ---- inputs

pub said-building : (flags : Flags) (input : Input) (bytes : List ℕ) → InputIs (Ok input) bytes → (x : Account) → x.taken ≡ bytes
    → IsPlannedOrShort flags input.building.names input.building.model input.last x → (runs_of (Some (Solve flags))).Answers bytes x
unfolding runs_of
said-building flags input bytes (asked, e, is, same) x all solved =
    subst (λ (r : _). Solves flags bytes r x) (sym e) (
      all,
      subst (λ (n : ℕ). IsPlannedOrShort flags (names_of asked.building) asked.building.model n x) same
          (subst (λ (names : NameTable). IsPlannedOrShort flags names asked.building.model input.last x) is.names
          (subst (λ (m : Model). IsPlannedOrShort flags input.building.names m input.last x) is.model solved)),
    )

pub solve-fault : (flags : Flags) (fault : ModelFault) (bytes : List ℕ) → InputIs (Err fault) bytes → FaultIs (Solve flags) fault bytes
unfolding runs_of
solve-fault flags (Named code line) bytes e = λ x is. subst (λ (r : _). Solves flags bytes r x) (sym e) is
solve-fault flags ReadFault bytes e = tt
solve-fault flags Memory bytes e = tt

-- ---- telling

pub begins-own : (m : Model) (s : SessionState) → Begins m s → Begins s.model s
begins-own m s h = subst (λ (x : Model). Begins x s) (sym h.begun) h

-- the plan with which a session on a model begins is told
pub told-planned : (flags : Flags) (names : NameTable) (m : Model) (line : ℕ) (s : SessionState) (n status : ℕ) (before after : Side) → Begins m s → n ≡ s.work.pushes
    → Tells (IsPlanned flags names s.model) status s.work.pushes before after → Tells (IsPlannedOrShort flags names m line) status n before after
told-planned flags names m line s n status before after h same told =
    subst (λ (k : ℕ). Tells (IsPlannedOrShort flags names m line) status k before after) (sym same)
    (tells-as (IsPlanned flags names s.model) (IsPlannedOrShort flags names m line) status s.work.pushes before after
    (λ x p. inl (subst (λ (y : Model). IsPlanned flags names y x) h.begun p)) told)

pub told-drilled : (number : ℕ) (s : SessionState) (n status : ℕ) (before after : Side) → n ≡ s.work.pushes
    → Tells (IsDrilled number) status s.work.pushes before after → Tells (IsDrilled number) status n before after
told-drilled number s n status before after same told = subst (λ (k : ℕ). Tells (IsDrilled number) status k before after) (sym same) told

pub valid-as : (m other : Model) → other ≡ m → IsValid m → IsValid other
valid-as m other e valid = subst IsValid (sym e) valid

pub table-as : (m other : Model) (l : LabelTable) → other ≡ m → IsTableOf m l → IsTableOf other l
table-as m other l e table = subst (λ (x : Model). IsTableOf x l) (sym e) table

-- what a session begins with, by its answer
pub begun-as : (m : Model) (n : ℕ) (r : Result SessionView BeginFault) (v : SessionView) → r ≡ Ok v → BeginEnds m r n → BeginEnds m (Ok v) n
begun-as m n r v e h = subst (λ (x : Result SessionView BeginFault). BeginEnds m x n) e h

pub fault-as : (m : Model) (n : ℕ) (r : Result SessionView BeginFault) (f : BeginFault) → r ≡ Err f → BeginEnds m r n → BeginEnds m (Err f) n
fault-as m n r f e h = subst (λ (x : Result SessionView BeginFault). BeginEnds m x n) e h

pub short-as : (m : Model) (n : ℕ) (f : BeginFault) (s : Short) → f ≡ NotCleared s → BeginEnds m (Err f) n → BeginEnds m (Err (NotCleared s)) n
short-as m n f s e h = subst (λ (x : BeginFault). BeginEnds m (Err x) n) e h

-- a shortfall is told
pub told-short : (Holds : Account → Type 0) (m : Model) (line n status : ℕ) (before after : Side) → ((x : Account) → IsShort m line x → Holds x)
    → Tells (IsShort m line) status n before after → Tells Holds status n before after
told-short Holds m line n status before after f told = tells-as (IsShort m line) Holds status n before after f told
