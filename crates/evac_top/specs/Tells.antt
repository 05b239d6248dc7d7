-- How a run goes on once it has read: what it tells the sink, and how that ends.
use Rattle.std.specs.Prelude.{◌≡◌, ◌≢◌, ℕ, ◌≤◌, List, [], Result}
use Rattle.std.specs.Io.KnownBytes.{Appends}
use Rattle.line_io.specs.Causes.{Rose}
use Rattle.line_io.specs.Sides.{Side, sink_side}
use Rattle.line_io.specs.declared.outside.Sink.{Ghosts as SinkGhosts}
use Rattle.building_table.specs.declared.faults.ModelFault.{ModelFault}
use Rattle.building_table.specs.declared.faults.ModelFault.TheVariants.{Named, ReadFault, Memory}
use Rattle.edit_session.specs.Sessions.{BeginEnds, SessionView}
use Rattle.edit_session.specs.declared.faults.BeginFault.{BeginFault}
use Rattle.evac_law.specs.declared.model.Model.{Model}
use Rattle.evac_law.specs.Building.{IsValid}
use Rattle.evac_top.specs.Accounts.{Account, IsFront, IsRefusal}

-- the sink was told what an account of this kind says: all of it at statuses 0, 1 and 2, a front of it where the sink failed, and nothing without memory
pub record Tells (Holds : Account → Type 0) (status steps : ℕ) (before after : Side) : Type 0 where
  pub known : (status ≤ 5) × (status ≢ 3)
  pub written : List ℕ
  pub over : Appends before.bytes after.bytes written
  pub same : status ≢ 4 → after.faults ≡ before.faults
  pub rose : status ≡ 4 → Rose before.faults after.faults
  pub whole : status ≤ 2 → (taken : List ℕ) → Holds (record { status = status; taken = taken; written = written; steps = steps })
  pub front : status ≡ 4 → (taken : List ℕ) → IsFront Holds (record { status = status; taken = taken; written = written; steps = steps })
  pub nothing : status ≡ 5 → written ≡ []

abbrev pub TellsTo : {K : Type 0} → SinkGhosts K → (Account → Type 0) → ℕ → ℕ → K → K → Type 0
TellsTo k Holds status steps before after = Tells Holds status steps (sink_side k before) (sink_side k after)

-- the end of a run whose input isn't read: a named fault is told, otherwise nothing
abbrev pub Stops : ModelFault → ℕ → Side → Side → Type 0
Stops (Named code line) status before after = Tells (IsRefusal (code, line)) status 0 before after
Stops ReadFault status before after = (status ≡ 3) × (after ≡ before)
Stops Memory status before after = (status ≡ 5) × (after ≡ before)

-- a session has begun on a valid model, or there is none
abbrev pub HasBegun : Model → Result SessionView BeginFault → Type 0
HasBegun m begun = (steps : ℕ) × IsValid m × BeginEnds m begun steps
