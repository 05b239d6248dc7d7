-- What the reader knows of a block up to some line.
use Rattle.std.specs.Prelude.{◌≡◌, ℕ, ◌+◌, ◌<◌, ◌≤◌, false, if◌then◌else◌, List, [], ◌∷◌, length, IsFalse}
use Rattle.std.specs.List.{All, flat_map}
use Rattle.evac_law.specs.declared.model.Model.{Model}
use Rattle.evac_law.specs.declared.plan.Move.{Move}
use Rattle.evac_law.specs.Building.{is_exit_at}
use Rattle.evac_law.specs.Stands.{IsOrdered}
use Rattle.evac_law.specs.Sums.{below}
use Rattle.block_reader.specs.declared.run.Run.{Run}
use Rattle.certificate_text.specs.Block.{number_field_limit}
use Rattle.certificate_text.specs.BlockText.{begins_run}
use Rattle.block_reader.specs.Drafts.{Draft, behind_run, is_curve, is_full, is_lists, last_of, run_label}

-- ---- the runs of labels

-- a run at each moment at which the label of a node begins
abbrev pub run_part : (ℕ → ℕ → ℕ) → ℕ → ℕ → List Run
run_part f n t = if begins_run (f n) t then (record { node = n; moment = t; label = f n t } ∷ []) else []

-- the runs of a node before a moment
abbrev pub run_parts : (ℕ → ℕ → ℕ) → ℕ → ℕ → List Run
run_parts f n t = flat_map (run_part f n) (below t)

abbrev pub node_runs : Model → (ℕ → ℕ → ℕ) → ℕ → ℕ → List Run
node_runs m f c n = if is_exit_at m n then [] else run_parts f n c

-- the runs of so many nodes, before the moment c
abbrev pub all_runs : Model → (ℕ → ℕ → ℕ) → ℕ → ℕ → List Run
all_runs m f c k = flat_map (node_runs m f c) (below k)

-- ---- what holds of it

-- a run is of a node that is no exit, before the moment c, with a label up to c
pub record IsRun (m : Model) (c : ℕ) (r : Run) : Type 0 where
  pub node_in : r.node < length m.nodes
  pub no_exit : IsFalse (is_exit_at m r.node)
  pub moment_in : r.moment < c
  pub label_fits : r.label ≤ c

-- runs are those of the labels that they give up to the node of the last one, and none of these is above c
pub record AreRuns (m : Model) (c : ℕ) (runs : List Run) : Type 0 where
  pub each : All (IsRun m c) runs
  pub own : all_runs m (run_label runs) c (behind_run (last_of runs)) ≡ runs
  pub covered : (n t : ℕ) → n < behind_run (last_of runs) → IsFalse (is_exit_at m n) → run_label runs n t ≤ c

pub record AreMoves (m : Model) (moves : List Move) : Type 0 where
  pub ordered : IsOrdered (length m.arcs) m.horizon moves
  pub fit : All (λ v. v.people ≤ number_field_limit) moves

-- the numbers of the first lines are in range
pub record AreHeads (m : Model) (index people cleared : ℕ) : Type 0 where
  pub in_horizon : cleared ≤ m.horizon
  pub index_fits : index ≤ number_field_limit
  pub people_fit : people ≤ number_field_limit

-- the people out by each period fit a line, and there are no more of them than periods up to the moment c
pub record AreOuts (c : ℕ) (outs : List ℕ) : Type 0 where
  pub fit : All (λ n. n ≤ number_field_limit) outs
  pub few : length outs ≤ c + 1

-- the numbers are in range, each list stands only where those before it are whole, and runs and moves are lawful
pub record IsDraft (m : Model) (d : Draft) : Type 0 where
  pub heads : AreHeads m d.index d.people d.cleared
  pub outs : AreOuts d.cleared d.outs
  pub no_outs : is_lists d.stage ≡ false → d.outs ≡ []
  pub runs : AreRuns m d.cleared d.runs
  pub no_runs : is_curve d ≡ false → d.runs ≡ []
  pub moves : AreMoves m d.moves
  pub no_moves : is_full m d ≡ false → d.moves ≡ []
