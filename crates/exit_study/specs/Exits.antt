-- A model without one of its exits.
use Rattle.std.specs.Prelude.{ℕ, ◌<◌, List, length, IsTrue, IsFalse}
use Rattle.evac_law.specs.declared.edit.Edit.TheVariants.{ShutExit}
use Rattle.evac_law.specs.declared.model.Model.{Model}
use Rattle.evac_law.specs.declared.plan.Move.{Move}
use Rattle.evac_law.specs.Building.{is_exit_at, node_at}
use Rattle.evac_law.specs.Certificates.{IsCertified, IsTableOf}
use Rattle.evac_law.specs.Edits.{edited}
use Rattle.evac_law.specs.LabelTable.{LabelTable}
use Rattle.edit_session.specs.Sessions.{IsNotCleared}
use Rattle.exit_study.specs.declared.exits.ExitRow.{ExitRow}
use Rattle.exit_study.specs.declared.exits.ExitRow.TheVariants.{Clears, Short}

-- a node of the model is an exit that isn't shut
pub record IsOpenExit (m : Model) (n : ℕ) : Type 0 where
  pub in_range : n < length m.nodes
  pub exit : IsTrue (is_exit_at m n)
  pub not_shut : IsFalse (node_at m n).shut

-- the model with an exit shut besides
abbrev pub without_exit : Model → ℕ → Model
without_exit m x = edited m (ShutExit x)

-- a best plan of the model has everybody out by c and not before
pub record IsClearedAt (m : Model) (c : ℕ) : Type 0 where
  pub plan : List Move
  pub labels : LabelTable
  pub certified : IsCertified m plan labels c

-- what the model comes to without an exit: the moment of a best plan, or a cut of labels that is worth `most`, fewer than the people
abbrev pub IsExitRow : Model → ℕ → LabelTable → ExitRow → Type 0
IsExitRow m x l (Clears c) = IsClearedAt (without_exit m x) c
IsExitRow m x l (Short people most) = IsTableOf (without_exit m x) l × IsNotCleared (without_exit m x) l people most
