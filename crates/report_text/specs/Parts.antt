-- Parts of the reports.
use Rattle.std.specs.Prelude.{ℕ, ◌<◌, ◌==◌, false, if◌then◌else◌, List, [], length}
use Rattle.std.specs.List.{All}
use Rattle.evac_law.specs.declared.cut.CutItem.{CutItem}
use Rattle.evac_law.specs.declared.cut.CutItem.TheVariants.{Arc, Entry, Hold}
use Rattle.evac_law.specs.declared.model.Model.{Model}
use Rattle.evac_law.specs.Building.{entry}
use Rattle.evac_law.specs.Cuts.{Cut}
use Rattle.certificate_text.specs.BlockText.{name_of_node}
use Rattle.cards.specs.Cards.{CardView}
use Rattle.report_text.specs.ReportText.{entry_line}

-- the cut of no pair
abbrev pub no_pair : Cut
no_pair _ _ = false

-- the node or the arc of an item is one of the model
abbrev pub IsItemOf : Model → CutItem → Type 0
IsItemOf m (Entry n p) = n < length m.nodes
IsItemOf m (Hold n t c) = n < length m.nodes
IsItemOf m (Arc a t r) = a < length m.arcs

-- a card begins in a node of the model, and its steps enter arcs of the model
pub record IsCardIn (m : Model) (c : CardView) : Type 0 where
  pub start_in : c.start < length m.nodes
  pub steps_in : All (λ s. s.arc < length m.arcs) c.steps

-- the line of the people who come into a node at a moment, where there are any
abbrev pub entry_text : Model → ℕ → ℕ → List ℕ
entry_text m n t = if entry m n t == 0 then [] else entry_line (name_of_node m n) (entry m n t)
