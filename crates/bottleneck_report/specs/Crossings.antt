-- In how many periods an arc, or waiting in a node, is an item of the period's cut.
use Rattle.std.specs.Prelude.{◌≡◌, ℕ, ◌+◌, ◌≤◌, Bool, false, ◌==◌, List, length, map}
use Rattle.std.specs.List.{filter, list_any}
use Rattle.evac_law.specs.declared.cut.CutItem.{CutItem}
use Rattle.evac_law.specs.declared.cut.CutItem.TheVariants.{Arc, Hold}
use Rattle.evac_law.specs.declared.model.Model.{Model}
use Rattle.evac_law.specs.Building.{IsValid}
use Rattle.evac_law.specs.Certificates.{IsTableOf, label_cut}
use Rattle.evac_law.specs.Cuts.{cut_items}
use Rattle.evac_law.specs.LabelTable.{LabelTable}
use Rattle.evac_law.specs.Sums.{below, places}

-- whether an item is of an arc, and whether it is of waiting in a node
abbrev pub is_of_arc : ℕ → CutItem → Bool
is_of_arc a (Arc b t r) = b == a
is_of_arc a _ = false

abbrev pub is_of_hold : ℕ → CutItem → Bool
is_of_hold n (Hold i t c) = i == n
is_of_hold n _ = false

-- the periods below c whose cut has an item that passes a test
abbrev pub crossed : Model → LabelTable → ℕ → (CutItem → Bool) → List ℕ
crossed m l c test = filter (λ k. list_any test (cut_items m (label_cut m l k) k)) (below c)

unfoldable pub arc_periods : Model → LabelTable → ℕ → ℕ → ℕ
arc_periods m l c a = length (crossed m l c (is_of_arc a))

unfoldable pub hold_periods : Model → LabelTable → ℕ → ℕ → ℕ
hold_periods m l c n = length (crossed m l c (is_of_hold n))

-- a report on labels: the numbers of the arcs, those of the nodes, and for how many periods there is room
pub record PeriodCounts : Type 0 where
  pub arcs : List ℕ
  pub holds : List ℕ
  pub room : ℕ

-- the report on the labels of a plan that has everybody out by c
abbrev pub counts_of : Model → LabelTable → ℕ → PeriodCounts
counts_of m l c = record { arcs = map (arc_periods m l c) (places m.arcs); holds = map (hold_periods m l c) (places m.nodes); room = m.horizon + 1 }

-- there is room for a model's arcs and nodes
pub record HasCounts (m : Model) (v : PeriodCounts) : Type 0 where
  pub arcs_fit : length v.arcs ≡ length m.arcs
  pub holds_fit : length v.holds ≡ length m.nodes
  pub periods_fit : v.room ≡ m.horizon + 1

-- what a count of periods rests on: a valid model, labels for it, a moment up to its horizon, and a number for each of its periods
pub record IsReportable (m : Model) (l : LabelTable) (c : ℕ) (ends : List ℕ) : Type 0 where
  pub valid : IsValid m
  pub table : IsTableOf m l
  pub in_time : c ≤ m.horizon
  pub room : length ends ≡ m.horizon + 1
