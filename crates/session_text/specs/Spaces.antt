-- Tables that reports are made in.
use Rattle.std.specs.Prelude.{◌≡◌, length}
use Rattle.evac_law.specs.declared.model.Model.{Model}
use Rattle.bottleneck_report.specs.Crossings.{HasCounts, PeriodCounts}
use Rattle.building_table.specs.Names.{NameTable}
use Rattle.clearing_report.specs.Clearing.{ClearingView}
use Rattle.floor_index.specs.Floors.{FloorTable, table_of}

-- a report on a plan, the nodes of each floor, and a report on labels
pub record SpaceView : Type 0 where
  pub clearing : ClearingView
  pub floors : FloorTable
  pub bottlenecks : PeriodCounts

-- reports on the plans of a model can be made in these tables, with the floors of these names
pub record IsSpace (m : Model) (names : NameTable) (t : SpaceView) : Type 0 where
  pub nodes_fit : length t.clearing.moments ≡ length m.nodes
  pub floors_are : t.floors ≡ table_of m names.floors
  pub room : HasCounts m t.bottlenecks
