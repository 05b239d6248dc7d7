-- What a builder holds after some parts, and the faults of a part and of an end.
use Rattle.std.specs.Prelude.{◌≡◌, ℕ, List, map, Some, None}
use Rattle.std.specs.declared.option.Option.{Option}
use Rattle.evac_law.specs.declared.code.Code.{Code}
use Rattle.evac_law.specs.declared.code.Code.TheVariants.{RepeatedSetting, UnknownFloor, RepeatedNode, OverFull, UnknownNode, SameNode, FromExit, RepeatedArc, TooMany, MissingSetting, NoExit, TooLarge, BadWindow, WindowOverlap, TooManyWindows, EntrantLate, RepeatedEntrant, NoArc, ExitNamed}
use Rattle.evac_law.specs.declared.entrant.Entrant.{Entrant}
use Rattle.evac_law.specs.declared.model.ArcRow.{ArcRow}
use Rattle.evac_law.specs.declared.model.NodeRow.{NodeRow}
use Rattle.building_table.specs.declared.building.Building.{Building}
use Rattle.building_table.specs.declared.faults.BuildFault.{BuildFault}
use Rattle.building_table.specs.declared.faults.BuildFault.TheVariants as build
use Rattle.building_table.specs.declared.faults.EndFault.{EndFault}
use Rattle.building_table.specs.declared.faults.EndFault.TheVariants as ends
use Rattle.building_table.specs.declared.faults.NameFault.{NameFault}
use Rattle.building_table.specs.declared.faults.NameFault.TheVariants as name_faults
use Rattle.building_table.specs.Names.{names_of}
use Rattle.model_text.specs.Grammar.{SaidPart}
use Rattle.model_text.specs.Taken.{Description, title_of, seconds_of, horizon_of, floors_of, nodes_of, arcs_of, entrants_of}

-- the settings where they were given, the floors' numbers and their texts, the nodes, the arcs and the entrants
pub record Built : Type 0 where
  pub seconds : Option ℕ
  pub horizon : Option ℕ
  pub title : Option (List ℕ)
  pub floors : List ℕ
  pub texts : List (List ℕ)
  pub nodes : List NodeRow
  pub arcs : List ArcRow
  pub entrants : List Entrant

-- what parts, the last one first, have given
abbrev pub built_of : List SaidPart → Built
built_of taken =
    record {
      seconds = seconds_of taken;
      horizon = horizon_of taken;
      title = title_of taken;
      floors = map (λ f. f.0) (floors_of taken);
      texts = map (λ f. f.1) (floors_of taken);
      nodes = nodes_of taken;
      arcs = arcs_of taken;
      entrants = entrants_of taken;
    }

-- the code of a fault; want of memory has none, and comes only where there is no other fault
abbrev pub build_code : BuildFault → Option Code
build_code build.RepeatedSetting = Some RepeatedSetting
build_code build.UnknownFloor = Some UnknownFloor
build_code build.RepeatedNode = Some RepeatedNode
build_code build.OverFull = Some OverFull
build_code build.UnknownNode = Some UnknownNode
build_code build.SelfArc = Some SameNode
build_code build.FromExit = Some FromExit
build_code build.RepeatedArc = Some RepeatedArc
build_code build.TooMany = Some TooMany
build_code build.NoArc = Some NoArc
build_code build.BadWindow = Some BadWindow
build_code build.WindowOverlap = Some WindowOverlap
build_code build.TooManyWindows = Some TooManyWindows
build_code build.ExitNamed = Some ExitNamed
build_code build.RepeatedEntrant = Some RepeatedEntrant
build_code build.Memory = None

abbrev pub end_code : EndFault → Option Code
end_code ends.MissingSetting = Some MissingSetting
end_code ends.NoExit = Some NoExit
end_code ends.TooLarge = Some TooLarge
end_code ends.EntrantLate = Some EntrantLate
end_code ends.Memory = None

-- the code of a name that isn't there
abbrev pub name_code : NameFault → Code
name_code name_faults.UnknownNode = UnknownNode
name_code name_faults.NoArc = NoArc

-- a building with the model and the names of a description
pub record IsBuilding (b : Building) (d : Description) : Type 0 where
  pub model : b.model ≡ d.model
  pub names : b.names ≡ names_of d
