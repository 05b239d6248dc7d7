-- The summary of a drill.
use Rattle.std.specs.Prelude.{ℕ, List, ◌++◌, codes, length}
use Rattle.evac_law.specs.declared.model.Model.{Model}
use Rattle.evac_law.specs.declared.plan.Move.{Move}
use Rattle.evac_law.specs.Building.{people}
use Rattle.evac_law.specs.Plans.{person_periods}
use Rattle.certificate_text.specs.BlockText.{end_line}
use Rattle.report_text.specs.ReportText.{number_line}
use Rattle.drill_building.specs.declared.summary.Figures.{Figures}

-- the figures of a plan that has everybody out by c, where the farthest needs so long without waiting
abbrev pub figures_of : Model → List Move → ℕ → ℕ → Figures
figures_of m p c uncongested = record { cleared = c; uncongested = uncongested; person_periods = person_periods m p }

-- the summary of a drill with a number of storeys, over its model and the figures of a plan
unfoldable pub drill_text : ℕ → Model → Figures → List ℕ
drill_text n m f =
    number_line (codes "drill") n ++ number_line (codes "nodes") (length m.nodes) ++ number_line (codes "arcs") (length m.arcs)
    ++ number_line (codes "people") (people m) ++ number_line (codes "cleared") f.cleared
    ++ number_line (codes "uncongested") f.uncongested ++ number_line (codes "personperiods") f.person_periods ++ end_line
