-- The labels of a building.
use Rattle.std.specs.Prelude.{◌≡◌, ◌+◌}
use Rattle.evac_law.specs.LabelTable.{LabelTable}
use Rattle.residual_ways.specs.declared.sizes.Sizes.{Sizes}

-- there is a label for each node of a building at each of its moments
abbrev pub HasLabels : Sizes → LabelTable → Type 0
HasLabels sizes labels = (labels.nodes ≡ sizes.nodes) × (labels.horizon + 1 ≡ sizes.moments)
