-- Labels of a net, and up to which moment what they say is closed.
use Rattle.std.specs.Prelude.{◌≡◌, ℕ, ◌<◌}
use Rattle.evac_law.specs.LabelTable.{LabelTable}
use Rattle.residual_net.specs.Closed.{IsClosed}
use Rattle.residual_net.specs.Network.{Network}
use Rattle.residual_net.specs.NetLaws.{labelled}
use Rattle.residual_net.specs.Site.{Site}

-- the labels are for the network's nodes and moments
pub record IsLabelsOf (s : Site) (l : LabelTable) : Type 0 where
  pub nodes : l.nodes ≡ s.shape.nodes
  pub horizon : l.horizon ≡ s.shape.horizon

-- for each moment below k the pairs labelled at most it are closed at it
abbrev pub IsClosedBelow : Network → LabelTable → ℕ → Type 0
IsClosedBelow w l k = (i : ℕ) → i < k → IsClosed w (labelled l i) i
