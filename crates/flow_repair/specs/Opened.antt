-- What may have come open between two nets, and how far the labels still hold.
use Rattle.std.specs.Prelude.{◌≡◌, ℕ, ◌<◌, ◌≤◌, ◌⊎◌}
pub use Rattle.residual_net.specs.Labelled.{IsClosedBelow, IsLabelsOf}
use Rattle.evac_law.specs.LabelTable.{LabelTable, label_at}
use Rattle.residual_net.specs.declared.place.Place.{Place}
use Rattle.residual_net.specs.Network.{Network, flow_at, limit_at}
use Rattle.residual_net.specs.declared.end.End.{End}
use Rattle.residual_net.specs.declared.end.End.TheVariants.{Source, Pair, Door}
use Rattle.residual_net.specs.Site.{Site, IsPlace, head_of}

-- the number of an end: the label of a pair, the moment of an arrival
abbrev pub end_number : LabelTable → End → ℕ
end_number l Source = 0
end_number l (Pair n t) = label_at l n t
end_number l (Door t) = t

-- the number of what a place leads to
abbrev pub head_number : LabelTable → Site → Place → ℕ
head_number l s p = end_number l (head_of s p)

-- the limit of a place rose, or its flow fell
abbrev pub IsOpened : Network → Network → Place → Type 0
IsOpened w v p = (limit_at w p < limit_at v p) ⊎ (flow_at v p < flow_at w p)

-- exactly the least of a number and the numbers of what the opened places lead to
pub record IsLeastOpened (l : LabelTable) (w v : Network) (first least : ℕ) : Type 0 where
  pub most : least ≤ first
  pub places : (p : Place) → IsPlace w.site p → IsOpened w v p → least ≤ head_number l w.site p
  pub one : (least ≡ first) ⊎ ((p : Place) × IsPlace w.site p × IsOpened w v p × (least ≡ head_number l w.site p))
