-- Labels: a number for each node at each moment.
use Rattle.std.specs.Prelude.{◌≡◌, ℕ, ◌+◌, ◌*◌, ◌<◌, ◌^◌, if◌then◌else◌, List, length, map, nat_lt, slice_index, slice_set}
use Rattle.std.specs.List.{All}

-- labels as contracts see them: the number of nodes, the horizon, and the labels node by node
pub record LabelTable : Type 0 where
  pub nodes : ℕ
  pub horizon : ℕ
  pub list : List ℕ

-- there is a label of 16 bits for each node and each moment up to the horizon
pub record IsTable (nodes horizon : ℕ) (list : List ℕ) : Type 0 where
  pub full : length list ≡ nodes * (horizon + 1)
  pub labels : All (λ l. l < 2 ^ 16) list

-- the label of a pair that has none
abbrev pub unset : ℕ
unset = 65535

-- the place of a node and moment in the list
abbrev pub label_place : LabelTable → ℕ → ℕ → ℕ
label_place l n t = n * (l.horizon + 1) + t

-- the label of a node at a moment
abbrev pub label_at : LabelTable → ℕ → ℕ → ℕ
label_at l n t = slice_index l.list (label_place l n t)

-- the labels with another one for a node and moment
abbrev pub with_label : LabelTable → ℕ → ℕ → ℕ → LabelTable
with_label l n t label = record l { list = slice_set l.list (label_place l n t) label }

-- a label that is below a moment, or else none
abbrev pub below_or_unset : ℕ → ℕ → ℕ
below_or_unset from label = if nat_lt label from then label else unset

-- the labels without those that aren't below a moment
abbrev pub unset_from : LabelTable → ℕ → LabelTable
unset_from l from = record l { list = map (below_or_unset from) l.list }
