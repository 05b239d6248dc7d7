-- The names of nodes, and their text.
use Rattle.std.specs.Prelude.{ℕ, ◌≤◌, Bool, true, false, List, ◌++◌, codes, decimal}
use Rattle.evac_law.specs.Limits.{number_limit, floor_number_limit}
use Rattle.evac_law.specs.declared.name.Kind.{Kind}
use Rattle.evac_law.specs.declared.name.Kind.TheVariants.{Work, Hall, Stair, Lobby, Exit}
use Rattle.evac_law.specs.declared.name.NodeName.{NodeName}

-- whether people are out once they are in a node of the kind
abbrev pub is_exit : Kind → Bool
is_exit Work = false
is_exit Hall = false
is_exit Stair = false
is_exit Lobby = false
is_exit Exit = true

-- the number is from 1 to 9999 and the floor from 0 to 999
pub record IsName (name : NodeName) : Type 0 where
  pub number : (1 ≤ name.number) × (name.number ≤ number_limit)
  pub floor : name.floor ≤ floor_number_limit

-- the two letters of a kind
abbrev pub kind_text : Kind → List ℕ
kind_text Work = codes "WP"
kind_text Hall = codes "HA"
kind_text Stair = codes "SW"
kind_text Lobby = codes "LO"
kind_text Exit = codes "DS"

-- a name as it is written: the kind, the number, a dot and the floor
unfoldable pub name_text : NodeName → List ℕ
name_text name = kind_text name.kind ++ (decimal name.number ++ (codes "." ++ decimal name.floor))
