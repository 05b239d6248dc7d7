-- The modes of the program, and the words that ask for them.
use Rattle.std.specs.Prelude.{ℕ, ◌≤◌, Bool, true, false, ◌&&◌, ◌||◌, if◌then◌else◌, List, [], ◌∷◌, Some, None, codes, option_map, ⊤}
use Rattle.std.specs.declared.option.Option.{Option}
use Rattle.std.specs.Str.{bytes_eq}
use Rattle.drill_building.specs.declared.limits.TheConstants.{STOREY_LIMIT}
use Rattle.model_text.specs.NameFields.{plain_within}
use Rattle.evac_top.specs.declared.words.Flags.{Flags}
use Rattle.evac_top.specs.declared.words.Mode.{Mode}
use Rattle.evac_top.specs.declared.words.Mode.TheVariants.{Solve, Check, Session, Study, Replan, Upgrade, Drill}

-- whether the routes are asked for, and the reports
abbrev pub asking : Bool → Bool → Flags
asking routes reports = record { routes = routes; cards = false; reports = reports }

-- what is put after a plan where cards are asked for
abbrev pub cards_alone : Flags
cards_alone = record { routes = false; cards = true; reports = false }

-- one word after `solve`
abbrev pub one_flag : List ℕ → Option Flags
one_flag v =
    if bytes_eq v (codes "--routes") then Some (asking true false) else if bytes_eq v (codes "--reports") then Some (asking false true) else None

-- two words after `solve`: each of the two once, in either order
abbrev pub two_flags : List ℕ → List ℕ → Option Flags
two_flags v w =
    if (bytes_eq v (codes "--routes") && bytes_eq w (codes "--reports")) || (bytes_eq v (codes "--reports") && bytes_eq w (codes "--routes"))
    then Some (asking true true) else None

-- what the words after `solve` ask for
abbrev pub flags_of : List (List ℕ) → Option Flags
flags_of [] = Some (asking false false)
flags_of (v ∷ []) = one_flag v
flags_of (v ∷ w ∷ []) = two_flags v w
flags_of (v ∷ w ∷ x ∷ more) = None

-- the number of storeys that the words after `drill` ask for: from 1 to the most that can be built, without leading zeros
abbrev pub storeys_of : List (List ℕ) → Option ℕ
storeys_of (v ∷ w ∷ []) = if bytes_eq v (codes "--number") then plain_within 1 STOREY_LIMIT w else None
storeys_of _ = None

-- a mode whose word has none after it
abbrev pub mode_alone : Mode → List (List ℕ) → Option Mode
mode_alone mode [] = Some mode
mode_alone mode (v ∷ more) = None

-- the mode that words ask for, by the first of them; other words ask for none
abbrev pub mode_of : List (List ℕ) → Option Mode
mode_of [] = None
mode_of (v ∷ more) =
    if bytes_eq v (codes "solve") then option_map Solve (flags_of more)
    else if bytes_eq v (codes "cards") then mode_alone (Solve cards_alone) more
    else if bytes_eq v (codes "check") then mode_alone Check more
    else if bytes_eq v (codes "session") then mode_alone Session more
    else if bytes_eq v (codes "study") then mode_alone Study more
    else if bytes_eq v (codes "replan") then mode_alone Replan more
    else if bytes_eq v (codes "upgrade") then mode_alone Upgrade more
    else if bytes_eq v (codes "drill") then option_map Drill (storeys_of more)
    else None

-- a drill has no more storeys than can be built
abbrev pub IsBuildable : Mode → Type 0
IsBuildable (Drill number) = number ≤ STOREY_LIMIT
IsBuildable mode = ⊤
