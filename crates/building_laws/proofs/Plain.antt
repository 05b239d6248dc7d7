-- Buildings without windows have steady rates, and valid ones without entrants have room.
use Rattle.std.proofs.Common.{◌≡◌, ℕ, cond, eqb, List, [], ap, arith}
use Rattle.std.specs.List.{All}
use Rattle.evac_law.specs.declared.entrant.Entrant.{Entrant}
use Rattle.evac_law.specs.declared.model.Model.{Model}
use Rattle.evac_law.specs.Building.{IsValid, entry, start}
use Rattle.evac_law.specs.Entrants.{entering}
use Rattle.evac_law.specs.Sums.{moments_to}
use Rattle.evac_law.proofs.Entries.{once}
use Rattle.evac_law.proofs.SumLemmas.{sum_by-same}
use Rattle.evac_law.proofs.ValidLemmas.{node_is}
use Rattle.building_laws.specs.Rooms.{HasRoomForEntries, HasSteadyRates}

none_entering : (es : List Entrant) (n t : ℕ) → es ≡ [] → entering es n t ≡ 0
unfolding entering
none_entering es n t e = ap (λ l. entering l n t) e

pub start_alone : (m : Model) (n t : ℕ) → m.entrants ≡ [] → entry m n t ≡ cond (eqb t 0) (start m n) 0
start_alone m n t e = ap (λ w. cond (eqb t 0) (start m n) w) (none_entering m.entrants n t e)

pub nobody_later_has_room : (m : Model) → IsValid m → m.entrants ≡ [] → HasRoomForEntries m
nobody_later_has_room m valid e n l =
    omega (
      arith,
      sum_by-same (entry m n) (λ t. cond (eqb t 0) (start m n) 0) (moments_to m.horizon) (λ t. start_alone m n t e),
      once (start m n) m.horizon,
      (node_is m n valid l).start_fits,
    )

pub no_windows_are_steady : (m : Model) → All (λ a. a.windows.items ≡ []) m.arcs → HasSteadyRates m
no_windows_are_steady m h a t l _ = grind arith
