-- The steps that lead into a node at a moment.
use Rattle.std.specs.Prelude.{ℕ, ◌-◌, ◌<◌, ◌≤◌, false, if◌then◌else◌, ◌==◌, nat_le, length, Option, Some, None}
use Rattle.time_expansion.specs.Expansion.{arcs_from, arcs_to}
use Rattle.residual_net.specs.declared.place.Place.TheVariants.{Arc, Hold}
use Rattle.residual_net.specs.declared.place.PathStep.{PathStep}
use Rattle.residual_net.specs.declared.end.End.{End}
use Rattle.residual_net.specs.declared.end.End.TheVariants.{Door, Pair}
use Rattle.residual_net.specs.Site.{Site, arc_count, arrival_at, exit_at}

-- an arc and a moment are the network's
pub record IsArcAt (s : Site) (a t : ℕ) : Type 0 where
  pub arc : a < arc_count s
  pub moment : t ≤ s.shape.horizon

-- where those are who come to a node at a moment: there, or out where it is an exit
abbrev pub end_at : Site → ℕ → ℕ → End
end_at s n t = if exit_at s n then Door t else Pair n t

-- how many arcs enter a node, and how many leave it
abbrev pub in_count : Site → ℕ → ℕ
in_count s n = length (arcs_to s.shape n)

abbrev pub out_count : Site → ℕ → ℕ
out_count s n = length (arcs_from s.shape n)

-- an arc forwards, for whoever arrives at a moment
abbrev pub way_in : Site → ℕ → ℕ → Option PathStep
way_in s a t =
    if nat_le (arrival_at s a 0) t then Some (record { place = Arc a (t - arrival_at s a 0); back = false }) else None

-- the wait before a moment
abbrev pub way_before : ℕ → ℕ → Option PathStep
way_before n t = if t == 0 then None else Some (record { place = Hold n (t - 1); back = false })
