-- What the arcs of a plan bring.
use Rattle.std.specs.Prelude.{ℕ, ◌-◌, ◌&&◌, if◌then◌else◌, nat_le, nat_lt, List}
use Rattle.evac_law.specs.declared.model.Model.{Model}
use Rattle.evac_law.specs.declared.plan.Move.{Move}
use Rattle.evac_law.specs.Building.{arc_at, is_exit_at}
use Rattle.evac_law.specs.Plans.{coming, moved}

-- the people who enter an arc before s and arrive at a moment
abbrev pub arriving_by : Model → List Move → ℕ → ℕ → ℕ → ℕ
arriving_by m p s t a =
    if nat_le (arc_at m a).travel t && nat_lt (t - (arc_at m a).travel) s then moved p a (t - (arc_at m a).travel) else 0

-- the people who come to a node at a moment along arcs, where it is an exit
abbrev pub coming_out : Model → List Move → ℕ → ℕ → ℕ
coming_out m p t n = if is_exit_at m n then coming m p n t else 0
