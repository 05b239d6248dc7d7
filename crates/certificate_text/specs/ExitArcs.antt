-- The arcs into exits.
use Rattle.std.specs.Prelude.{ℕ, Bool, List}
use Rattle.std.specs.List.{filter}
use Rattle.evac_law.specs.declared.model.Model.{Model}
use Rattle.evac_law.specs.Building.{head, is_exit_at}
use Rattle.evac_law.specs.Sums.{places}

-- whether an arc leads into an exit
abbrev pub leads_out : Model → ℕ → Bool
leads_out m a = is_exit_at m (head m a)

-- the arcs into exits, in their order
abbrev pub arcs_out : Model → List ℕ
arcs_out m = filter (leads_out m) (places m.arcs)
