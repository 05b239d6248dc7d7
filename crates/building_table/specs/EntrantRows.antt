-- The entrants of a table by node and moment.
use Rattle.std.specs.Prelude.{ℕ}
use Rattle.evac_law.specs.declared.entrant.Entrant.{Entrant}
use Rattle.model_text.specs.Taken.{entrant_of}

-- the entrant of a node and a moment with their people
abbrev pub entrant_row : (ℕ × ℕ) × ℕ → Entrant
entrant_row e = entrant_of e.0.0 e.0.1 e.1
