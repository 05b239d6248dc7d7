-- What a run meets outside, and what it did.
use Rattle.std.specs.Prelude.{◌≡◌, ℕ, List, ◌++◌, Some, None, ⊤}
use Rattle.std.specs.declared.option.Option.{Option}
use Rattle.evac_law.specs.declared.code.Code.{Code}
use Rattle.line_io.specs.Sides.{Side, sink_side, source_side}
use Rattle.line_io.specs.declared.outside.Sink.{Ghosts as SinkGhosts}
use Rattle.line_io.specs.declared.outside.Source.{Ghosts as SourceGhosts}
use Rattle.certificate_text.specs.BlockText.{refusal_line}

-- what holds of the bytes of a side, where it tells them
abbrev pub Told : Option (List ℕ) → (List ℕ → Type 0) → Type 0
Told None Holds = ⊤
Told (Some bytes) Holds = Holds bytes

-- what a run meets: a source, a sink, and a counter of steps
pub record Outside : Type 0 where
  pub source : Side
  pub sink : Side
  pub steps : ℕ

-- what it meets at a source and a sink
abbrev pub met_at : {S K : Type 0} → SourceGhosts S → SinkGhosts K → S → K → ℕ → Outside
met_at s k source sink steps = record { source = source_side s source; sink = sink_side k sink; steps = steps }

-- the same of a run that reads nothing, beside any source
abbrev pub met_beside : {K : Type 0} → SinkGhosts K → Side → K → ℕ → Outside
met_beside k source sink steps = record { source = source; sink = sink_side k sink; steps = steps }

-- what a run did: its status, the bytes that it took, the text that it wrote, and the steps that it counted
pub record Account : Type 0 where
  pub status : ℕ
  pub taken : List ℕ
  pub written : List ℕ
  pub steps : ℕ

-- the run is over with a status, after this text and so many steps
pub record Ends (x : Account) (status : ℕ) (text : List ℕ) (steps : ℕ) : Type 0 where
  pub over : x.status ≡ status
  pub text_whole : x.written ≡ text
  pub counted : x.steps ≡ steps

-- the run is over with the line of a fault, a code with a line
abbrev pub IsRefusal : Code × ℕ → Account → Type 0
IsRefusal fault x = Ends x 1 (refusal_line fault.0 fault.1) 0

-- what was written is the front of a text that an account of this kind has
abbrev pub IsFront : (Account → Type 0) → Account → Type 0
IsFront Holds x = (status : ℕ) × (rest : List ℕ) × Holds (record x { status = status; written = x.written ++ rest })
