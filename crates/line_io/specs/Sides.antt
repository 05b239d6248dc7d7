-- A source or a sink as the outside sees it, and when it counts a fault.
use Rattle.std.specs.Prelude.{◌≡◌, ℕ, List, Result}
use Rattle.std.specs.declared.option.Option.{Option}
use Rattle.std.specs.Io.KnownBytes.{Appends}
use Rattle.line_io.specs.Causes.{Count, HasCause, Rose}
use Rattle.line_io.specs.declared.outside.Sink.{Ghosts as SinkGhosts}
use Rattle.line_io.specs.declared.outside.Source.{Ghosts as SourceGhosts}

-- a source with the bytes that it has left, or a sink with those that it holds, where it tells them; and how often it failed
pub record Side : Type 0 where
  pub bytes : Option (List ℕ)
  pub faults : Count

abbrev pub source_side : {S : Type 0} → SourceGhosts S → S → Side
source_side g source = record { bytes = g.left source; faults = g.faults source }

abbrev pub sink_side : {K : Type 0} → SinkGhosts K → K → Side
sink_side g sink = record { bytes = g.held sink; faults = g.faults sink }

-- a count of faults rose if this holds, and is the same if it doesn't
pub record RoseIf (Failed : Type 0) (before now : Count) : Type 0 where
  pub rose : Failed → Rose before now
  pub same : (Failed → ⊥) → now ≡ before

-- a source counts a fault if this holds, and none if it doesn't
abbrev pub RisesWith : {S : Type 0} → SourceGhosts S → S → S → Type 0 → Type 0
RisesWith g before after Failed = RoseIf Failed (g.faults before) (g.faults after)

-- the same of a sink
abbrev pub SinkRisesWith : {K : Type 0} → SinkGhosts K → K → K → Type 0 → Type 0
SinkRisesWith g before after Failed = RoseIf Failed (g.faults before) (g.faults after)

-- `Ok` leaves a sink's count of faults as it was, and `Err` comes only where it rose
abbrev pub HasSinkCause : {K T E : Type 0} → SinkGhosts K → K → K → Result T E → Type 0
HasSinkCause g before after result = HasCause (g.faults before) (g.faults after) result

-- a sink holds a text more, where it tells its bytes
abbrev pub HoldsMore : {K : Type 0} → SinkGhosts K → K → List ℕ → K → Type 0
HoldsMore g before text after = Appends (g.held before) (g.held after) text
