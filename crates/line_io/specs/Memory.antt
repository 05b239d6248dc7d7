-- What a call of a source or a sink in memory answers, and what is then left and held.
use Rattle.std.specs.Prelude.{◌≡◌, ℕ, ◌+◌, ◌-◌, ◌^◌, ◌≤◌, Bool, true, false, ◌==◌, nat_le, ◌&&◌, ◌||◌, List, ◌++◌, length, take, drop, min, Result, Ok, Err}
use Rattle.std.specs.List.{list_any}
use Rattle.line_io.specs.Causes.{last_count}
use Rattle.line_io.specs.View.{Adapter, MemorySource, MemorySink}
use Rattle.line_io.specs.declared.outside.Failed.{Failed}

-- one more, up to a 64-bit counter's last value
abbrev pub counted : ℕ → ℕ
counted n = min (n + 1) last_count

-- whether the call of this number is one that fails: it is in the list, which holds 32-bit numbers
abbrev pub is_failing : List ℕ → ℕ → Bool
is_failing failing number = nat_le number (2 ^ 32 - 1) && list_any (λ n. n == number) failing

-- whether the next call fails: its number is listed
abbrev pub source_fails : MemorySource → Bool
source_fails s = is_failing s.failing (counted s.calls)

-- how many bytes the next call gives into so much room: all that the piece, the room and what is left allow
abbrev pub given_count : MemorySource → ℕ → ℕ
given_count s room = min (min s.piece room) (length s.left)

-- the source after a call that failed
abbrev pub source_failed : MemorySource → MemorySource
source_failed s = record s { calls = counted s.calls; faults = counted s.faults }

-- the source after a call that gave n bytes
abbrev pub source_gave : MemorySource → ℕ → MemorySource
source_gave s n = record s { left = drop n s.left; calls = counted s.calls }

-- what a call does, into so much room
abbrev pub SourceTakes : MemorySource → ℕ → Result ℕ Failed → MemorySource → Type 0
SourceTakes s room (Ok n) s' = (source_fails s ≡ false) × (n ≡ given_count s room) × (s' ≡ source_gave s n)
SourceTakes s room (Err fault) s' = (source_fails s ≡ true) × (s' ≡ source_failed s)

-- what a call of a source over std does: the call is counted, and so is each byte that it gives, or its fault
abbrev pub AdapterTakes : {T : Type 0} → Adapter T → ℕ → Result ℕ Failed → Adapter T → Type 0
AdapterTakes s room (Ok n) s' =
    (n ≤ room) × (s'.calls ≡ counted s.calls) × (s'.bytes ≡ min (s.bytes + n) last_count) × (s'.faults ≡ s.faults)
AdapterTakes s room (Err fault) s' = (s'.calls ≡ counted s.calls) × (s'.bytes ≡ s.bytes) × (s'.faults ≡ counted s.faults)

-- what a call of a sink over std does with these bytes: the call is counted, and so is each byte that it takes, or its fault
abbrev pub AdapterPuts : {T : Type 0} → Adapter T → List ℕ → Result ℕ Failed → Adapter T → Type 0
AdapterPuts s piece (Ok n) s' =
    (n ≤ length piece) × (s'.calls ≡ counted s.calls) × (s'.bytes ≡ min (s.bytes + n) last_count) × (s'.faults ≡ s.faults)
AdapterPuts s piece (Err fault) s' = (s'.calls ≡ counted s.calls) × (s'.bytes ≡ s.bytes) × (s'.faults ≡ counted s.faults)

-- whether the next call fails: its number is listed, or the room is used up
abbrev pub sink_fails : MemorySink → Bool
sink_fails s = is_failing s.failing (counted s.calls) || nat_le s.room (length s.held)

-- how many of so many bytes the next call takes: all that the piece and the room allow
abbrev pub taken_count : MemorySink → ℕ → ℕ
taken_count s count = min (min s.piece count) (s.room - length s.held)

-- the sink after a call that failed
abbrev pub sink_failed : MemorySink → MemorySink
sink_failed s = record s { calls = counted s.calls; faults = counted s.faults }

-- the sink after a call that took these bytes
abbrev pub sink_took : MemorySink → List ℕ → MemorySink
sink_took s bytes = record s { held = s.held ++ bytes; calls = counted s.calls }

-- what a call does, with these bytes
abbrev pub SinkPuts : MemorySink → List ℕ → Result ℕ Failed → MemorySink → Type 0
SinkPuts s piece (Ok n) s' = (sink_fails s ≡ false) × (n ≡ taken_count s (length piece)) × (s' ≡ sink_took s (take n piece))
SinkPuts s piece (Err fault) s' = (sink_fails s ≡ true) × (s' ≡ sink_failed s)
