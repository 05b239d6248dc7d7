-- The numbers with which the program ends.
use Rattle.std.specs.Prelude.{ℕ}
use Rattle.talk.specs.declared.status.Status.{Status}
use Rattle.talk.specs.declared.status.Status.TheVariants.{Done, Refused, WordsRefused, SourceFailed, SinkFailed, NoMemory, NoWords}

-- the number of a status
abbrev pub status_number : Status → ℕ
status_number Done = 0
status_number Refused = 1
status_number WordsRefused = 2
status_number SourceFailed = 3
status_number SinkFailed = 4
status_number NoMemory = 5
status_number NoWords = 6
