-- What hears lines one by one, and what it heard of a reader.
use Rattle.std.specs.Prelude.{◌≡◌, ℕ, ◌+◌, true, false, List, [], ◌∷◌, ◌++◌, length, Result, Ok, Err, ⊤}
use Rattle.std.specs.declared.option.Option.{Option}
use Rattle.evac_law.specs.declared.code.Code.TheVariants as codes
use Rattle.line_io.specs.Causes.{Count, Rose}
use Rattle.line_io.specs.Line.{Line}
use Rattle.line_io.specs.Passes.{IsLeft, Passes}
use Rattle.line_io.specs.Reader.{is_settled, lines_left, pending_lines}
use Rattle.line_io.specs.View.{Reader}
use Rattle.line_io.specs.declared.lines.LineFault.TheVariants.{ReadFault, LineTooLong, InputTooLong}
use Rattle.line_io.specs.declared.hearing.Heard.{Heard}
use Rattle.line_io.specs.declared.hearing.Heard.TheVariants.{More, Last}
use Rattle.line_io.specs.declared.hearing.Ending.{Ending}
use Rattle.line_io.specs.declared.hearing.Ending.TheVariants.{Finished, Failed, InputEnded, Fault}

-- what a state may answer to a line, by the line's number and text, with the state after it
abbrev pub Hearing : Type 0 → Type 0 → Type 1
Hearing S F = S → ℕ → List ℕ → Result Heard F → S → Type 0

-- some lines, after `before` others, led from a state to a state, and each time it went on
unfoldable pub HearsAll : {S F : Type 0} → Hearing S F → S → ℕ → List (List ℕ) → S → Type 0
HearsAll hears s before [] s' = s' ≡ s
HearsAll hears s before (text ∷ texts) s' = (mid : _) × hears s (before + 1) text (Ok More) mid × HearsAll hears mid (before + 1) texts s'

-- the end after them: `last` is the line that the state answered last, if there was one, and `rest` the lines after it
abbrev pub EndsBy : {S F : Type 0} → Hearing S F → Ending F → S → ℕ → List (List ℕ) → List Line → S → Type 0
EndsBy hears Finished s before last rest s' = (text : List ℕ) × (last ≡ text ∷ []) × hears s (before + 1) text (Ok Last) s'
EndsBy hears (Failed fault) s before last rest s' = (text : List ℕ) × (last ≡ text ∷ []) × hears s (before + 1) text (Err fault) s'
EndsBy hears InputEnded s before last rest s' = (last ≡ []) × (rest ≡ []) × (s' ≡ s)
EndsBy hears (Fault LineTooLong) s before last rest s' = (last ≡ []) × (rest ≡ Err codes.LineTooLong ∷ []) × (s' ≡ s)
EndsBy hears (Fault InputTooLong) s before last rest s' = (last ≡ []) × (rest ≡ Err codes.InputTooLong ∷ []) × (s' ≡ s)
EndsBy hears (Fault ReadFault) s before last rest s' = (last ≡ []) × (s' ≡ s)

-- where the reader stands then
abbrev pub Rests : {F : Type 0} → Ending F → Reader → Type 0
Rests InputEnded r = (r.ended ≡ true) × (r.pending ≡ [])
Rests (Fault LineTooLong) r = pending_lines r ≡ Err codes.LineTooLong ∷ []
Rests (Fault InputTooLong) r = pending_lines r ≡ Err codes.InputTooLong ∷ []
Rests (Fault ReadFault) r = is_settled r ≡ false
Rests _ r = ⊤

-- only a source that fails counts a fault
abbrev pub IsCaused : {F : Type 0} → Ending F → Count → Count → Type 0
IsCaused (Fault ReadFault) before now = Rose before now
IsCaused _ before now = now ≡ before

-- a state listened to a reader
pub record Listens {S F : Type 0} (hears : Hearing S F) (result : Ending F) (from to : S) (before after : Reader) (left left' : Option (List ℕ)) : Type 0 where
  -- the lines from which it went on, the line that it answered last, and what is left after them
  pub texts : List (List ℕ)
  pub last : List (List ℕ)
  pub rest : List Line
  pub at : S
  pub goes : HearsAll hears from before.number texts at
  pub ends : EndsBy hears result at (before.number + length texts) last rest to
  -- the reader went on by just these lines
  pub passes : Passes before after left left' (texts ++ last)
  pub is_left : IsLeft (lines_left before left) (lines_left after left') rest
  pub rests : Rests result after
