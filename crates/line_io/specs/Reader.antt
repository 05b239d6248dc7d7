-- What a reader of lines has before it, and what it answers.
use Rattle.std.specs.Prelude.{◌≡◌, ℕ, ◌+◌, ◌<◌, ◌≤◌, Bool, true, ◌||◌, nat_le, if◌then◌else◌, List, [], ◌∷◌, ◌++◌, length, Result, Ok, Err, None, Some, ⊤, ◌⊎◌}
use Rattle.std.specs.List.{list_any}
use Rattle.std.specs.Option.{option_map}
use Rattle.std.specs.declared.option.Option.{Option}
use Rattle.std.specs.Io.KnownBytes.{prepend_known, Consumes, IsAtEnd}
use Rattle.evac_law.specs.declared.code.Code.{Code}
use Rattle.evac_law.specs.declared.code.Code.TheVariants as codes
use Rattle.line_io.specs.Line.{Line, lines_after, pieces, content, line_of, input_limit, line_limit, is_lf, IsPiece, IsWhole}
use Rattle.line_io.specs.declared.limits.TheConstants.{BUFFER_SIZE}
use Rattle.line_io.specs.declared.lines.Found.{Found}
use Rattle.line_io.specs.declared.lines.Found.TheVariants.{Text, End}
use Rattle.line_io.specs.declared.lines.LineFault.{LineFault}
use Rattle.line_io.specs.declared.lines.LineFault.TheVariants.{ReadFault, LineTooLong, InputTooLong}
use Rattle.line_io.specs.View.{Reader}

-- whether the next line is settled without asking the source: by the end, by more bytes than a line may have, or by its LF
abbrev pub settles : Bool → List ℕ → Bool
settles ended pending = ended || (nat_le (line_limit + 2) (length pending) || list_any is_lf pending)

-- the same of a reader
abbrev pub is_settled : Reader → Bool
is_settled r = settles r.ended r.pending

-- the bytes that aren't given as lines yet, where the source tells its own; a source that has ended is asked no more
abbrev pub ahead : Reader → Option (List ℕ) → Option (List ℕ)
ahead r left = if r.ended then Some r.pending else prepend_known r.pending left

-- a source that has ended has nothing left
abbrev pub Drained : Reader → Option (List ℕ) → Type 0
Drained r left = r.ended ≡ true → IsAtEnd left

-- the lines that aren't given yet
abbrev pub lines_left : Reader → Option (List ℕ) → Option (List Line)
lines_left r left = option_map (λ bytes. lines_after r.given (pieces bytes)) (ahead r left)

-- no more is pending than a buffer has room for, and no more was given than an input may have
pub record HasRoom (r : Reader) : Type 0 where
  pub pending : length r.pending ≤ BUFFER_SIZE
  pub given : r.given ≤ input_limit

-- an answer, by the lines left before it and after it
abbrev pub Gives : Result Found LineFault → List ℕ → List Line → List Line → Type 0
Gives (Ok Text) text before after = before ≡ Ok text ∷ after
Gives (Ok End) text before after = (before ≡ []) × (after ≡ before)
Gives (Err ReadFault) text before after = after ≡ before
Gives (Err LineTooLong) text before after = (before ≡ Err codes.LineTooLong ∷ []) × (after ≡ before)
Gives (Err InputTooLong) text before after = (before ≡ Err codes.InputTooLong ∷ []) × (after ≡ before)

-- the same, where the source tells its bytes
abbrev pub Answers : Result Found LineFault → List ℕ → Option (List Line) → Option (List Line) → Type 0
Answers result text None after = ⊤
Answers result text (Some before) None = ⊥
Answers result text (Some before) (Some after) = Gives result text before after

-- the line given last: `gone` is its bytes with its end
pub record IsGiven (after : Reader) (gone : List ℕ) : Type 0 where
  -- one line of at least one byte, with no LF but maybe its last byte
  pub single : IsPiece gone
  pub some : 0 < length gone
  -- it ends in LF, but maybe where the source has ended and nothing is pending after it
  pub finished : IsWhole gone ⊎ ((after.ended ≡ true) × (after.pending ≡ []))
  pub text : after.text ≡ content gone
  -- as a line of the input it has no fault
  pub right : line_of after.given gone ≡ Ok after.text

-- only a found line goes away
abbrev pub Gone : Result Found LineFault → Reader → List ℕ → Type 0
Gone (Ok Text) after gone = IsGiven after gone
Gone (Ok End) after gone = gone ≡ []
Gone (Err fault) after gone = gone ≡ []

-- the bytes of a call: those pending and those taken are those that went away as a line and those pending then
pub record GivesAway (result : Result Found LineFault) (before after : Reader) (left left' : Option (List ℕ)) : Type 0 where
  pub taken : List ℕ
  pub gone : List ℕ
  pub consumed : Consumes left left' taken
  pub tied : before.pending ++ taken ≡ gone ++ after.pending
  pub counted : after.given ≡ before.given + length gone
  pub line : Gone result after gone

-- the fault of a code
abbrev pub fault_of : Code → LineFault
fault_of codes.LineTooLong = LineTooLong
fault_of code = InputTooLong

-- the answer at the first of these lines
abbrev pub answer_at : List Line → Result Found LineFault
answer_at [] = Ok End
answer_at (Ok text ∷ lines) = Ok Text
answer_at (Err code ∷ lines) = Err (fault_of code)

-- the lines of the pending bytes
abbrev pub pending_lines : Reader → List Line
pending_lines r = lines_after r.given (pieces r.pending)

-- the lines of the pending bytes with those that were taken after them
abbrev pub taken_lines : Reader → List ℕ → List Line
taken_lines r taken = lines_after r.given (pieces (r.pending ++ taken))

-- what a settled reader answers: its first pending line
abbrev pub settled_answer : Reader → Result Found LineFault
settled_answer r = answer_at (pending_lines r)

-- the reader stays there: each later call answers the same, and asks the source no more
pub record StaysAt (result : Result Found LineFault) (after : Reader) : Type 0 where
  pub settled : is_settled after ≡ true
  pub same : settled_answer after ≡ result

-- an answer other than a line or a read fault is the last
abbrev pub IsLast : Result Found LineFault → Reader → Type 0
IsLast (Ok Text) after = ⊤
IsLast (Ok End) after = StaysAt (Ok End) after
IsLast (Err ReadFault) after = ⊤
IsLast (Err LineTooLong) after = StaysAt (Err LineTooLong) after
IsLast (Err InputTooLong) after = StaysAt (Err InputTooLong) after
