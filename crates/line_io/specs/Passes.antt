-- How a reader goes on by some lines.
use Rattle.std.specs.Prelude.{◌≡◌, ℕ, ◌+◌, true, List, [], ◌++◌, length, Some, None, ⊤, ◌⊎◌}
use Rattle.std.specs.declared.option.Option.{Option}
use Rattle.std.specs.Io.KnownBytes.{Consumes}
use Rattle.line_io.specs.Line.{Line, IsWhole, lines_after, pieces, text_lines}
use Rattle.line_io.specs.Reader.{HasRoom, lines_left}
use Rattle.line_io.specs.View.{Reader}

-- the lines left before are these texts and the lines left now, where the source tells its bytes
abbrev pub Follows : List (List ℕ) → Option (List Line) → Option (List Line) → Type 0
Follows texts None after = ⊤
Follows texts (Some before) None = ⊥
Follows texts (Some before) (Some after) = before ≡ text_lines texts ++ after

-- these lines are left after a call, where the source told its bytes before it
abbrev pub IsLeft : Option (List Line) → Option (List Line) → List Line → Type 0
IsLeft None after rest = ⊤
IsLeft (Some before) None rest = ⊤
IsLeft (Some before) (Some after) rest = after ≡ rest

-- a reader went on by lines that say these texts
pub record Passes (before after : Reader) (left left' : Option (List ℕ)) (texts : List (List ℕ)) : Type 0 where
  -- the bytes taken from the source, and the bytes of the lines
  pub taken : List ℕ
  pub gone : List ℕ
  pub consumed : Consumes left left' taken
  pub tied : before.pending ++ taken ≡ gone ++ after.pending
  pub counted : after.given ≡ before.given + length gone
  pub said : lines_after before.given (pieces gone) ≡ text_lines texts
  pub number : after.number ≡ before.number + length texts
  -- the last of them ends in LF, but maybe where the source has ended and nothing is pending
  pub whole : IsWhole gone ⊎ ((after.ended ≡ true) × (after.pending ≡ []))
  -- where the source had ended and nothing was pending, there is no further line
  pub closed : before.ended ≡ true → before.pending ≡ [] → (gone ≡ []) × (texts ≡ []) × (after.ended ≡ true) × (after.pending ≡ [])
  pub follows : Follows texts (lines_left before left) (lines_left after left')
  pub room : HasRoom before → HasRoom after
