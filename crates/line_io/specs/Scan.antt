-- What the reader measures of its pending bytes, and how it takes more.
use Rattle.std.specs.Prelude.{◌≡◌, ℕ, suc, if◌then◌else◌, List, [], ◌∷◌, ◌++◌}
use Rattle.std.specs.declared.option.Option.{Option}
use Rattle.std.specs.Io.KnownBytes.{Consumes}
use Rattle.line_io.specs.Line.{is_lf}
use Rattle.line_io.specs.View.{Reader}

-- how many bytes the first line has with its end
unfoldable pub first_size : List ℕ → ℕ
first_size [] = 0
first_size (b ∷ bs) = if is_lf b then 1 else suc (first_size bs)

-- bytes were taken from the source, and put after the pending ones
pub record Refills (before after : Reader) (left left' : Option (List ℕ)) : Type 0 where
  pub taken : List ℕ
  pub consumed : Consumes left left' taken
  pub behind : after.pending ≡ before.pending ++ taken
