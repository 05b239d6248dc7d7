-- What a source is asked and a sink is offered, call by call.
use Rattle.std.specs.Prelude.{◌≡◌, ℕ, ◌+◌, ◌≤◌, Bool, false, ◌==◌, List, [], ◌∷◌, length, drop, Result, Ok, Err}
use Rattle.line_io.specs.View.{Reader}
use Rattle.line_io.specs.declared.limits.TheConstants.{LEAST_OFFER}
use Rattle.line_io.specs.declared.outside.Failed.{Failed}

-- what one call of a source may do, by the room that it is offered and its answer
abbrev pub Taking : Type 0 → Type 1
Taking S = S → ℕ → Result ℕ Failed → S → Type 0

-- a call of a source
pub record Take : Type 0 where
  pub room : ℕ
  pub answer : Result ℕ Failed

-- whether an answer is that of a source that has ended
abbrev pub gave_none : Result ℕ Failed → Bool
gave_none (Ok n) = n == 0
gave_none (Err fault) = false

-- how many bytes an answer gave
abbrev pub given_by : Result ℕ Failed → ℕ
given_by (Ok n) = n
given_by (Err fault) = 0

-- how many bytes some calls gave
unfoldable pub bytes_given : List Take → ℕ
bytes_given [] = 0
bytes_given (call ∷ calls) = given_by call.answer + bytes_given calls

-- calls led from a state of a source to another, each offered enough room and none after one that gave no byte; `ended` says whether one had
unfoldable pub TakesAll : {S : Type 0} → Taking S → Bool → S → List Take → Bool → S → Type 0
TakesAll takes ended s [] ended' s' = (ended' ≡ ended) × (s' ≡ s)
TakesAll takes ended s (call ∷ calls) ended' s' =
    (ended ≡ false) × (LEAST_OFFER ≤ call.room) × ((mid : _) × takes s call.room call.answer mid × TakesAll takes (gave_none call.answer) mid calls ended' s')

-- a source was asked by some such calls
pub record Asks {S : Type 0} (takes : Taking S) (before : Reader) (s : S) (after : Reader) (s' : S) : Type 0 where
  pub calls : List Take
  pub all : TakesAll takes before.ended s calls after.ended s'
  -- each byte that they gave was given on as part of a line, or is pending
  pub counted : before.given + length before.pending + bytes_given calls ≡ after.given + length after.pending

-- a source that hadn't ended was asked by some such calls, and they gave so many bytes at most
pub record AsksAtMost {S : Type 0} (takes : Taking S) (limit : ℕ) (s s' : S) : Type 0 where
  pub calls : List Take
  pub ended : Bool
  pub all : TakesAll takes false s calls ended s'
  pub few : bytes_given calls ≤ limit

-- what one call of a sink may do, by the bytes that it is offered and its answer
abbrev pub Putting : Type 0 → Type 1
Putting S = S → List ℕ → Result ℕ Failed → S → Type 0

-- the bytes that are still to be put
abbrev pub behind_put : List ℕ → Result ℕ Failed → List ℕ
behind_put bytes (Ok n) = drop n bytes
behind_put bytes (Err fault) = bytes

-- calls led from a state of a sink to another, each offered all the bytes that were still to be put
unfoldable pub PutsAll : {S : Type 0} → Putting S → List ℕ → S → List (Result ℕ Failed) → List ℕ → S → Type 0
PutsAll puts bytes s [] rest s' = (rest ≡ bytes) × (s' ≡ s)
PutsAll puts bytes s (answer ∷ answers) rest s' = (mid : _) × puts s bytes answer mid × PutsAll puts (behind_put bytes answer) mid answers rest s'

-- a sink was offered bytes by some such calls
pub record Offers {S : Type 0} (puts : Putting S) (bytes : List ℕ) (s : S) (rest : List ℕ) (s' : S) : Type 0 where
  pub answers : List (Result ℕ Failed)
  pub all : PutsAll puts bytes s answers rest s'
