-- Readers, writers, sources and sinks as contracts see them.
use Rattle.std.specs.Prelude.{◌≡◌, ℕ, ◌≤◌, Bool, List, length}
use Rattle.line_io.specs.Line.{input_limit}
use Rattle.line_io.specs.declared.limits.TheConstants.{BUFFER_SIZE, LINE_LIMIT}

-- a reader of lines
pub record Reader : Type 0 where
  -- the bytes taken from the source that aren't given as lines yet
  pub pending : List ℕ
  -- whether the source has ended
  pub ended : Bool
  -- how many bytes were given as lines, and how many lines
  pub given : ℕ
  pub number : ℕ
  -- the line found last
  pub text : List ℕ

-- the places in the buffer are in order, and the counts are within the limit
pub record IsReader (buffer line : List ℕ) (start end kept given number : ℕ) : Type 0 where
  pub room : length buffer ≡ BUFFER_SIZE
  pub line_room : length line ≡ LINE_LIMIT
  pub in_order : start ≤ end
  pub in_buffer : end ≤ BUFFER_SIZE
  pub in_line : kept ≤ LINE_LIMIT
  pub counted : number ≤ given
  pub limited : given ≤ input_limit

-- the pending bytes stand at the front of the buffer
pub record IsWriter (buffer : List ℕ) (count : ℕ) : Type 0 where
  pub room : length buffer ≡ BUFFER_SIZE
  pub in_buffer : count ≤ BUFFER_SIZE

-- a source in memory
pub record MemorySource : Type 0 where
  -- the bytes that are left, and the most that a call gives
  pub left : List ℕ
  pub piece : ℕ
  -- the numbers of the calls that fail, and how many calls there were
  pub failing : List ℕ
  pub calls : ℕ
  pub faults : ℕ

-- a sink in memory
pub record MemorySink : Type 0 where
  -- the bytes that it holds, how many it has room for, and the most that a call takes
  pub held : List ℕ
  pub room : ℕ
  pub piece : ℕ
  -- the numbers of the calls that fail, and how many calls there were
  pub failing : List ℕ
  pub calls : ℕ
  pub faults : ℕ

-- a reader or a writer of std, and how often it was called
pub record Called (T : Type 0) : Type 0 where
  pub inner : T
  pub calls : ℕ

-- the same as a source or a sink, with how often it failed, and how many bytes were read or written
pub record Adapter (T : Type 0) : Type 0 where
  pub inner : T
  pub calls : ℕ
  pub faults : ℕ
  pub bytes : ℕ
