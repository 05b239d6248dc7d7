-- Talks in parts.
use Rattle.std.specs.Prelude.{◌≡◌, ℕ, ◌+◌, List, length}
use Rattle.talk.specs.Talks.{RepliesTo, Reply, Talk, TalkGoes, followed}

-- a talk over lines is one over the first of them, with the replies to the others after it
pub record IsParted {S : Type 0} (talk : Talk S) (before : ℕ) (xs ys : List (List ℕ)) (r : Reply S) : Type 0 where
  pub first : Reply S
  pub more : Reply S
  pub goes : TalkGoes talk before xs first
  pub replies : RepliesTo talk.Gets (before + length xs) first.after ys more
  pub all : r ≡ followed first more
