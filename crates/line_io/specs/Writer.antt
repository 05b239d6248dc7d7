-- What a buffered writer has written: the bytes that the sink holds, then the pending ones.
use Rattle.std.specs.Prelude.{◌≡◌, ℕ, true, false, List, ◌++◌, Result, OnOk, OnErr}
use Rattle.std.specs.declared.option.Option.{Option}
use Rattle.std.specs.Io.KnownBytes.{Appends}
use Rattle.line_io.specs.Causes.{Rose}
use Rattle.line_io.specs.declared.outside.Sink.{Ghosts}
use Rattle.line_io.specs.declared.writer.Writer.{Writer}

-- the text was put after the pending bytes: some bytes went over to the sink, in order, and the rest is pending
pub record Puts (held : Option (List ℕ)) (pending text : List ℕ) (held' : Option (List ℕ)) (pending' : List ℕ) : Type 0 where
  pub sent : List ℕ
  pub order : pending ++ text ≡ sent ++ pending'
  pub over : Appends held held' sent

-- some front of the text was put
pub record PutsFront (held : Option (List ℕ)) (pending text : List ℕ) (held' : Option (List ℕ)) (pending' : List ℕ) : Type 0 where
  pub front : List ℕ
  pub rest : List ℕ
  pub parts : text ≡ front ++ rest
  pub put : Puts held pending front held' pending'

-- `Ok` put the text, `Err` a front of it
pub record PutsText {T E : Type 0} (held : Option (List ℕ)) (pending text : List ℕ) (held' : Option (List ℕ)) (pending' : List ℕ) (result : Result T E) : Type 0 where
  pub ok : OnOk result (Puts held pending text held' pending')
  pub err : OnErr result (PutsFront held pending text held' pending')

-- the same of a sink with the bytes that are pending before it
abbrev pub PutsTo : {K : Type 0} → Ghosts K → K → List ℕ → List ℕ → K → List ℕ → Type 0
PutsTo g sink pending text sink' pending' = Puts (g.held sink) pending text (g.held sink') pending'

abbrev pub PutsTextTo : {K T E : Type 0} → Ghosts K → K → List ℕ → List ℕ → K → List ℕ → Result T E → Type 0
PutsTextTo g sink pending text sink' pending' result = PutsText (g.held sink) pending text (g.held sink') pending' result

-- a writer wrote a text: all of it, or a front of it where its sink failed. Once its sink has failed it stays as it is
pub record Writes {K : Type 0} (g : Ghosts K) (before : Writer K) (text : List ℕ) (after : Writer K) : Type 0 where
  pub whole : before.failed ≡ false → after.failed ≡ false → PutsTo g before.sink.now before.out.now text after.sink.now after.out.now
  pub front : before.failed ≡ false → after.failed ≡ true → PutsFront (g.held before.sink.now) before.out.now text (g.held after.sink.now) after.out.now
  pub same : after.failed ≡ false → g.faults after.sink.now ≡ g.faults before.sink.now
  pub rose : before.failed ≡ false → after.failed ≡ true → Rose (g.faults before.sink.now) (g.faults after.sink.now)
  pub stays : before.failed ≡ true → after ≡ before
  pub same_out : after.out.ghost_name ≡ before.out.ghost_name
  pub same_sink : after.sink.ghost_name ≡ before.sink.ghost_name
