-- What a run tells once it has read, and the run then.
use Rattle.std.proofs.Common.{◌≡◌, ℕ, ◌+◌, ◌≤◌, Bool, true, false, List, [], ◌++◌, length, Result, Ok, Err, Some, None, refl, sym, ap, subst, ◌∙◌, arith, append-nil}
use Rattle.std.specs.declared.option.Option.{Option}
use Rattle.std.specs.Io.KnownBytes.{Appends, Consumes, IsAtEnd}
use Rattle.std.proofs.KnownBytes.{Appends-nil, Consumes-nil}
use Rattle.evac_law.specs.declared.code.Code.{Code}
use Rattle.line_io.specs.Line.{Line, input_limit, lines_of, whole_part}
use Rattle.line_io.specs.Sides.{RoseIf, Side}
use Rattle.line_io.specs.declared.limits.TheConstants.{BUFFER_SIZE}
use Rattle.line_io.specs.declared.out.WriteFault.{WriteFault}
use Rattle.building_table.specs.declared.faults.ModelFault.{ModelFault}
use Rattle.building_table.specs.declared.faults.ModelFault.TheVariants.{Named, ReadFault, Memory}
use Rattle.certificate_text.specs.BlockText.{refusal_line}
use Rattle.evac_top.specs.Accounts.{Account, Ends, IsFront, IsRefusal, Outside, Told}
use Rattle.evac_top.specs.Answers.{WritesNothing, runs_of, words_text}
use Rattle.evac_top.specs.Drill.{IsDrilled}
use Rattle.evac_top.specs.Inputs.{IsOpenClaim, IsOpenInput}
use Rattle.evac_top.specs.Reads.{Takes}
use Rattle.evac_top.specs.Runs.{OfInput, Runs}
use Rattle.talk.specs.Held.{SendsBy, status_after}
use Rattle.talk.proofs.Holding.{front_over, went_over}
use Rattle.evac_top.specs.Tells.{Stops, Tells}
use Rattle.evac_top.specs.declared.words.Flags.{Flags}
use Rattle.evac_top.specs.declared.words.Mode.{Mode}
use Rattle.evac_top.specs.declared.words.Mode.TheVariants.{Solve, Check, Upgrade, Drill}
use Rattle.evac_top.proofs.TakeLemmas.{Failed, not-failed, rises-at}

-- ---- telling

-- a text was sent from an empty buffer, or a front of it
sent-told : {T : Type 0} (Holds : Account → Type 0) (status steps : ℕ) (text : List ℕ) (r : Result T WriteFault) (before after : Side) (p q : List ℕ) → status ≤ 2 → p ≡ []
    → SendsBy r text before.bytes p before.faults after.bytes q after.faults
    → ((taken : List ℕ) → Holds (record { status = status; taken = taken; written = text; steps = steps })) → Tells Holds (status_after r status) steps before after
sent-told Holds status steps text (Ok done) before after p q few none sent holds = record {
  known = (omega (arith, few), λ e. omega (arith, few, e));
  written = text;
  over = went_over before.bytes after.bytes p q text sent.put.ok none sent.flushed;
  same = λ e. sent.cause.same;
  rose = λ e. absurd (omega (arith, few, e));
  whole = λ l taken. holds taken;
  front = λ e. absurd (omega (arith, few, e));
  nothing = λ e. absurd (omega (arith, few, e));
}
sent-told Holds status steps text (Err fault) before after p q few none sent holds =
    let h = front_over before.bytes after.bytes p q text sent.put.err none in record {
      known = (omega arith, λ e. omega (arith, e));
      written = h.front;
      over = h.over;
      same = λ e. absurd (e refl);
      rose = λ e. sent.cause.failed;
      whole = λ l. absurd (omega (arith, l));
      front = λ e taken. (
        status,
        h.rest,
        subst (λ (t : List ℕ). Holds (record { status = status; taken = taken; written = t; steps = steps })) h.parts (holds taken),
      );
      nothing = λ e. absurd (omega (arith, e));
    }

pub tells-sent : {T : Type 0} (Holds : Account → Type 0) (status steps : ℕ) (text : List ℕ) (r : Result T WriteFault) (before after : Side) {p q : List ℕ} (ended : ℕ)
    → ended ≡ status_after r status → status ≤ 2 → p ≡ [] → SendsBy r text before.bytes p before.faults after.bytes q after.faults
    → ((taken : List ℕ) → Holds (record { status = status; taken = taken; written = text; steps = steps })) → Tells Holds ended steps before after
tells-sent Holds status steps text r before after {p} {q} ended is few none sent holds =
    subst (λ (s : ℕ). Tells Holds s steps before after) (sym is) (sent-told Holds status steps text r before after p q few none sent holds)

-- the line of a fault was sent, or a front of it
pub stops-named : {T : Type 0} (fault : ModelFault) (code : Code) (line : ℕ) (r : Result T WriteFault) (before after : Side) {p q : List ℕ} (ended : ℕ)
    → fault ≡ Named code line → ended ≡ status_after r 1 → p ≡ []
    → SendsBy r (refusal_line code line) before.bytes p before.faults after.bytes q after.faults → Stops fault ended before after
stops-named fault code line r before after ended named is none sent =
    subst (λ (f : ModelFault). Stops f ended before after) (sym named)
    (tells-sent (IsRefusal (code, line)) 1 0 (refusal_line code line) r before after ended is (omega arith) none sent
    (λ taken. record { over = refl; text_whole = refl; counted = refl }))

-- there was no memory
pub tells-nothing : (Holds : Account → Type 0) (steps : ℕ) (at : Side) → Tells Holds 5 steps at at
tells-nothing Holds steps at = record {
  known = (omega arith, λ e. omega (arith, e));
  written = [];
  over = Appends-nil at.bytes;
  same = λ e. refl;
  rose = λ e. absurd (omega (arith, e));
  whole = λ l. absurd (omega (arith, l));
  front = λ e. absurd (omega (arith, e));
  nothing = λ e. refl;
}

-- ---- a run that has read

pub told-map : (left : Option (List ℕ)) (P Q : List ℕ → Type 0) → ((input : List ℕ) → P input → Q input) → Told left P → Told left Q
told-map None P Q f t = tt
told-map (Some bytes) P Q f t = f bytes t

pub of-input : (b : Bool) (left : Option (List ℕ)) (P Q : List ℕ → Type 0) → ((input : List ℕ) → P input → Q input) → OfInput b left P → OfInput b left Q
of-input false left P Q f t = f [] t
of-input true left P Q f t = told-map left P Q f t

pub runs-told : (mode : Option Mode) (Holds : Account → Type 0) (status steps : ℕ) (before after : Outside) (taken : List ℕ)
    → Consumes before.source.bytes after.source.bytes taken → length taken ≤ input_limit + BUFFER_SIZE → after.source.faults ≡ before.source.faults
    → after.steps ≡ before.steps + steps → Tells Holds status steps before.sink after.sink
    → ((x : Account) → Holds x → x.status ≡ 2 → mode ≡ None)
    → OfInput (runs_of mode).reads before.source.bytes (λ input. (x : Account) → x.taken ≡ taken → Holds x → (runs_of mode).Answers input x)
    → ((input : List ℕ) (x : Account) → IsFront ((runs_of mode).Answers input) x → (runs_of mode).AnswersFront input x)
    → ((x : Account) → x.taken ≡ taken → x.written ≡ [] → (runs_of mode).AnswersMemory x) → Runs mode status before after
runs-told mode Holds status steps before after taken consumed few same counted tells words holds front memory =
    let x : Account = record { status = status; taken = taken; written = tells.written; steps = steps } in
    record {
      words = λ e. words x (tells.whole (omega (arith, e)) taken) e;
      causes = record {
        known = tells.known.0;
        reads_same = λ e. same;
        reads_rose = λ e. absurd (tells.known.1 e);
        writes_same = tells.same;
        writes_rose = tells.rose;
      };
      did = x;
      account = record { answered = refl; taken = consumed; few_taken = few; written = tells.over; counted = counted };
      answered = λ l. of-input (runs_of mode).reads before.source.bytes _ _ (λ input h. h x refl (tells.whole l taken)) holds;
      source = λ e. absurd (tells.known.1 e);
      sink = λ e. of-input (runs_of mode).reads before.source.bytes _ _ (λ input h.
          let f = tells.front e taken in
          front input x (f.0, f.1, h (record x { status = f.0; written = x.written ++ f.1 }) refl f.2)) holds;
      memory = λ e. memory x refl (tells.nothing e);
    }

-- ---- a mode that reads all before it writes

pub record ReadsFirst (mode : Mode) (IsOpen : List Line → Type 0) : Type 0 where
  pub input : (runs_of (Some mode)).reads ≡ true
  pub front : (input : List ℕ) (x : Account) → IsFront ((runs_of (Some mode)).Answers input) x → (runs_of (Some mode)).AnswersFront input x
  pub so_far : (lines : List Line) (x : Account) → IsOpen lines → WritesNothing x → (runs_of (Some mode)).AnswersSoFar lines x
  pub memory : (x : Account) → x.written ≡ [] → (runs_of (Some mode)).AnswersMemory x

-- who reads is told of the bytes left
pub told-input : {b : Bool} → b ≡ true → (left : Option (List ℕ)) (P : List ℕ → Type 0) → Told left P → OfInput b left P
told-input e left P t = subst (λ (b : Bool). OfInput b left P) (sym e) t

-- there was no memory to read with
pub no-memory : {IsOpen : List Line → Type 0} (mode : Mode) → ReadsFirst mode IsOpen → (at : Outside) → Runs (Some mode) 5 at at
no-memory mode m at = runs-told (Some mode) (λ x. ⊥) 5 0 at at [] (Consumes-nil at.source.bytes) (omega arith) refl (omega arith)
    (tells-nothing (λ x. ⊥) 0 at.sink) (λ x h. absurd h) (told-input m.input at.source.bytes _ (nothing at.source.bytes)) m.front (λ x e w. m.memory x w)
  where
    nothing : (left : Option (List ℕ)) → Told left (λ input. (x : Account) → x.taken ≡ [] → ⊥ → (runs_of (Some mode)).Answers input x)
    nothing None = tt
    nothing (Some bytes) = λ x e h. absurd h

-- what was taken of an input that was read is all of it
all-taken : (left left' : Option (List ℕ)) (taken : List ℕ) (P : List ℕ → Account → Type 0) → Consumes left left' taken → IsAtEnd left'
    → Told left (λ input. (x : Account) → x.taken ≡ input → P input x) → Told left (λ input. (x : Account) → x.taken ≡ taken → P input x)
all-taken None left' taken P consumed end told = tt
all-taken (Some xs) None taken P consumed end told = absurd consumed
all-taken (Some xs) (Some ys) taken P consumed end told =
    λ x e. told x (e ∙ sym (append-nil taken) ∙ ap (λ l. taken ++ l) (sym end) ∙ sym consumed)

-- an input was read as a value
pub read-told : {T : Type 0} {IsOpen : List Line → Type 0} (mode : Mode) → ReadsFirst mode IsOpen → (Is : Result T ModelFault → List ℕ → Type 0)
    (Holds : Account → Type 0) (value : T) → ((x : Account) → Holds x → x.status ≤ 1)
    → ((bytes : List ℕ) → Is (Ok value) bytes → (x : Account) → x.taken ≡ bytes → Holds x → (runs_of (Some mode)).Answers bytes x)
    → (status steps old new : ℕ) (source source' sink sink' : Side) → Takes {T = T} IsOpen (Ok value) source.bytes source'.bytes
    → RoseIf (Failed {T = T} (Ok value)) source.faults source'.faults → new ≡ old + steps → Tells Holds status steps sink sink' → Told source.bytes (Is (Ok value))
    → Runs (Some mode) status (record { source = source; sink = sink; steps = old }) (record { source = source'; sink = sink'; steps = new })
read-told mode m Is Holds value few said status steps old new source source' sink sink' t cause counted tells told =
    let Answers : List ℕ → Account → Type 0 = (runs_of (Some mode)).Answers in
    runs-told (Some mode) Holds status steps (record { source = source; sink = sink; steps = old }) (record { source = source'; sink = sink'; steps = new }) t.taken
    t.consumed t.few (cause.same (not-failed value)) counted tells (λ x h e. absurd (omega (arith, few x h, e)))
    (told-input m.input source.bytes (λ input. (x : Account) → x.taken ≡ t.taken → Holds x → Answers input x)
    (all-taken source.bytes source'.bytes t.taken (λ input x. Holds x → Answers input x) t.consumed t.all
    (told-map source.bytes (Is (Ok value)) (λ input. (x : Account) → x.taken ≡ input → Holds x → Answers input x) said told))) m.front (λ x e w. m.memory x w)

-- an input isn't read: what its fault says of it
abbrev pub FaultIs : Mode → ModelFault → List ℕ → Type 0
FaultIs mode (Named code line) input = (x : Account) → IsRefusal (code, line) x → (runs_of (Some mode)).Answers input x
FaultIs mode ReadFault input = Unit {0}
FaultIs mode Memory input = Unit {0}

written-none : (b a : Side) → a ≡ b → Appends b.bytes a.bytes []
written-none b a e = subst (λ (s : Side). Appends b.bytes s.bytes []) (sym e) (Appends-nil b.bytes)

pub stopped : {T : Type 0} {IsOpen : List Line → Type 0} (mode : Mode) → ReadsFirst mode IsOpen → (fault : ModelFault) (status : ℕ) (before after : Outside)
    → Takes {T = T} IsOpen (Err fault) before.source.bytes after.source.bytes → RoseIf (fault ≡ ReadFault) before.source.faults after.source.faults
    → after.steps ≡ before.steps → Stops fault status before.sink after.sink
    → Told before.source.bytes (FaultIs mode fault) → Runs (Some mode) status before after
stopped mode m (Named code line) status before after t cause kept tells told =
    runs-told (Some mode) (IsRefusal (code, line)) status 0 before after t.taken t.consumed t.few (cause.same (λ e. cc)) (omega (arith, kept)) tells
    (λ x h e. absurd (omega (arith, h.over, e))) (told-input m.input before.source.bytes _ (told-map before.source.bytes (FaultIs mode (Named code line)) _ (λ input h x e. h x) told)) m.front (λ x e w. m.memory x w)
stopped mode m ReadFault status before after t cause kept (three, same) told =
    let x : Account = record { status = status; taken = t.taken; written = []; steps = 0 } in
    record {
      words = λ e. absurd (omega (arith, three, e));
      causes = record {
        known = omega (arith, three);
        reads_same = λ e. absurd (e three);
        reads_rose = λ e. cause.rose refl;
        writes_same = λ e. ap (λ (s : Side). s.faults) same;
        writes_rose = λ e. absurd (omega (arith, three, e));
      };
      did = x;
      account = record { answered = refl; taken = t.consumed; few_taken = t.few; written = written-none before.sink after.sink same; counted = omega (arith, kept) };
      answered = λ l. absurd (omega (arith, three, l));
      source = λ e. m.so_far (lines_of (whole_part t.taken)) x (t.open_lines refl) (refl, refl);
      sink = λ e. absurd (omega (arith, three, e));
      memory = λ e. absurd (omega (arith, three, e));
    }
stopped mode m Memory status before after t cause kept (five, same) told =
    let x : Account = record { status = status; taken = t.taken; written = []; steps = 0 } in
    record {
      words = λ e. absurd (omega (arith, five, e));
      causes = record {
        known = omega (arith, five);
        reads_same = λ e. cause.same (λ e. cc);
        reads_rose = λ e. absurd (omega (arith, five, e));
        writes_same = λ e. ap (λ (s : Side). s.faults) same;
        writes_rose = λ e. absurd (omega (arith, five, e));
      };
      did = x;
      account = record { answered = refl; taken = t.consumed; few_taken = t.few; written = written-none before.sink after.sink same; counted = omega (arith, kept) };
      answered = λ l. absurd (omega (arith, five, l));
      source = λ e. absurd (omega (arith, five, e));
      sink = λ e. absurd (omega (arith, five, e));
      memory = λ e. m.memory x refl;
    }

-- an input isn't read
pub fault-told : {T : Type 0} {IsOpen : List Line → Type 0} (mode : Mode) → ReadsFirst mode IsOpen → (Is : Result T ModelFault → List ℕ → Type 0)
    (fault : ModelFault) → ((bytes : List ℕ) → Is (Err fault) bytes → FaultIs mode fault bytes) → (status steps : ℕ) (source source' sink sink' : Side)
    → Takes {T = T} IsOpen (Err fault) source.bytes source'.bytes → RoseIf (Failed {T = T} (Err fault)) source.faults source'.faults
    → Stops fault status sink sink' → Told source.bytes (Is (Err fault))
    → Runs (Some mode) status (record { source = source; sink = sink; steps = steps }) (record { source = source'; sink = sink'; steps = steps })
fault-told {T} mode m Is fault said status steps source source' sink sink' t cause tells told =
    stopped mode m fault status (record { source = source; sink = sink; steps = steps }) (record { source = source'; sink = sink'; steps = steps }) t
    (rises-at {T = T} fault cause) refl tells
    (told-map source.bytes (Is (Err fault)) (FaultIs mode fault) said told)

-- who reads nothing isn't in a mode that reads
pub reads-not : (m n : Option Mode) → m ≡ n → (runs_of n).reads ≡ true → (runs_of m).reads ≡ false → ⊥
reads-not m n same reads not = cc

-- ---- the modes

pub solve-reads : (flags : Flags) → ReadsFirst (Solve flags) IsOpenInput
unfolding runs_of
solve-reads flags = record { input = refl; front = λ input x h. h; so_far = λ lines x is nothing. (is, nothing); memory = λ x e. e }

pub upgrade-reads : ReadsFirst Upgrade IsOpenInput
unfolding runs_of
upgrade-reads = record { input = refl; front = λ input x h. h; so_far = λ lines x is nothing. (is, nothing); memory = λ x e. e }

pub check-reads : ReadsFirst Check IsOpenClaim
unfolding runs_of
check-reads = record { input = refl; front = λ input x h. h; so_far = λ lines x is nothing. (is, nothing); memory = λ x e. e }

-- what is told of one account of a building is told of an account of it
pub tells-as : (Holds Others : Account → Type 0) (status steps : ℕ) (before after : Side) → ((x : Account) → Holds x → Others x) → Tells Holds status steps before after
    → Tells Others status steps before after
tells-as Holds Others status steps before after f t = record {
  known = t.known;
  written = t.written;
  over = t.over;
  same = t.same;
  rose = t.rose;
  whole = λ l taken. f _ (t.whole l taken);
  front = λ e taken. (let h = t.front e taken in (h.0, h.1, f _ h.2));
  nothing = t.nothing;
}

-- ---- a mode that reads nothing

pub drill-told : (n status steps : ℕ) (source before after : Side) (old new : ℕ) → new ≡ old + steps → ((x : Account) → IsDrilled n x → x.status ≤ 1)
    → Tells (IsDrilled n) status steps before after
    → Runs (Some (Drill n)) status (record { source = source; sink = before; steps = old }) (record { source = source; sink = after; steps = new })
unfolding runs_of
drill-told n status steps source before after old new counted few tells =
    runs-told (Some (Drill n)) (IsDrilled n) status steps (record { source = source; sink = before; steps = old }) (record { source = source; sink = after; steps = new }) []
    (Consumes-nil source.bytes) (omega arith) refl counted tells (λ x h e. absurd (omega (arith, few x h, e))) (λ x none h. (none, h)) (λ input x h. h)
    (λ x none nothing. (none, nothing))

-- ---- words that ask for nothing

abbrev pub RefusesBy : Account → Type 0
RefusesBy x = Ends x 2 words_text 0

pub words-told : (status : ℕ) (source : Side) (steps : ℕ) (before after : Side) → Tells RefusesBy status 0 before after
    → Runs None status (record { source = source; sink = before; steps = steps }) (record { source = source; sink = after; steps = steps })
unfolding runs_of
words-told status source steps before after tells =
    runs-told None RefusesBy status 0 (record { source = source; sink = before; steps = steps }) (record { source = source; sink = after; steps = steps }) []
    (Consumes-nil source.bytes) (omega arith) refl (omega arith) tells (λ x h e. refl) (λ x none h. (none, h)) (λ input x h. h) (λ x none nothing. (none, nothing))

pub runs-by : (m n : Option Mode) (status : ℕ) (before after : Outside) → m ≡ n → Runs n status before after → Runs m status before after
runs-by m n status before after same runs = subst (λ (k : Option Mode). Runs k status before after) (sym same) runs
