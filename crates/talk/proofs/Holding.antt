-- A talk over the lines of a source is over.
use Rattle.std.proofs.Common.{◌≡◌, ◌≢◌, ◌≤◌, ℕ, ◌+◌, List, [], ◌++◌, Result, Ok, Err, Some, None, refl, sym, ap, subst, ◌∙◌, arith, append-nil, append_assoc, ◌⊎◌, inl, inr, false}
use Rattle.std.specs.declared.option.Option.{Option}
use Rattle.std.specs.Io.KnownBytes.{Appends}
use Rattle.std.proofs.KnownBytes.{Appends-nil, Appends-trans}
use Rattle.line_io.specs.Causes.{Count, Rose}
use Rattle.line_io.specs.Line.{Line, text_lines}
use Rattle.line_io.specs.Passes.{Follows, IsLeft, Passes}
use Rattle.line_io.specs.Reader.{is_settled, lines_left}
use Rattle.line_io.specs.Sides.{RoseIf}
use Rattle.line_io.specs.View.{Reader}
use Rattle.line_io.specs.Writer.{Puts, PutsFront}
use Rattle.line_io.specs.declared.out.WriteFault.{WriteFault}
use Rattle.line_io.proofs.PassLemmas.{passes-none}
use Rattle.talk.specs.Held.{Around, EndsByQuit, HoldsTalk, IsReadOut, OfLines, SendsBy, around, status_after}
use Rattle.talk.specs.Talks.{Spoken, Talk, TalkAnswers, TalkFront, TalkGoesOn, TalkWants}

-- ---- counts of faults

rose_not : (status end : ℕ) (before after : Count) → (status ≡ end → ⊥) → after ≡ before → RoseIf (status ≡ end) before after
rose_not status end before after other same = record { rose = λ e. absurd (other e); same = λ e. same }

rose_so : (status : ℕ) (before after : Count) → Rose before after → RoseIf (status ≡ status) before after
rose_so status before after rose = record { rose = λ e. rose; same = λ e. absurd (e refl) }

-- ---- what goes over to the sink

-- a text after no pending bytes that leaves none pending went over whole
pub went_over : (held held' : Option (List ℕ)) (pending pending' text : List ℕ) → Puts held pending text held' pending' → pending ≡ [] → pending' ≡ [] → Appends held held' text
went_over held held' pending pending' text put none gone = grind (arith, append-nil)

-- a front of a text went over
pub record Over (held held' : Option (List ℕ)) (text : List ℕ) : Type 0 where
  pub front : List ℕ
  pub rest : List ℕ
  pub parts : text ≡ front ++ rest
  pub over : Appends held held' front

pub front_over : (held held' : Option (List ℕ)) (pending pending' text : List ℕ) → PutsFront held pending text held' pending' → pending ≡ [] → Over held held' text
front_over held held' pending pending' text h none =
    let sent : h.front ≡ h.put.sent ++ pending' = ap (λ (l : List ℕ). l ++ h.front) (sym none) ∙ h.put.order in record {
      front = h.put.sent;
      rest = pending' ++ h.rest;
      parts = h.parts ∙ ap (λ (l : List ℕ). l ++ h.rest) sent ∙ append_assoc h.put.sent pending' h.rest;
      over = h.put.over;
    }

-- after a text that went over whole
pub over_behind : (a b c : Option (List ℕ)) (text more : List ℕ) → Appends a b text → Over b c more → Over a c (text ++ more)
over_behind a b c text more whole h = record {
  front = text ++ h.front;
  rest = h.rest;
  parts = ap (λ (l : List ℕ). text ++ l) h.parts ∙ sym (append_assoc text h.front h.rest);
  over = Appends-trans a b c text h.front whole h.over;
}

-- ---- the lines that were left

pub of_lines : (texts : List (List ℕ)) (x y : Option (List Line)) (rest : List Line) (Holds : List Line → Type 0) → Follows texts x y → IsLeft x y rest
    → ((lines : List Line) → lines ≡ text_lines texts ++ rest → Holds lines) → OfLines x Holds
of_lines texts None y rest Holds f e holds = tt
of_lines texts (Some a) None rest Holds f e holds = absurd f
of_lines texts (Some a) (Some b) rest Holds f e holds = holds a (f ∙ ap (λ (l : List Line). text_lines texts ++ l) e)

-- where nothing is known of what is left
pub some_lines : (texts : List (List ℕ)) (x y : Option (List Line)) (Holds : List Line → Type 0) → Follows texts x y
    → ((lines rest : List Line) → lines ≡ text_lines texts ++ rest → Holds lines) → OfLines x Holds
some_lines texts None y Holds f holds = tt
some_lines texts (Some a) None Holds f holds = absurd f
some_lines texts (Some a) (Some b) Holds f holds = holds a b f

-- ---- what was held, by its status

-- what is the same at every status
pub record Base (a b : Around) (did : Spoken) (heard : List (List ℕ)) : Type 0 where
  pub passes : Passes a.reader b.reader a.source.bytes b.source.bytes heard
  pub written : Appends a.sink.bytes b.sink.bytes did.text
  pub counted : b.steps ≡ a.steps + did.steps

-- a talk was held, by what holds at its status
held-at : {S : Type 0} (talk : Talk S) (status : ℕ) (a b : Around) (did : Spoken) (heard : List (List ℕ)) → Base a b did heard → did.status ≡ status → (status ≤ 5) × (status ≢ 2)
    → RoseIf (status ≡ 3) a.source.faults b.source.faults → RoseIf (status ≡ 4) a.sink.faults b.sink.faults → (status ≤ 1 → OfLines (lines_left a.reader a.source.bytes) (λ lines. TalkAnswers talk a.reader.number lines did))
    → (status ≡ 0 → IsReadOut b.reader ⊎ EndsByQuit talk.Quits heard) → (status ≡ 3 → TalkGoesOn talk a.reader.number heard did × (is_settled b.reader ≡ false))
    → (status ≡ 4 → OfLines (lines_left a.reader a.source.bytes) (λ lines. TalkFront talk a.reader.number lines did))
    → (status ≡ 5 → ((did.text ≡ []) × (heard ≡ [])) ⊎ TalkWants talk a.reader.number heard did) → HoldsTalk talk status a b
held-at talk status a b did heard base over known reads writes whole read_on so_far front no_memory = record {
  did = did;
  heard = heard;
  passes = base.passes;
  over = over;
  known = known;
  written = base.written;
  counted = base.counted;
  reads = reads;
  writes = writes;
  whole = whole;
  read_on = read_on;
  so_far = so_far;
  front = front;
  no_memory = no_memory;
}

-- from what can't be, anything follows
never : {P A : Type 0} → (P → ⊥) → P → A
never barred p = absurd (barred p)

pub at_0 : {S : Type 0} (talk : Talk S) (a b : Around) (did : Spoken) (heard : List (List ℕ)) → Base a b did heard → did.status ≡ 0 → b.source.faults ≡ a.source.faults → b.sink.faults ≡ a.sink.faults
    → OfLines (lines_left a.reader a.source.bytes) (λ lines. TalkAnswers talk a.reader.number lines did) → IsReadOut b.reader ⊎ EndsByQuit talk.Quits heard → HoldsTalk talk 0 a b
at_0 talk a b did heard base over reads writes whole read_on =
    held-at talk 0 a b did heard base over (omega arith, λ e. omega (arith, e)) (rose_not 0 3 _ _ (λ e. omega (arith, e)) reads) (rose_not 0 4 _ _ (λ e. omega (arith, e)) writes) (λ l. whole)
    (λ e. read_on) (never (λ e. omega (arith, e))) (never (λ e. omega (arith, e))) (never (λ e. omega (arith, e)))

pub at_1 : {S : Type 0} (talk : Talk S) (a b : Around) (did : Spoken) (heard : List (List ℕ)) → Base a b did heard → did.status ≡ 1 → b.source.faults ≡ a.source.faults → b.sink.faults ≡ a.sink.faults
    → OfLines (lines_left a.reader a.source.bytes) (λ lines. TalkAnswers talk a.reader.number lines did) → HoldsTalk talk 1 a b
at_1 talk a b did heard base over reads writes whole =
    held-at talk 1 a b did heard base over (omega arith, λ e. omega (arith, e)) (rose_not 1 3 _ _ (λ e. omega (arith, e)) reads) (rose_not 1 4 _ _ (λ e. omega (arith, e)) writes) (λ l. whole)
    (never (λ e. omega (arith, e))) (never (λ e. omega (arith, e))) (never (λ e. omega (arith, e))) (never (λ e. omega (arith, e)))

pub at_3 : {S : Type 0} (talk : Talk S) (a b : Around) (did : Spoken) (heard : List (List ℕ)) → Base a b did heard → did.status ≡ 3 → Rose a.source.faults b.source.faults → b.sink.faults ≡ a.sink.faults
    → TalkGoesOn talk a.reader.number heard did → is_settled b.reader ≡ false → HoldsTalk talk 3 a b
at_3 talk a b did heard base over reads writes goes open_line =
    held-at talk 3 a b did heard base over (omega arith, λ e. omega (arith, e)) (rose_so 3 _ _ reads) (rose_not 3 4 _ _ (λ e. omega (arith, e)) writes) (never (λ l. omega (arith, l)))
    (never (λ e. omega (arith, e))) (λ e. (goes, open_line)) (never (λ e. omega (arith, e))) (never (λ e. omega (arith, e)))

pub at_4 : {S : Type 0} (talk : Talk S) (a b : Around) (did : Spoken) (heard : List (List ℕ)) → Base a b did heard → did.status ≡ 4 → b.source.faults ≡ a.source.faults → Rose a.sink.faults b.sink.faults
    → OfLines (lines_left a.reader a.source.bytes) (λ lines. TalkFront talk a.reader.number lines did) → HoldsTalk talk 4 a b
at_4 talk a b did heard base over reads writes front =
    held-at talk 4 a b did heard base over (omega arith, λ e. omega (arith, e)) (rose_not 4 3 _ _ (λ e. omega (arith, e)) reads) (rose_so 4 _ _ writes) (never (λ l. omega (arith, l)))
    (never (λ e. omega (arith, e))) (never (λ e. omega (arith, e))) (λ e. front) (never (λ e. omega (arith, e)))

pub at_5 : {S : Type 0} (talk : Talk S) (a b : Around) (did : Spoken) (heard : List (List ℕ)) → Base a b did heard → did.status ≡ 5 → b.source.faults ≡ a.source.faults → b.sink.faults ≡ a.sink.faults
    → ((did.text ≡ []) × (heard ≡ [])) ⊎ TalkWants talk a.reader.number heard did → HoldsTalk talk 5 a b
at_5 talk a b did heard base over reads writes wants =
    held-at talk 5 a b did heard base over (omega arith, λ e. omega (arith, e)) (rose_not 5 3 _ _ (λ e. omega (arith, e)) reads) (rose_not 5 4 _ _ (λ e. omega (arith, e)) writes)
    (never (λ l. omega (arith, l))) (never (λ e. omega (arith, e))) (never (λ e. omega (arith, e))) (never (λ e. omega (arith, e))) (λ e. wants)

pub held_as : {S : Type 0} (talk : Talk S) (status k : ℕ) (a b : Around) → status ≡ k → HoldsTalk talk k a b → HoldsTalk talk status a b
held_as talk status k a b is h = subst (λ (z : ℕ). HoldsTalk talk z a b) (sym is) h

-- ---- without memory, and where the model can't be cleared

pub held_none : {S : Type 0} (talk : Talk S) (r : Reader) (left : Option (List ℕ)) (reads : Count) (held : Option (List ℕ)) (writes : Count) (k j n : ℕ) → j ≡ k + n
    → HoldsTalk talk 5 (around r left reads held writes k) (around r left reads held writes j)
held_none talk r left reads held writes k j n counted =
    at_5 talk (around r left reads held writes k) (around r left reads held writes j) (record { status = 5; text = []; steps = n }) []
    (record { passes = passes-none r left; written = Appends-nil held; counted = counted }) refl refl refl (inl (refl, refl))

pub all_lines_so : (x : Option (List Line)) (Holds : List Line → Type 0) → ((lines : List Line) → Holds lines) → OfLines x Holds
all_lines_so None Holds holds = tt
all_lines_so (Some lines) Holds holds = holds lines

-- a talk that is refused in place of being opened
pub held_refused : {S T : Type 0} (talk : Talk S) (sent : Result T WriteFault) (text : List ℕ) (r : Reader) (left : Option (List ℕ)) (reads : Count) (held held' : Option (List ℕ))
    (pending pending' : List ℕ) (writes writes' : Count) (k j n : ℕ) → j ≡ k + n → pending ≡ [] → SendsBy sent text held pending writes held' pending' writes'
    → talk.Refuses r.number (record { status = 1; text = text; steps = n })
    → HoldsTalk talk (status_after sent 1) (around r left reads held writes k) (around r left reads held' writes' j)
held_refused talk (Ok done) text r left reads held held' pending pending' writes writes' k j n counted none sends refused =
    let did : Spoken = record { status = 1; text = text; steps = n } in
    at_1 talk (around r left reads held writes k) (around r left reads held' writes' j) did []
    (record { passes = passes-none r left; written = went_over held held' pending pending' text sends.put.ok none sends.flushed; counted = counted })
    refl refl sends.cause.same (all_lines_so (lines_left r left) (λ lines. TalkAnswers talk r.number lines did) (λ lines. inr refused))
held_refused talk (Err fault) text r left reads held held' pending pending' writes writes' k j n counted none sends refused =
    let o = front_over held held' pending pending' text sends.put.err none in
    let did : Spoken = record { status = 4; text = o.front; steps = n } in
    let P : List ℕ → Type 0 = λ t. talk.Refuses r.number (record { status = 1; text = t; steps = n }) in
    at_4 talk (around r left reads held writes k) (around r left reads held' writes' j) did []
    (record { passes = passes-none r left; written = o.over; counted = counted })
    refl refl sends.cause.failed (all_lines_so (lines_left r left) (λ lines. TalkFront talk r.number lines did) (λ lines. inl (1, o.rest, inr (subst P o.parts refused))))
