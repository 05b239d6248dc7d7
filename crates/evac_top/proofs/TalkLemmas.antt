-- What a run did that holds a talk, by what reading its model and holding its talk did.
use Rattle.std.proofs.Common.{◌≡◌, ℕ, ◌+◌, true, false, List, [], ◌∷◌, ◌++◌, length, Ok, Err, Some, None, refl, sym, ap, subst, ◌∙◌, arith, append-nil, append_assoc, inl, inr, ◌⊎◌}
use Rattle.std.specs.declared.option.Option.{Option}
use Rattle.std.specs.Io.KnownBytes.{Consumes, IsAtEnd}
use Rattle.std.proofs.Math.Path.{subst₂}
use Rattle.evac_law.specs.declared.model.Model.{Model}
use Rattle.line_io.specs.Causes.{Count, Rose}
use Rattle.line_io.specs.Line.{IsWhole, Line, lines_after, lines_of, pieces, text_lines, whole_part}
use Rattle.line_io.specs.Passes.{Passes}
use Rattle.line_io.specs.Reader.{Drained, is_settled, lines_left}
use Rattle.line_io.specs.Sides.{RoseIf, Side}
use Rattle.line_io.specs.View.{Reader}
use Rattle.line_io.proofs.LineLemmas.{lines_after-whole, text_lines-push, whole_part-append}
use Rattle.line_io.proofs.PassLemmas.{passes-then, text_lines-append}
use Rattle.building_table.specs.Built.{IsBuilding}
use Rattle.building_table.specs.Names.{NameTable, names_of}
use Rattle.building_table.specs.Passes.{IsReading, ReadsLines, ReadsModel}
use Rattle.building_table.specs.declared.building.Building.{Building}
use Rattle.building_table.specs.declared.faults.ModelFault.{ModelFault}
use Rattle.building_table.specs.declared.faults.ModelFault.TheVariants.{Named, ReadFault, Memory}
use Rattle.model_text.specs.Readings.{Described, Reading, Refused, model_of, opening_of}
use Rattle.model_text.specs.Taken.{Description}
use Rattle.talk.specs.ReplanTalks.{replan}
use Rattle.talk.specs.Sessions.{session}
use Rattle.talk.specs.Studies.{study}
use Rattle.talk.specs.Held.{EndsByQuit, HoldsTalk, IsReadOut, OfLines, around}
use Rattle.talk.specs.Talks.{Spoken, Talk, TalkAnswers, TalkFront, TalkGoesOn, TalkWants}
use Rattle.evac_top.specs.Accounts.{Account, Outside, Told}
use Rattle.evac_top.specs.Answers.{IsTalk, WritesNothing, runs_of}
use Rattle.evac_top.specs.Reads.{IsFresh}
use Rattle.evac_top.specs.Runs.{Runs}
use Rattle.evac_top.specs.Talking.{HasQuit, TalkOn, Talks, TalksFront, TalksMemory, TalksSoFar, TalksWanting, spoken}
use Rattle.evac_top.specs.Tells.{Stops}
use Rattle.evac_top.specs.declared.words.Mode.{Mode}
use Rattle.evac_top.specs.declared.words.Mode.TheVariants.{Replan, Session, Study}
use Rattle.evac_top.proofs.OpenLemmas.{IsUndecided, described-lines, opening-further, takes-model}
use Rattle.evac_top.proofs.TakeLemmas.{Failed, few-taken, not-failed, rises-at, whole-lines}
use Rattle.evac_top.proofs.TellLemmas.{FaultIs, ReadsFirst, stopped, told-input}

-- ---- a model that isn't read

not-whole : {S : Type 0} (talk : TalkOn S) (lines : List Line) (x : Account) → IsUndecided lines → WritesNothing x → TalksSoFar talk (model_of lines) (length lines) x
not-whole talk lines x e nothing = subst (λ r. TalksSoFar talk r (length lines) x) (sym e) (refl, refl, nothing.0, nothing.1)

-- the front of a talk's answer is the front of a talk
front-of : {S : Type 0} (talk : TalkOn S) (r : Reading) (x : Account)
    → ((status : ℕ) × (rest : List ℕ) × Talks talk r (record x { status = status; written = x.written ++ rest })) → TalksFront talk r x
front-of talk (Described d last rest) x h = inl h
front-of talk (Refused code line) x h = h

pub talk-reads : {S : Type 0} (mode : Mode) (talk : TalkOn S) → IsTalk mode talk → ReadsFirst mode IsUndecided
talk-reads mode talk m = record {
  input = m.input;
  front = λ input x h. m.front input x (front-of talk (model_of (lines_of input)) x (h.0, h.1, m.talks input _ h.2));
  so_far = λ lines x e nothing. m.so_far lines x (not-whole talk lines x e nothing);
  memory = λ x e. m.memory x (inl e);
}

-- what the fault of a model says of the input
fault-is : {S : Type 0} (mode : Mode) (talk : TalkOn S) → IsTalk mode talk → (fault : ModelFault) (n : ℕ) (bytes : List ℕ) (after : List Line)
    → IsReading (Err fault) 0 n (lines_of bytes) after → FaultIs mode fault bytes
fault-is mode talk m (Named code line) n bytes after e = λ x h.
    m.answers bytes x (subst (λ r. Talks talk r x) (sym e) h) (λ zero. absurd (omega (arith, zero, h.over)))
fault-is mode talk m ReadFault n bytes after e = tt
fault-is mode talk m Memory n bytes after e = tt

told-fault : {S : Type 0} (mode : Mode) (talk : TalkOn S) → IsTalk mode talk → (r : Reader) (left : Option (List ℕ)) (fault : ModelFault) (n : ℕ)
    (b : Option (List Line)) → IsFresh r → ReadsModel (Err fault) r.number n (lines_left r left) b → Told left (FaultIs mode fault)
told-fault mode talk m r None fault n b fresh h = tt
told-fault mode talk m r (Some bytes) fault n b fresh h =
    by_lines b (subst (λ (x : Reader). ReadsModel (Err fault) x.number n (lines_left x (Some bytes)) b) fresh h)
  where
    by_lines : (b : Option (List Line)) → ReadsModel (Err fault) 0 n (Some (lines_of bytes)) b → FaultIs mode fault bytes
    by_lines None e = absurd e
    by_lines (Some after) e = fault-is mode talk m fault n bytes after e

-- a run whose model isn't read is over
pub not-read : {S : Type 0} (mode : Mode) (talk : TalkOn S) → IsTalk mode talk → (fault : ModelFault) (status : ℕ) (r0 r1 : Reader) (steps : ℕ)
    (source source' sink sink' : Side) → IsFresh r0 → ReadsLines (Err fault) r0 r1 source.bytes source'.bytes
    → ReadsModel (Err fault) r0.number r1.number (lines_left r0 source.bytes) (lines_left r1 source'.bytes)
    → (Failed {T = Building} (Err fault) → is_settled r1 ≡ false) → RoseIf (Failed {T = Building} (Err fault)) source.faults source'.faults
    → Stops fault status sink sink'
    → Runs (Some mode) status (record { source = source; sink = sink; steps = steps }) (record { source = source'; sink = sink'; steps = steps })
not-read mode talk m fault status r0 r1 steps source source' sink sink' fresh bytes reading unfinished cause stops =
    stopped mode (talk-reads mode talk m) fault status (record { source = source; sink = sink; steps = steps }) (record { source = source'; sink = sink'; steps = steps })
    (takes-model {T = Building} IsUndecided (λ lines e. e) fault r0 r1 source.bytes source'.bytes fresh bytes unfinished)
    (rises-at {T = Building} fault cause) refl stops
    (told-fault mode talk m r0 source.bytes fault r1.number (lines_left r1 source'.bytes) fresh reading)

-- ---- a talk that was held

-- the talk on a building that was read is that on the described one
as-described : {S : Type 0} (talk : TalkOn S) (building : Building) (d : Description) (P : Talk S → Type 0) → IsBuilding building d
    → P (talk building.names building.model) → P (talk (names_of d) d.model)
as-described talk building d P is h = subst₂ (λ (names : NameTable) (m : Model). P (talk names m)) is.names is.model h

-- what holds of the talk on a building that was read holds of that of the lines
of-reading : {S : Type 0} (talk : TalkOn S) (building : Building) (n : ℕ) (bytes : List ℕ) (b : Option (List Line)) (P : Talk S → List Line → Type 0)
    (Q : Reading → Type 0) → ((d : Description) (rest : List Line) → P (talk (names_of d) d.model) rest → Q (Described d n rest))
    → ReadsModel (Ok building) 0 n (Some (lines_of bytes)) b → OfLines b (P (talk building.names building.model)) → Q (model_of (lines_of bytes))
of-reading talk building n bytes None P Q f e h = absurd e
of-reading talk building n bytes (Some rest) P Q f (d, e, is) h = subst Q (sym e) (f d rest (as-described talk building d (λ t. P t rest) is h))

-- all of the bytes are taken
took-all : (bytes taken : List ℕ) (left : Option (List ℕ)) → Consumes (Some bytes) left taken → IsAtEnd left → taken ≡ bytes
took-all bytes taken None c end = absurd c
took-all bytes taken (Some ys) c end = sym (append-nil taken) ∙ ap (λ l. taken ++ l) (sym end) ∙ sym c

-- a line that quits is among the lines
quits-among : {S : Type 0} (talk : TalkOn S) (d : Description) (n : ℕ) (first : List (List ℕ)) (line : List ℕ) (more : List Line)
    → (talk (names_of d) d.model).Quits line → HasQuit talk (Described d n (text_lines (first ++ (line ∷ [])) ++ more))
quits-among talk d n first line more quit =
    (text_lines first, line, more, ap (λ l. l ++ more) (text_lines-push first line) ∙ append_assoc (text_lines first) (Ok line ∷ []) more, quit)

-- the model of lines with others after it
model-before : (texts heard : List (List ℕ)) (more : List Line) (d : Description) (n : ℕ) → opening_of 0 (text_lines texts) ≡ Described d n []
    → model_of (text_lines (texts ++ heard) ++ more) ≡ Described d n (text_lines heard ++ more)
model-before texts heard more d n e =
    ap model_of (ap (λ l. l ++ more) (text_lines-append texts heard) ∙ append_assoc (text_lines texts) (text_lines heard) more)
    ∙ opening-further 0 (text_lines texts) (text_lines heard ++ more) d n [] e

has-quit : {S : Type 0} (talk : TalkOn S) (r0 r2 : Reader) (left left' : Option (List ℕ)) (texts heard : List (List ℕ)) (d : Description) (n : ℕ) → IsFresh r0
    → (p : Passes r0 r2 left left' (texts ++ heard)) → IsWhole p.gone → opening_of 0 (text_lines texts) ≡ Described d n []
    → EndsByQuit (talk (names_of d) d.model).Quits heard → HasQuit talk (model_of (lines_of (whole_part p.taken)))
has-quit talk r0 r2 left left' texts heard d n fresh p whole e (first, line, parts, quit) =
    let tied : p.taken ≡ p.gone ++ r2.pending = ap (λ (r : Reader). r.pending ++ p.taken) (sym fresh) ∙ p.tied in
    let rest = whole_part r2.pending in
    let more = lines_after (0 + length p.gone) (pieces rest) in
    let said : lines_of p.gone ≡ text_lines (texts ++ heard) = ap (λ (r : Reader). lines_after r.given (pieces p.gone)) (sym fresh) ∙ p.said in
    let all : lines_of (whole_part p.taken) ≡ text_lines (texts ++ heard) ++ more =
    ap (λ b. lines_of (whole_part b)) tied ∙ ap lines_of (whole_part-append p.gone r2.pending whole)
    ∙ lines_after-whole 0 p.gone rest (texts ++ heard) whole said in
    subst (HasQuit talk) (sym (ap model_of all ∙ model-before texts heard more d n e))
    (subst (λ (l : List (List ℕ)). HasQuit talk (Described d n (text_lines l ++ more))) (sym parts) (quits-among talk d n first line more quit))

reads-to-end : {S : Type 0} (talk : TalkOn S) (bytes : List ℕ) (r0 r2 : Reader) (left' : Option (List ℕ)) (texts heard : List (List ℕ)) (d : Description) (n : ℕ)
    → IsFresh r0 → (p : Passes r0 r2 (Some bytes) left' (texts ++ heard)) → opening_of 0 (text_lines texts) ≡ Described d n [] → Drained r2 left'
    → IsReadOut r2 ⊎ EndsByQuit (talk (names_of d) d.model).Quits heard → (p.taken ≡ bytes) ⊎ HasQuit talk (model_of (lines_of (whole_part p.taken)))
reads-to-end talk bytes r0 r2 left' texts heard d n fresh p e drained (inl over) = inl (took-all bytes p.taken left' p.consumed (drained over.0))
reads-to-end talk bytes r0 r2 left' texts heard d n fresh p e drained (inr quit) = by_end p.whole
  where
    by_end : IsWhole p.gone ⊎ ((r2.ended ≡ true) × (r2.pending ≡ [])) → (p.taken ≡ bytes) ⊎ HasQuit talk (model_of (lines_of (whole_part p.taken)))
    by_end (inl whole) = inr (has-quit talk r0 r2 (Some bytes) left' texts heard d n fresh p whole e quit)
    by_end (inr over) = inl (took-all bytes p.taken left' p.consumed (drained over.0))

-- the parts of a run that read its model and held a talk on it
pub record Parts {S : Type 0} (talk : TalkOn S) (building : Building) (status : ℕ) (r0 r1 r2 : Reader) (before after : Outside)
    (l1 : Option (List ℕ)) (f1 : Count) : Type 0 where
  pub fresh : IsFresh r0
  pub read : ReadsLines (Ok building) r0 r1 before.source.bytes l1
  pub reading : ReadsModel (Ok building) r0.number r1.number (lines_left r0 before.source.bytes) (lines_left r1 l1)
  pub cause : RoseIf (Failed {T = Building} (Ok building)) before.source.faults f1
  pub held : HoldsTalk (talk building.names building.model) status (around r1 l1 f1 before.sink.bytes before.sink.faults before.steps)
      (around r2 after.source.bytes after.source.faults after.sink.bytes after.sink.faults after.steps)
  pub drained : Drained r2 after.source.bytes

all-passes : {S : Type 0} (talk : TalkOn S) (building : Building) (status : ℕ) (r0 r1 r2 : Reader) (before after : Outside) (l1 : Option (List ℕ)) (f1 : Count)
    → (h : Parts talk building status r0 r1 r2 before after l1 f1) → Passes r0 r2 before.source.bytes after.source.bytes (h.read.texts ++ h.held.heard)
all-passes talk building status r0 r1 r2 before after l1 f1 h =
    passes-then r0 r1 r2 before.source.bytes l1 after.source.bytes h.read.texts h.held.heard h.read.passes h.held.passes

same-spoken : (status : ℕ) (did : Spoken) → did.status ≡ status → did ≡ record { status = status; text = did.text; steps = did.steps }
same-spoken status did over = ap (λ (s : ℕ). record { status = s; text = did.text; steps = did.steps }) over

-- what was written and counted, after all that was taken
abbrev account-of : ℕ → List ℕ → Spoken → Account
account-of status taken did = record { status = status; taken = taken; written = did.text; steps = did.steps }

talk-whole : {S : Type 0} (mode : Mode) (talk : TalkOn S) → IsTalk mode talk → (building : Building) (status : ℕ) (r0 r1 r2 : Reader)
    (left l1 left' : Option (List ℕ)) (texts heard : List (List ℕ)) (did : Spoken) (d : Description) → IsFresh r0 → (p : Passes r0 r2 left left' (texts ++ heard))
    → did.status ≡ status → ReadsModel (Ok building) r0.number r1.number (lines_left r0 left) (lines_left r1 l1)
    → OfLines (lines_left r1 l1) (λ lines. TalkAnswers (talk building.names building.model) r1.number lines did) → opening_of 0 (text_lines texts) ≡ Described d r1.number []
    → Drained r2 left' → (status ≡ 0 → IsReadOut r2 ⊎ EndsByQuit (talk (names_of d) d.model).Quits heard)
    → Told left (λ input. (runs_of (Some mode)).Answers input (account-of status p.taken did))
talk-whole mode talk m building status r0 r1 r2 None l1 left' texts heard did d fresh p over reading whole e drained read_on = tt
talk-whole mode talk m building status r0 r1 r2 (Some bytes) l1 left' texts heard did d fresh p over reading whole e drained read_on =
    let x = account-of status p.taken did in
    let said = subst (λ (r : Reader). ReadsModel (Ok building) r.number r1.number (lines_left r (Some bytes)) (lines_left r1 l1)) fresh reading in
    m.answers bytes x
    (of-reading talk building r1.number bytes (lines_left r1 l1) (λ t lines. TalkAnswers t r1.number lines did) (λ r. Talks talk r x)
    (λ d rest h. subst (λ (s : Spoken). TalkAnswers (talk (names_of d) d.model) r1.number rest s) (same-spoken status did over) h) said whole)
    (λ zero. reads-to-end talk bytes r0 r2 left' texts heard d r1.number fresh p e drained (read_on zero))

talk-cut-off : {S : Type 0} (mode : Mode) (talk : TalkOn S) → IsTalk mode talk → (building : Building) (status : ℕ) (r0 r1 : Reader) (left l1 : Option (List ℕ))
    (taken : List ℕ) (did : Spoken) → IsFresh r0 → did.status ≡ status → ReadsModel (Ok building) r0.number r1.number (lines_left r0 left) (lines_left r1 l1)
    → OfLines (lines_left r1 l1) (λ lines. TalkFront (talk building.names building.model) r1.number lines did)
    → Told left (λ input. (runs_of (Some mode)).AnswersFront input (account-of status taken did))
talk-cut-off mode talk m building status r0 r1 None l1 taken did fresh over reading front = tt
talk-cut-off mode talk m building status r0 r1 (Some bytes) l1 taken did fresh over reading front =
    let x = account-of status taken did in
    let said = subst (λ (r : Reader). ReadsModel (Ok building) r.number r1.number (lines_left r (Some bytes)) (lines_left r1 l1)) fresh reading in
    m.front bytes x
    (of-reading talk building r1.number bytes (lines_left r1 l1) (λ t lines. TalkFront t r1.number lines did) (λ r. TalksFront talk r x)
    (λ d rest h. subst (λ (s : Spoken). TalkFront (talk (names_of d) d.model) r1.number rest s) (same-spoken status did over) h) said front)

talk-broken : {S : Type 0} (mode : Mode) (talk : TalkOn S) → IsTalk mode talk → (building : Building) (status : ℕ) (r0 r2 : Reader) (left left' : Option (List ℕ))
    (texts heard : List (List ℕ)) (n : ℕ) (did : Spoken) (d : Description) → IsFresh r0 → (p : Passes r0 r2 left left' (texts ++ heard)) → did.status ≡ status
    → IsBuilding building d → opening_of 0 (text_lines texts) ≡ Described d n [] → TalkGoesOn (talk building.names building.model) n heard did → is_settled r2 ≡ false
    → (runs_of (Some mode)).AnswersSoFar (lines_of (whole_part p.taken)) (account-of status p.taken did)
talk-broken mode talk m building status r0 r2 left left' texts heard n did d fresh p over is e goes unsettled =
    let x = account-of status p.taken did in
    let all : lines_of (whole_part p.taken) ≡ text_lines (texts ++ heard) = whole-lines r0 r2 left left' (texts ++ heard) fresh p unsettled in
    let model : model_of (text_lines (texts ++ heard)) ≡ Described d n (text_lines heard) =
    ap model_of (text_lines-append texts heard) ∙ opening-further 0 (text_lines texts) (text_lines heard) d n [] e in
    let here : TalkGoesOn (talk (names_of d) d.model) n heard (spoken x) =
    as-described talk building d (λ t. TalkGoesOn t n heard (spoken x)) is
    (subst (λ (s : Spoken). TalkGoesOn (talk building.names building.model) n heard s) (same-spoken status did over) goes) in
    m.so_far (lines_of (whole_part p.taken)) x
    (subst (λ (lines : List Line). TalksSoFar talk (model_of lines) (length lines) x) (sym all)
    (subst (λ (r : Reading). TalksSoFar talk r (length (text_lines (texts ++ heard))) x) (sym model) (heard, refl, here)))

-- the lines of the bytes taken begin with those that went by
taken-lines : (r0 r2 : Reader) (left left' : Option (List ℕ)) (texts : List (List ℕ)) → IsFresh r0 → (p : Passes r0 r2 left left' texts)
    → (more : List Line) × (lines_of p.taken ≡ text_lines texts ++ more)
taken-lines r0 r2 left left' texts fresh p = by_end p.whole
  where
    tied : p.taken ≡ p.gone ++ r2.pending
    tied = ap (λ (r : Reader). r.pending ++ p.taken) (sym fresh) ∙ p.tied

    said : lines_of p.gone ≡ text_lines texts
    said = ap (λ (r : Reader). lines_after r.given (pieces p.gone)) (sym fresh) ∙ p.said

    by_end : IsWhole p.gone ⊎ ((r2.ended ≡ true) × (r2.pending ≡ [])) → (more : List Line) × (lines_of p.taken ≡ text_lines texts ++ more)
    by_end (inl whole) = (lines_after (0 + length p.gone) (pieces r2.pending), ap lines_of tied ∙ lines_after-whole 0 p.gone r2.pending texts whole said)
    by_end (inr over) = ([], ap lines_of (tied ∙ ap (λ l. p.gone ++ l) over.1 ∙ append-nil p.gone) ∙ said ∙ sym (append-nil (text_lines texts)))

talk-stopped : {S : Type 0} (talk : TalkOn S) (building : Building) (status : ℕ) (r0 r2 : Reader) (left left' : Option (List ℕ)) (texts heard : List (List ℕ))
    (n : ℕ) (did : Spoken) (d : Description) → IsFresh r0 → (p : Passes r0 r2 left left' (texts ++ heard)) → did.status ≡ status → IsBuilding building d
    → opening_of 0 (text_lines texts) ≡ Described d n [] → ((did.text ≡ []) × (heard ≡ [])) ⊎ TalkWants (talk building.names building.model) n heard did
    → TalksMemory talk (account-of status p.taken did)
talk-stopped talk building status r0 r2 left left' texts heard n did d fresh p over is e (inl nothing) = inl nothing.0
talk-stopped talk building status r0 r2 left left' texts heard n did d fresh p over is e (inr wants) =
    let x = account-of status p.taken did in
    let lines = taken-lines r0 r2 left left' (texts ++ heard) fresh p in
    let here : TalkWants (talk (names_of d) d.model) n heard (spoken x) =
    as-described talk building d (λ t. TalkWants t n heard (spoken x)) is
    (subst (λ (s : Spoken). TalkWants (talk building.names building.model) n heard s) (same-spoken status did over) wants) in
    inr (subst (λ r. TalksWanting talk r x) (sym (ap model_of lines.1 ∙ model-before texts heard lines.0 d n e)) (heard, lines.0, refl, here))

pub talk-held : {S : Type 0} (mode : Mode) (talk : TalkOn S) → IsTalk mode talk → (building : Building) (status : ℕ) (r0 r1 r2 : Reader) (before after : Outside)
    (l1 : Option (List ℕ)) (f1 : Count) → Parts talk building status r0 r1 r2 before after l1 f1 → Runs (Some mode) status before after
talk-held mode talk m building status r0 r1 r2 before after l1 f1 parts =
    let h = parts.held in
    let read = parts.read in
    let left = before.source.bytes in
    let left' = after.source.bytes in
    let p = all-passes talk building status r0 r1 r2 before after l1 f1 parts in
    let few = few-taken r0 r2 left left' (read.texts ++ h.heard) parts.fresh p in
    let d = read.described.0 in
    let is = read.described.2 in
    let e : opening_of 0 (text_lines read.texts) ≡ Described d r1.number [] = described-lines r0 r1 left l1 building parts.fresh read in
    let quiet : f1 ≡ before.source.faults = parts.cause.same (not-failed building) in
    record {
      words = λ two. absurd (h.known.1 two);
      causes = record {
        known = h.known.0;
        reads_same = λ other. h.reads.same other ∙ quiet;
        reads_rose = λ three. subst (λ (n : Count). Rose n after.source.faults) quiet (h.reads.rose three);
        writes_same = h.writes.same;
        writes_rose = h.writes.rose;
      };
      did = account-of status p.taken h.did;
      account = record { answered = refl; taken = p.consumed; few_taken = few; written = h.written; counted = h.counted };
      answered = λ l. told-input m.input left _
          (talk-whole mode talk m building status r0 r1 r2 left l1 left' read.texts h.heard h.did d parts.fresh p h.over parts.reading
          (h.whole (omega (arith, l, h.known.1))) e parts.drained
          (λ zero. as-described talk building d (λ t. IsReadOut r2 ⊎ EndsByQuit t.Quits h.heard) is (h.read_on zero)));
      source = λ three. (let so_far = h.so_far three in
          talk-broken mode talk m building status r0 r2 left left' read.texts h.heard r1.number h.did d parts.fresh p h.over is e so_far.0 so_far.1);
      sink = λ four. told-input m.input left _
          (talk-cut-off mode talk m building status r0 r1 left l1 p.taken h.did parts.fresh h.over parts.reading (h.front four));
      memory = λ five. m.memory _
          (talk-stopped talk building status r0 r2 left left' read.texts h.heard r1.number h.did d parts.fresh p h.over is e (h.no_memory five));
    }

-- ---- the modes

-- where memory is wanting at no line, nothing is written without memory
nothing-written : {S : Type 0} (talk : TalkOn S) → ((names : NameTable) (m : Model) (line : ℕ) (s : S) (text : List ℕ) → ¬ (talk names m).Wants line s text)
    → (x : Account) → TalksMemory talk x → x.written ≡ []
nothing-written talk never x (inl nothing) = nothing
nothing-written talk never x (inr wants) = absurd (by_reading (model_of (lines_of x.taken)) wants)
  where
    by_reading : (r : Reading) → TalksWanting talk r x → ⊥
    by_reading (Described d last rest) (heard, more, parts, w) = never (names_of d) d.model _ w.replies.after w.line w.wants
    by_reading (Refused code line) w = w

pub session-talks : IsTalk Session session
unfolding runs_of
session-talks = record {
  input = refl;
  answers = λ input x talks reads_on. (talks, reads_on);
  talks = λ input x h. h.0;
  so_far = λ lines x h. h;
  front = λ input x h. h;
  memory = nothing-written session (λ names m line s text wants. wants);
}

pub study-talks : IsTalk Study study
unfolding runs_of
study-talks = record {
  input = refl;
  answers = λ input x talks reads_on. (talks, reads_on);
  talks = λ input x h. h.0;
  so_far = λ lines x h. h;
  front = λ input x h. h;
  memory = nothing-written study (λ names m line s text wants. wants);
}

pub replan-talks : IsTalk Replan replan
unfolding runs_of
replan-talks = record {
  input = refl;
  answers = λ input x talks reads_on. (talks, reads_on);
  talks = λ input x h. h.0;
  so_far = λ lines x h. h;
  front = λ input x h. h;
  memory = λ x h. h;
}
