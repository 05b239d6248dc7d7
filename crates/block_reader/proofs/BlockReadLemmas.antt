-- Reading a block, line by line.
use Rattle.std.proofs.Common.{◌≡◌, ℕ, ◌+◌, Bool, true, false, List, [], ◌∷◌, ◌++◌, length, Result, Ok, Err, Some, None, IfOk, refl, sym, ap, subst, ◌∙◌, arith, append-nil, append_assoc}
use Rattle.std.specs.Prelude.{⊤}
use Rattle.std.specs.declared.option.Option.{Option}
use Rattle.std.specs.Option.{option_and_then}
use Rattle.std.proofs.lemmas.List.{length-append}
use Rattle.evac_law.specs.declared.code.Code.{Code}
use Rattle.evac_law.specs.declared.code.Code.TheVariants as codes
use Rattle.evac_law.specs.declared.code.Code.TheVariants.{BadBlock}
use Rattle.evac_law.specs.declared.model.Model.{Model}
use Rattle.evac_law.specs.Building.{IsValid}
use Rattle.line_io.specs.Line.{Line, text_lines}
use Rattle.line_io.specs.Reader.{lines_left, pending_lines, taken_lines}
use Rattle.line_io.specs.View.{Reader}
use Rattle.line_io.specs.Hearing.{Listens}
use Rattle.line_io.specs.Passes.{Follows, IsLeft, Passes}
use Rattle.line_io.specs.declared.hearing.Ending.{Ending}
use Rattle.line_io.specs.declared.hearing.Ending.TheVariants as endings
use Rattle.line_io.specs.declared.hearing.Heard.{Heard}
use Rattle.line_io.specs.declared.hearing.Heard.TheVariants.{More, Last}
use Rattle.line_io.specs.declared.lines.LineFault.TheVariants as line_faults
use Rattle.line_io.proofs.LineLemmas.{text_lines-push}
use Rattle.line_io.proofs.PassLemmas.{none-pending-lines, passes-taken}
use Rattle.line_io.proofs.HearingLemmas.{last-number}
use Rattle.certificate_text.specs.declared.entry.Entry.{Entry}
use Rattle.block_reader.specs.declared.fault.TakeFault.{TakeFault}
use Rattle.block_reader.specs.declared.fault.TakeFault.TheVariants.{Bad, Memory}
use Rattle.block_reader.specs.declared.read.BlockReader.{BlockReader}
use Rattle.certificate_text.specs.declared.block.Block.{Block}
use Rattle.block_reader.specs.declared.fault.BlockFault.{BlockFault}
use Rattle.block_reader.specs.declared.fault.BlockFault.TheVariants as faults
use Rattle.certificate_text.specs.Block.{HasAllLabels, IsBlockOf}
use Rattle.certificate_text.specs.BlockReadings.{BlockReading, EndsBlock, ReadsAs, Refused, Refuses, Says, Stated, says_something}
use Rattle.block_reader.specs.BlockReads.{IsFault, IsBlockReading, ReadsBlock, ReadsBlockLines}
use Rattle.block_reader.specs.DraftFacts.{IsDraft}
use Rattle.block_reader.specs.Drafts.{Draft, no_draft, with_entry}
use Rattle.certificate_text.specs.Entries.{entry_of, is_end}
use Rattle.block_reader.specs.Takings.{ConcludesBlock, HearsDraft, HearsBlock}
use Rattle.block_reader.proofs.DraftLemmas.{blank-stays, end-full, entry-next}
use Rattle.block_reader.proofs.EntryLemmas.{entry-fits}
use Rattle.block_reader.proofs.HeardLemmas.{HasHeard, IsHearing, heard-all, heard-begins, heard-none, heard-refused, heard-whole}
use Rattle.block_reader.proofs.OptionLemmas.{some-same}

-- what a reader of no line yet is
abbrev pub IsStart : Model → BlockReader → Type 0
IsStart m r = (r.model.now ≡ m) × (r.builder ≡ no_draft)

-- ---- the lines that were heard

hearing : (m : Model) {ending : Ending TakeFault} {from to : BlockReader} {a c : Reader} {l n : Option (List ℕ)} (h : Listens HearsBlock ending from to a c l n) → IsStart m from → IsHearing m h.at h.texts
hearing m {ending} {from} {to} {a} h start =
    heard-all m from h.at a.number [] h.texts (record { of_model = start.0; so_far = subst (λ (d : Draft). HasHeard m d []) (sym start.1) (heard-none m) }) h.goes

-- what lines are read as where the line answered last ends them
reads-last : (m : Model) {ending : Ending TakeFault} {from to : BlockReader} {a c : Reader} {l n : Option (List ℕ)} (h : Listens HearsBlock ending from to a c l n) → IsValid m → IsHearing m h.at h.texts
    → (text : List ℕ) → h.last ≡ text ∷ [] → (rest : List Line) (r : BlockReading) → EndsBlock m h.texts (Ok text ∷ rest) c.number r
    → ReadsAs m a.number (text_lines (h.texts ++ h.last) ++ rest) r
reads-last m {ending} {from} {to} {a} {c} h valid w text is rest r ends = record {
  texts = h.texts;
  behind = Ok text ∷ rest;
  parts = ap (λ z. text_lines (h.texts ++ z) ++ rest) is ∙ ap (λ z. z ++ rest) (text_lines-push h.texts text) ∙ append_assoc (text_lines h.texts) (Ok text ∷ []) rest;
  begins = heard-begins m h.at.builder h.texts valid w.so_far;
  ends = subst (λ (k : ℕ). EndsBlock m h.texts (Ok text ∷ rest) k r) (sym (last-number h text is)) ends;
}

-- where none was
reads-none : (m : Model) {ending : Ending TakeFault} {from to : BlockReader} {a c : Reader} {l n : Option (List ℕ)} (h : Listens HearsBlock ending from to a c l n) → IsValid m → IsHearing m h.at h.texts
    → h.last ≡ [] → (rest : List Line) (r : BlockReading) → EndsBlock m h.texts rest (c.number + 1) r → ReadsAs m a.number (text_lines (h.texts ++ h.last) ++ rest) r
reads-none m {ending} {from} {to} {a} {c} h valid w is rest r ends = record {
  texts = h.texts;
  behind = rest;
  parts = ap (λ z. text_lines z ++ rest) (ap (λ z. h.texts ++ z) is ∙ append-nil h.texts);
  begins = heard-begins m h.at.builder h.texts valid w.so_far;
  ends = subst (λ (k : ℕ). EndsBlock m h.texts rest k r)
      (let e : c.number + 1 ≡ a.number + length h.texts + 1 = omega (arith, h.passes.number, length-append h.texts h.last, ap (λ (x : List (List ℕ)). length x) is) in e) ends;
}

-- ---- the answer

-- a line is refused, of the lines that went by: with those that are left, and with those of the bytes that are pending
pub record RefusesBlock (m : Model) (first : ℕ) (fault : BlockFault) (r : Reader) (before after : Option (List Line)) (texts : List (List ℕ)) : Type 0 where
  pub code : Code
  pub line : ℕ
  pub rest : List Line
  pub fault_is : IsFault fault code line
  pub left_is : IsLeft before after rest
  pub left : ReadsAs m first (text_lines texts ++ rest) (Refused code line)
  pub pending : ReadsAs m first (text_lines texts ++ pending_lines r) (Refused code line)

-- the answer of a call, for the lines that went by and those that are left
abbrev pub AnswersBlock : Model → ℕ → Result Block BlockFault → Reader → Option (List Line) → Option (List Line) → List (List ℕ) → Type 0
AnswersBlock m first (Ok block) r before after texts = IsBlockOf m block × HasAllLabels block × ((rest : List Line) → ReadsAs m first (text_lines texts ++ rest) (Stated block r.number rest))
AnswersBlock m first (Err faults.ReadFault) r before after texts = ReadsAs m first (text_lines texts) (Refused BadBlock (r.number + 1))
AnswersBlock m first (Err faults.Memory) r before after texts = ⊤
AnswersBlock m first (Err fault) r before after texts = RefusesBlock m first fault r before after texts

-- lines went by, and this is the answer
pub record ReadsBlockBy (m : Model) (result : Result Block BlockFault) (before after : Reader) (left left' : Option (List ℕ)) : Type 0 where
  pub texts : List (List ℕ)
  pub passes : Passes before after left left' texts
  pub answer : AnswersBlock m before.number result after (lines_left before left) (lines_left after left') texts

refuses : (m : Model) (fault : BlockFault) (code : Code) (line : ℕ) {ending : Ending TakeFault} {from to : BlockReader} {a c : Reader} {l n : Option (List ℕ)} (h : Listens HearsBlock ending from to a c l n)
    (Behind : List Line → Type 0) → IsFault fault code line → ((rest : List Line) → Behind rest → ReadsAs m a.number (text_lines (h.texts ++ h.last) ++ rest) (Refused code line)) → Behind h.rest
    → Behind (pending_lines c) → RefusesBlock m a.number fault c (lines_left a l) (lines_left c n) (h.texts ++ h.last)
refuses m fault code line {ending} {from} {to} {a} {c} h behind is refused left pending = record {
  code = code;
  line = line;
  rest = h.rest;
  fault_is = is;
  left_is = h.is_left;
  left = refused h.rest left;
  pending = refused (pending_lines c) pending;
}

-- where the next line has a fault of its own
refuses-fault : (m : Model) (fault : BlockFault) (code : Code) {ending : Ending TakeFault} {from to : BlockReader} {a c : Reader} {l n : Option (List ℕ)} (h : Listens HearsBlock ending from to a c l n)
    → IsValid m → IsHearing m h.at h.texts → IsFault fault code (c.number + 1) → h.last ≡ [] → h.rest ≡ Err code ∷ [] → pending_lines c ≡ Err code ∷ []
    → RefusesBlock m a.number fault c (lines_left a l) (lines_left c n) (h.texts ++ h.last)
refuses-fault m fault code {ending} {from} {to} {a} {c} h valid w is none left pending =
    refuses m fault code (c.number + 1) h (λ rest. rest ≡ Err code ∷ []) is
    (λ rest bad. reads-none m h valid w none rest (Refused code (c.number + 1)) (refl, subst (λ (x : List Line). Refuses m h.texts x code) (sym bad) refl)) left pending

answer-by : (m : Model) (ending : Ending TakeFault) (from to : BlockReader) (a c : Reader) (l n : Option (List ℕ)) (h : Listens HearsBlock ending from to a c l n) → IsValid m
    → IsHearing m h.at h.texts → (result : Result Block BlockFault) → ConcludesBlock m ending to.builder c.number result
    → AnswersBlock m a.number result c (lines_left a l) (lines_left c n) (h.texts ++ h.last)
answer-by m endings.Finished from to a c l n h valid w (Ok block) done = stated h.ends
  where
    stated : (text : List ℕ) × (h.last ≡ text ∷ []) × HearsBlock h.at (a.number + length h.texts + 1) text (Ok Last) to
        → AnswersBlock m a.number (Ok block) c (lines_left a l) (lines_left c n) (h.texts ++ h.last)
    stated (text, last, (same, (e, says, ends, took))) =
        let whole : Says m (h.texts ++ (text ∷ [])) block [] =
        heard-whole m h.at.builder to.builder h.texts text e block w.so_far says ends (subst (λ (x : Model). with_entry x h.at.builder e ≡ Some to.builder) w.of_model took) done in
        (whole.is_block, whole.all_labels, λ rest. reads-last m h valid w text last rest (Stated block c.number rest) (refl, (text, refl, whole)))
answer-by m endings.Finished from to a c l n h valid w (Err fault) done = grind arith
answer-by m (endings.Failed Bad) from to a c l n h valid w result done =
    subst (λ (r : Result Block BlockFault). AnswersBlock m a.number r c (lines_left a l) (lines_left c n) (h.texts ++ h.last)) (sym done) (bad h.ends)
  where
    bad : (text : List ℕ) × (h.last ≡ text ∷ []) × HearsBlock h.at (a.number + length h.texts + 1) text (Err Bad) to
        → AnswersBlock m a.number (Err (faults.Bad c.number)) c (lines_left a l) (lines_left c n) (h.texts ++ h.last)
    bad (text, last, (same, none)) =
        refuses m (faults.Bad c.number) BadBlock c.number h (λ _. Unit {0}) (refl, refl)
        (λ rest _. reads-last m h valid w text last rest (Refused BadBlock c.number)
        (refl, (refl, heard-refused m h.at.builder h.texts text valid w.so_far (subst (λ (x : Model). option_and_then (with_entry x h.at.builder) (entry_of text) ≡ None) w.of_model none)))) tt tt
answer-by m (endings.Failed Memory) from to a c l n h valid w result done = grind arith
answer-by m endings.InputEnded from to a c l n h valid w result done =
    subst (λ (r : Result Block BlockFault). AnswersBlock m a.number r c (lines_left a l) (lines_left c n) (h.texts ++ h.last)) (sym done)
    (refuses m (faults.Bad (c.number + 1)) BadBlock (c.number + 1) h (λ rest. rest ≡ []) (refl, refl)
    (λ rest none. reads-none m h valid w h.ends.0 rest (Refused BadBlock (c.number + 1)) (refl, subst (λ (x : List Line). Refuses m h.texts x BadBlock) (sym none) refl)) h.ends.1 (none-pending-lines c h.rests.1))
answer-by m (endings.Fault line_faults.LineTooLong) from to a c l n h valid w result done =
    subst (λ (r : Result Block BlockFault). AnswersBlock m a.number r c (lines_left a l) (lines_left c n) (h.texts ++ h.last)) (sym done)
    (refuses-fault m (faults.LineTooLong (c.number + 1)) codes.LineTooLong h valid w (refl, refl) h.ends.0 h.ends.1 h.rests)
answer-by m (endings.Fault line_faults.InputTooLong) from to a c l n h valid w result done =
    subst (λ (r : Result Block BlockFault). AnswersBlock m a.number r c (lines_left a l) (lines_left c n) (h.texts ++ h.last)) (sym done)
    (refuses-fault m (faults.InputTooLong (c.number + 1)) codes.InputTooLong h valid w (refl, refl) h.ends.0 h.ends.1 h.rests)
answer-by m (endings.Fault line_faults.ReadFault) from to a c l n h valid w result done =
    subst (λ (r : Result Block BlockFault). AnswersBlock m a.number r c (lines_left a l) (lines_left c n) (h.texts ++ h.last)) (sym done) undecided
  where
    undecided : AnswersBlock m a.number (Err faults.ReadFault) c (lines_left a l) (lines_left c n) (h.texts ++ h.last)
    undecided =
        subst (λ (x : List Line). ReadsAs m a.number x (Refused BadBlock (c.number + 1))) (append-nil (text_lines (h.texts ++ h.last)))
        (reads-none m h valid w h.ends.0 [] (Refused BadBlock (c.number + 1)) (refl, refl))

pub reads-all : (m : Model) (ending : Ending TakeFault) (from to : BlockReader) (a c : Reader) (l n : Option (List ℕ)) → Listens HearsBlock ending from to a c l n → IsValid m → IsStart m from
    → (result : Result Block BlockFault) (k : ℕ) → ConcludesBlock m ending to.builder k result → k ≡ c.number → ReadsBlockBy m result a c l n
reads-all m ending from to a c l n h valid start result k done at = record {
  texts = h.texts ++ h.last;
  passes = h.passes;
  answer = answer-by m ending from to a c l n h valid (hearing m h start) result (subst (λ (j : ℕ). ConcludesBlock m ending to.builder j result) at done);
}

-- what the end of the block needs
pub closed-so : (m : Model) (ending : Ending TakeFault) (from to : BlockReader) (a c : Reader) (l n : Option (List ℕ)) → Listens HearsBlock ending from to a c l n → IsStart m from → ending ≡ endings.Finished
    → IsDraft m to.builder
closed-so m ending from to a c l n listens start is =
    let P : Ending TakeFault → Type 0 = λ e. Listens HearsBlock e from to a c l n in
    let h = subst P is listens in
    let heard = h.ends.2.1 in
    let f = end-full h.at.model.now h.at.builder heard.0 to.builder heard.2 heard.3 in
    subst (λ (d : Draft). IsDraft m d) (sym f.2) (hearing m h start).so_far.at.draft

ready-by : (m : Model) (d new : Draft) (text : List ℕ) (e : Entry) (b : Bool) → IsDraft m d → entry_of text ≡ Some e → is_end e ≡ false → with_entry m d e ≡ Some new → says_something (Some e) ≡ b → IsDraft m new
ready-by m d new text e true is says other took something = (entry-next m d e new (record { is_said = something; no_end = other }) (entry-fits text e says) is took).draft
ready-by m d new text e false is says other took blank = subst (λ (x : Draft). IsDraft m x) (some-same d new (sym (blank-stays m d e blank) ∙ took)) is

-- a reader that goes on can hear a line
pub ready-on : (result : Result Heard TakeFault) (m : Model) (d new : Draft) (text : List ℕ) → IsDraft m d → HearsDraft m text result d new → result ≡ Ok More → IsDraft m new
ready-on (Ok More) m d new text is (e, says, other, took) q = ready-by m d new text e (says_something (Some e)) is says other took refl
ready-on (Ok Last) m d new text is heard q = cc
ready-on (Err f) m d new text is heard q = cc

-- ---- what the answers say

fault-line : (m : Model) (first last : ℕ) (f : BlockFault) (before : List Line) (code : Code) (line : ℕ) → IsFault f code line → ReadsAs m first before (Refused code line) → (after : List Line)
    → IsBlockReading m (Err f) first last before after
fault-line m first last (faults.Bad line) before code number f e after = subst (ReadsAs m first before) (ap (λ k. Refused k number) f.0 ∙ ap (λ k. Refused BadBlock k) (sym f.1)) e
fault-line m first last (faults.LineTooLong line) before code number f e after = subst (ReadsAs m first before) (ap (λ k. Refused k number) f.0 ∙ ap (λ k. Refused codes.LineTooLong k) (sym f.1)) e
fault-line m first last (faults.InputTooLong line) before code number f e after = subst (ReadsAs m first before) (ap (λ k. Refused k number) f.0 ∙ ap (λ k. Refused codes.InputTooLong k) (sym f.1)) e
fault-line m first last faults.ReadFault before code number f e after = tt
fault-line m first last faults.Memory before code number f e after = tt

reading-fault : (m : Model) (first : ℕ) (c : Reader) (f : BlockFault) (xs ys : List Line) (texts : List (List ℕ)) → Follows texts (Some xs) (Some ys)
    → RefusesBlock m first f c (Some xs) (Some ys) texts → IsBlockReading m (Err f) first c.number xs ys
reading-fault m first c f xs ys texts follows r = grind (arith, fault-line, texts)

reading-by : (m : Model) (first : ℕ) (c : Reader) (x y : Option (List Line)) (texts : List (List ℕ)) (result : Result Block BlockFault) → Follows texts x y
    → AnswersBlock m first result c x y texts → ReadsBlock m result first c.number x y
reading-by m first c None y texts result f h = tt
reading-by m first c (Some xs) None texts result f h = absurd f
reading-by m first c (Some xs) (Some ys) texts (Ok block) f h = subst (λ (x : List Line). ReadsAs m first x (Stated block c.number ys)) (sym f) (h.2 ys)
reading-by m first c (Some xs) (Some ys) texts (Err faults.ReadFault) f h = tt
reading-by m first c (Some xs) (Some ys) texts (Err faults.Memory) f h = tt
reading-by m first c (Some xs) (Some ys) texts (Err fault) f h = reading-fault m first c fault xs ys texts f h

pub reads-block : (m : Model) (a c : Reader) (l n : Option (List ℕ)) (result : Result Block BlockFault) → ReadsBlockBy m result a c l n
    → ReadsBlock m result a.number c.number (lines_left a l) (lines_left c n)
reads-block m a c l n result r = reading-by m a.number c (lines_left a l) (lines_left c n) r.texts result r.passes.follows r.answer

-- a fault has one code and one line
one-fault : (f : BlockFault) (code : Code) (line : ℕ) (k : Code) (at : ℕ) → IsFault f code line → IsFault f k at → Refused code line ≡ Refused k at
one-fault faults.ReadFault code line k at h i = absurd h
one-fault faults.Memory code line k at h i = absurd h
one-fault f code line k at h i = cc

lines-err : (m : Model) (f : BlockFault) (a c : Reader) (l n : Option (List ℕ)) (texts : List (List ℕ)) (p : Passes a c l n texts)
    → (f ≡ faults.ReadFault → ReadsAs m a.number (text_lines texts) (Refused BadBlock (c.number + 1)))
    → ((code : Code) (line : ℕ) → IsFault f code line → ReadsAs m a.number (taken_lines a p.taken) (Refused code line)) → ReadsBlockLines m (Err f) a c l n
lines-err m f a c l n texts p undecided refused = record {
  texts = texts;
  passes = p;
  undecided = λ e. undecided (let same : f ≡ faults.ReadFault = cc in same);
  refused = λ g code line e is. refused code line (subst (λ (x : BlockFault). IsFault x code line) (let same : g ≡ f = cc in same) is);
  stated = tt;
}

lines-fault : (m : Model) (f : BlockFault) (a c : Reader) (l n : Option (List ℕ)) (texts : List (List ℕ)) → Passes a c l n texts → (f ≡ faults.ReadFault → ⊥)
    → RefusesBlock m a.number f c (lines_left a l) (lines_left c n) texts → ReadsBlockLines m (Err f) a c l n
lines-fault m f a c l n texts p other h =
    lines-err m f a c l n texts p (λ e. absurd (other e)) (λ code line is.
    subst (λ (x : List Line). ReadsAs m a.number x (Refused code line)) (sym (passes-taken a c l n texts p))
    (subst (ReadsAs m a.number _) (one-fault f h.code h.line code line h.fault_is is) h.pending))

lines-by : (m : Model) (a c : Reader) (l n : Option (List ℕ)) (texts : List (List ℕ)) (p : Passes a c l n texts) (result : Result Block BlockFault)
    → AnswersBlock m a.number result c (lines_left a l) (lines_left c n) texts → ReadsBlockLines m result a c l n
lines-by m a c l n texts p (Ok block) h = record {
  texts = texts;
  passes = p;
  undecided = λ e. cc;
  refused = λ g code line e is. cc;
  stated = subst (λ (x : List Line). ReadsAs m a.number x (Stated block c.number [])) (append-nil (text_lines texts)) (h.2 []);
}
lines-by m a c l n texts p (Err faults.ReadFault) h = lines-err m faults.ReadFault a c l n texts p (λ _. h) (λ code line is. absurd is)
lines-by m a c l n texts p (Err faults.Memory) h = lines-err m faults.Memory a c l n texts p (λ e. cc) (λ code line is. absurd is)
lines-by m a c l n texts p (Err f) h = lines-fault m f a c l n texts p (λ e. cc) h

pub reads-lines : (m : Model) (a c : Reader) (l n : Option (List ℕ)) (result : Result Block BlockFault) → ReadsBlockBy m result a c l n → ReadsBlockLines m result a c l n
reads-lines m a c l n result r = lines-by m a c l n r.texts r.passes result r.answer

pub reads-fits : (m : Model) (a c : Reader) (l n : Option (List ℕ)) (result : Result Block BlockFault) → ReadsBlockBy m result a c l n → IfOk result (λ block. IsBlockOf m block)
reads-fits m a c l n (Ok block) r = r.answer.0
reads-fits m a c l n (Err f) r = tt

pub reads-labels : (m : Model) (a c : Reader) (l n : Option (List ℕ)) (result : Result Block BlockFault) → ReadsBlockBy m result a c l n → IfOk result (λ block. HasAllLabels block)
reads-labels m a c l n (Ok block) r = r.answer.1
reads-labels m a c l n (Err f) r = tt
