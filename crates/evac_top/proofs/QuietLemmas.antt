-- Lines after a building that say nothing: in a session they get nothing, and before a block they change nothing.
use Rattle.std.specs.declared.option.Option.{Option}
use Rattle.std.specs.List.{All, filter}
use Rattle.std.specs.Str.{bytes_eq}
use Rattle.std.proofs.Common.{◌≡◌, ℕ, ◌+◌, Bool, true, false, cond, List, [], ◌∷◌, ◌++◌, length, map, codes, Result, Ok, Err, Some, None, refl, sym, ap, subst, ◌∙◌, arith, append_assoc, length-append}
use Rattle.std.proofs.lemmas.List.Elements.{All-cons, All-head, All-nil, All-tail}
use Rattle.evac_law.specs.declared.code.Code.TheVariants.{TextAfterEnd}
use Rattle.evac_law.specs.declared.model.Model.{Model}
use Rattle.line_io.specs.Line.{Line, text_lines}
use Rattle.line_io.proofs.PassLemmas.{text_lines-append}
use Rattle.model_text.specs.declared.command.Command.TheVariants as commands
use Rattle.model_text.specs.declared.fault.TextFault.{TextFault}
use Rattle.model_text.specs.Commands.{command_of, command_of_fields}
use Rattle.model_text.specs.Fields.{behind_field, fields_of}
use Rattle.model_text.specs.Grammar.{◌>>=◌, Blank, Header, Part, Said, as_statement, end, header, is_comment, number_field, of_fields, one_field, part_by_word, statement_of}
use Rattle.model_text.specs.Readings.{Described, Ended, Moved, ReadingState, Step, Stopped, after_step, reading_at, step_at}
use Rattle.model_text.specs.Taken.{Description}
use Rattle.certificate_text.specs.declared.block.Block.{Block}
use Rattle.certificate_text.specs.declared.entry.Entry.{Entry}
use Rattle.certificate_text.specs.declared.entry.Entry.TheVariants as entries
use Rattle.certificate_text.specs.BlockReadings as blocks
use Rattle.certificate_text.specs.BlockReadings.{ReadsAs, Says, as_said, said_by, says_something}
use Rattle.certificate_text.specs.Entries.{entry_of, entry_of_fields}
use Rattle.evac_top.specs.Inputs.{says_nothing, tail_fault}

-- ---- one line

-- a line asks for nothing in a session, and says nothing in a block
abbrev pub IsQuiet : List ℕ → Type 0
IsQuiet text = (command_of text ≡ Ok commands.Blank) × (entry_of text ≡ Some entries.Blank)

then-says : {A : Type 0} (r : Result A TextFault) (f : A → Result Said TextFault) → ((a : A) → says_nothing (f a) ≡ false) → says_nothing (r >>= f) ≡ false
then-says (Ok a) f h = h a
then-says (Err fault) f h = refl

header-says : (fields : List (List ℕ)) → says_nothing (header fields) ≡ false
header-says fields =
    then-says (one_field fields) (λ f. number_field f >>= λ v. Ok (Header v)) (λ f. then-says (number_field f) (λ v. Ok (Header v)) (λ v. refl))

end-says : (fields : List (List ℕ)) → says_nothing (end fields) ≡ false
end-says [] = refl
end-says (field ∷ fields) = refl

either-says : (c : Bool) (a b : Result Said TextFault) → says_nothing a ≡ false → says_nothing b ≡ false → says_nothing (cond c a b) ≡ false
either-says true a b h g = h
either-says false a b h g = g

comment-by : (c : Bool) (other : Result Said TextFault) → says_nothing other ≡ false → says_nothing (cond c (Ok Blank) other) ≡ true → c ≡ true
comment-by true other h e = refl
comment-by false other h e = cc

where-true : {A : Type 0} (c : Bool) (a b : A) → c ≡ true → cond c a b ≡ a
where-true true a b e = refl
where-true false a b e = absurd (cc)

-- what a line says by its first word, where that makes it no comment
abbrev said-by-word : List ℕ → List ℕ → Result Said TextFault
said-by-word word rest =
    cond (bytes_eq word (codes "evacplan")) (header (fields_of rest))
    (cond (bytes_eq word (codes "end")) (end (fields_of rest)) (as_statement (part_by_word word rest)))

word-says : (word rest : List ℕ) → says_nothing (said-by-word word rest) ≡ false
word-says word rest =
    let part = as_statement (part_by_word word rest) in
    let ends = cond (bytes_eq word (codes "end")) (end (fields_of rest)) part in
    let says : says_nothing part ≡ false = then-says (part_by_word word rest) (λ p. Ok (Part p)) (λ p. refl) in
    either-says (bytes_eq word (codes "evacplan")) (header (fields_of rest)) ends (header-says (fields_of rest))
    (either-says (bytes_eq word (codes "end")) (end (fields_of rest)) part (end-says (fields_of rest)) says)

quiet-fields : (fields more : List (List ℕ)) (rest : List ℕ) → says_nothing (of_fields fields rest) ≡ true
    → (command_of_fields fields more ≡ Ok commands.Blank) × (entry_of_fields fields ≡ Some entries.Blank)
quiet-fields [] more rest h = (refl, refl)
quiet-fields (word ∷ fields) more rest h =
    let comment : is_comment word ≡ true = comment-by (is_comment word) (said-by-word word rest) (word-says word rest) h in
    (where-true (is_comment word) _ _ comment, where-true (is_comment word) _ _ comment)

quiet-line : (text : List ℕ) → says_nothing (statement_of text) ≡ true → IsQuiet text
unfolding statement_of command_of entry_of
quiet-line text h = quiet-fields (fields_of text) (fields_of (behind_field text)) (behind_field text) h

-- ---- the lines after a building

-- these lines have no fault of their own, and none says anything
pub record AreQuiet (lines : List Line) : Type 0 where
  pub texts : List (List ℕ)
  pub parts : lines ≡ text_lines texts
  pub quiet : All IsQuiet texts

one-more : (text : List ℕ) (lines : List Line) → IsQuiet text → AreQuiet lines → AreQuiet (Ok text ∷ lines)
one-more text lines quiet h = record {
  texts = text ∷ h.texts;
  parts = ap (λ (ls : List Line). Ok text ∷ ls) h.parts;
  quiet = All-cons IsQuiet text h.texts quiet h.quiet;
}

pub quiet-tail : (before : ℕ) (lines : List Line) → tail_fault before lines ≡ None → AreQuiet lines
unfolding tail_fault
quiet-tail before [] h = record { texts = []; parts = refl; quiet = All-nil IsQuiet }
quiet-tail before (Err code ∷ lines) h = absurd (cc)
quiet-tail before (Ok text ∷ lines) h = by (says_nothing (statement_of text)) refl h (quiet-tail (before + 1) lines)
  where
    by : (none : Bool) → says_nothing (statement_of text) ≡ none → cond none (tail_fault (before + 1) lines) (Some (TextAfterEnd, before + 1)) ≡ None
        → (tail_fault (before + 1) lines ≡ None → AreQuiet lines) → AreQuiet (Ok text ∷ lines)
    by true e h more = one-more text lines (quiet-line text e) (more h)
    by false e h more = absurd (cc)

-- the lines that describe a building, up to its end, have no fault of their own
pub lines-described : (state : ReadingState) (before : ℕ) (lines : List Line) (d : Description) (last : ℕ) (rest : List Line)
    → reading_at state before lines ≡ Described d last rest → (texts : List (List ℕ)) × (lines ≡ text_lines texts ++ rest)
unfolding reading_at
lines-described state before [] d last rest h = absurd (cc)
lines-described state before (Err code ∷ lines) d last rest h = absurd (cc)
lines-described state before (Ok text ∷ lines) d last rest h =
    by (step_at state (Ok text)) (λ next. lines-described next (before + 1) lines d last rest) h
  where
    by : (step : Step) → ((next : ReadingState) → reading_at next (before + 1) lines ≡ Described d last rest → (texts : List (List ℕ)) × (lines ≡ text_lines texts ++ rest))
        → after_step step (before + 1) lines (λ next. reading_at next (before + 1) lines) ≡ Described d last rest
        → (texts : List (List ℕ)) × (Ok text ∷ lines ≡ text_lines texts ++ rest)
    by (Moved next) more e = let m = more next e in (text ∷ m.0, ap (λ (ls : List Line). Ok text ∷ ls) m.1)
    by (Ended building) more e = let same : lines ≡ rest = cc in (text ∷ [], ap (λ (ls : List Line). Ok text ∷ ls) same)
    by (Stopped code) more e = absurd (cc)

-- ---- before a block

quiet-said : (quiet texts : List (List ℕ)) → All IsQuiet quiet → said_by (quiet ++ texts) ≡ said_by texts
unfolding said_by
quiet-said [] texts all = refl
quiet-said (text ∷ quiet) texts all =
    ap (λ (e : Option Entry). filter says_something (e ∷ map entry_of (quiet ++ texts))) (All-head IsQuiet text quiet all).1
    ∙ quiet-said quiet texts (All-tail IsQuiet text quiet all)

quiet-says : (m : Model) (quiet texts : List (List ℕ)) (b : Block) (left : List Entry) → All IsQuiet quiet → Says m texts b left → Says m (quiet ++ texts) b left
quiet-says m quiet texts b left all h = record {
  is_block = h.is_block;
  all_labels = h.all_labels;
  entries = h.entries ∙ ap (λ said. said ++ as_said left) (sym (quiet-said quiet texts all));
}

-- lines that state a block state it after quiet ones too
pub quiet-reads : (m : Model) (before : ℕ) (quiet : List (List ℕ)) (lines : List Line) (b : Block) (finish : ℕ) (rest : List Line) → All IsQuiet quiet
    → ReadsAs m (before + length quiet) lines (blocks.Stated b finish rest) → ReadsAs m before (text_lines quiet ++ lines) (blocks.Stated b finish rest)
quiet-reads m before quiet lines b finish rest all h = record {
  texts = quiet ++ h.texts;
  behind = h.behind;
  parts = ap (λ ls. text_lines quiet ++ ls) h.parts ∙ sym (append_assoc (text_lines quiet) (text_lines h.texts) h.behind)
      ∙ ap (λ ls. ls ++ h.behind) (sym (text_lines-append quiet h.texts));
  begins = record {
    block = h.begins.block;
    next = h.begins.next;
    left = h.begins.left;
    says = quiet-says m quiet h.texts h.begins.block (h.begins.next ∷ h.begins.left) all h.begins.says;
  };
  ends = (
    omega (arith, h.ends.0, length-append quiet h.texts),
    (
      h.ends.1.0,
      h.ends.1.1,
      subst (λ texts. Says m texts b []) (sym (append_assoc quiet h.texts (h.ends.1.0 ∷ []))) (quiet-says m quiet (h.texts ++ (h.ends.1.0 ∷ [])) b [] all h.ends.1.2),
    ),
  );
}
