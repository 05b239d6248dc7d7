-- A reader that goes on line by line.
use Rattle.std.proofs.Common.{◌≡◌, ℕ, ◌+◌, Bool, true, false, cond, List, [], ◌∷◌, ◌++◌, length, Result, Ok, Err, Some, None, refl, sym, ap, ap₂, ◌∙◌, arith, append-nil, append_assoc, inl, inr, ◌⊎◌}
use Rattle.std.specs.declared.option.Option.{Option}
use Rattle.std.proofs.KnownBytes.{Consumes-nil, Consumes-trans}
use Rattle.std.proofs.lemmas.List.{length-append}
use Rattle.std.specs.Prelude.{nat_lt, ◌≤◌}
use Rattle.evac_law.specs.declared.code.Code.{Code}
use Rattle.evac_law.specs.declared.code.Code.TheVariants as codes
use Rattle.line_io.specs.declared.limits.TheConstants.{BUFFER_SIZE}
use Rattle.line_io.specs.Line.{Line, IsWhole, content, input_limit, line_limit, lines_after, pieces, text_lines, line_of, then_lines}
use Rattle.line_io.specs.declared.lines.Found.{Found}
use Rattle.line_io.specs.Reader.{Gives, HasRoom, lines_left, Answers, GivesAway, StaysAt, is_settled, pending_lines, settled_answer, answer_at, taken_lines}
use Rattle.line_io.specs.View.{Reader}
use Rattle.line_io.specs.declared.lines.Found.TheVariants.{Text, End}
use Rattle.line_io.specs.declared.lines.LineFault.{LineFault}
use Rattle.line_io.specs.declared.lines.LineFault.TheVariants.{ReadFault, LineTooLong, InputTooLong}
use Rattle.line_io.proofs.LineLemmas.{IsWhole-nil, IsWhole-append, lines_after-whole}
use Rattle.line_io.proofs.Pieces.{pieces-first}
use Rattle.line_io.specs.Passes.{Follows, IsLeft, Passes}

-- ---- bytes and lines

pub text_lines-append : (xs ys : List (List ℕ)) → text_lines (xs ++ ys) ≡ text_lines xs ++ text_lines ys
text_lines-append [] ys = refl
text_lines-append (x ∷ xs) ys = ap (λ l. Ok x ∷ l) (text_lines-append xs ys)

follows-none : (lines : Option (List Line)) → Follows [] lines lines
follows-none None = tt
follows-none (Some xs) = refl

follows-then : (xs ys : List (List ℕ)) (a b c : Option (List Line)) → Follows xs a b → Follows ys b c → Follows (xs ++ ys) a c
follows-then xs ys None b c h k = tt
follows-then xs ys (Some l) None c h k = absurd h
follows-then xs ys (Some l) (Some m) None h k = absurd k
follows-then xs ys (Some l) (Some m) (Some n) h k =
    h ∙ ap (λ z. text_lines xs ++ z) k ∙ sym (append_assoc (text_lines xs) (text_lines ys) n) ∙ ap (λ z. z ++ n) (sym (text_lines-append xs ys))

-- no bytes have no lines
pub lines_after-nil : (before : ℕ) → lines_after before (pieces []) ≡ []
unfolding lines_after pieces
lines_after-nil before = refl

tied-then : (a x b y c g h : List ℕ) → a ++ x ≡ g ++ b → b ++ y ≡ h ++ c → a ++ (x ++ y) ≡ (g ++ h) ++ c
tied-then a x b y c g h first second =
    sym (append_assoc a x y) ∙ ap (λ l. l ++ y) first ∙ append_assoc g b y ∙ ap (λ l. g ++ l) second ∙ sym (append_assoc g h c)

-- ---- no line, and lines after lines

-- no line went by
pub passes-none : (r : Reader) (left : Option (List ℕ)) → Passes r r left left []
passes-none r left = record {
  taken = [];
  gone = [];
  consumed = Consumes-nil left;
  tied = append-nil r.pending;
  counted = omega arith;
  said = lines_after-nil r.given;
  number = omega arith;
  whole = inl IsWhole-nil;
  closed = λ ended empty. (refl, refl, ended, empty);
  follows = follows-none (lines_left r left);
  room = λ h. h;
}

abbrev pub IsClosed : Reader → Type 0
IsClosed r = (r.ended ≡ true) × (r.pending ≡ [])

-- the lines of both parts: where the first isn't whole, the second is empty
said-then : (n m : ℕ) (g h : List ℕ) (xs ys : List (List ℕ)) → lines_after n (pieces g) ≡ text_lines xs → m ≡ n + length g → lines_after m (pieces h) ≡ text_lines ys
    → IsWhole g ⊎ ((h ≡ []) × (ys ≡ [])) → lines_after n (pieces (g ++ h)) ≡ text_lines (xs ++ ys)
said-then n m g h xs ys first count second (inl whole) = grind (arith, lines_after-whole, text_lines-append)
said-then n m g h xs ys first count second (inr none) = grind (arith, append-nil)

whole-then : (g h : List ℕ) (b c : Reader) → IsWhole g ⊎ IsClosed b → IsWhole h ⊎ IsClosed c → (b.ended ≡ true → b.pending ≡ [] → IsClosed c) → IsWhole (g ++ h) ⊎ IsClosed c
whole-then g h b c (inl w) (inl v) closed = inl (IsWhole-append g h w v)
whole-then g h b c (inl w) (inr e) closed = inr e
whole-then g h b c (inr e) k closed = inr (closed e.0 e.1)

part-of : (g h : List ℕ) (ys : List (List ℕ)) (b : Reader) → IsWhole g ⊎ IsClosed b
    → ((b.ended ≡ true) → (b.pending ≡ []) → (h ≡ []) × (ys ≡ [])) → IsWhole g ⊎ ((h ≡ []) × (ys ≡ []))
part-of g h ys b (inl w) closed = inl w
part-of g h ys b (inr e) closed = inr (closed e.0 e.1)

-- lines went by, and then further ones
pub passes-then : (a b c : Reader) (l m n : Option (List ℕ)) (xs ys : List (List ℕ)) → Passes a b l m xs → Passes b c m n ys → Passes a c l n (xs ++ ys)
passes-then a b c l m n xs ys p q = record {
  taken = p.taken ++ q.taken;
  gone = p.gone ++ q.gone;
  consumed = Consumes-trans l m n p.taken q.taken p.consumed q.consumed;
  tied = tied-then a.pending p.taken b.pending q.taken c.pending p.gone q.gone p.tied q.tied;
  counted = let e = p.counted in let f = q.counted in let g = length-append p.gone q.gone in omega arith;
  said = said-then a.given b.given p.gone q.gone xs ys p.said p.counted q.said (part-of p.gone q.gone ys b p.whole (λ e f. let k = q.closed e f in (k.0, k.1)));
  number = let e = p.number in let f = q.number in let g = length-append xs ys in omega arith;
  whole = whole-then p.gone q.gone b c p.whole q.whole (λ e f. let k = q.closed e f in (k.2, k.3));
  closed = λ e f. let k = p.closed e f in let j = q.closed k.2 k.3 in
      ((let g : p.gone ++ q.gone ≡ [] = ap₂ (λ x y. x ++ y) k.0 j.0 in g), (let g : xs ++ ys ≡ [] = ap₂ (λ x y. x ++ y) k.1 j.1 in g), j.2, j.3);
  follows = follows-then xs ys (lines_left a l) (lines_left b m) (lines_left c n) p.follows q.follows;
  room = λ h. q.room (p.room h);
}

-- ---- one call of the reader

-- a closed reader is settled, and finds the end
closed-answer : (r : Reader) → r.ended ≡ true → r.pending ≡ [] → settled_answer r ≡ Ok End
unfolding lines_after pieces
closed-answer r ended empty = ap (λ p. answer_at (lines_after r.given (pieces p))) empty

closed-settled : (r : Reader) → r.ended ≡ true → is_settled r ≡ true
closed-settled r ended = rw ended refl

-- what an answer says of the lines left before it and after it
pub follows-by : (result : Result Found LineFault) (t : List ℕ) (texts : List (List ℕ)) → ((x y : List Line) → Gives result t x y → x ≡ text_lines texts ++ y)
    → (before after : Option (List Line)) → Answers result t before after → Follows texts before after
follows-by result t texts gives None after h = tt
follows-by result t texts gives (Some x) None h = absurd h
follows-by result t texts gives (Some x) (Some y) h = gives x y h

pub left-by : (result : Result Found LineFault) (t : List ℕ) (rest : List Line) → ((x y : List Line) → Gives result t x y → y ≡ rest)
    → (before after : Option (List Line)) → Answers result t before after → IsLeft before after rest
left-by result t rest gives None after h = tt
left-by result t rest gives (Some x) None h = tt
left-by result t rest gives (Some x) (Some y) h = gives x y h

-- a line was found
pub passes-text : (result : Result Found LineFault) (b c : Reader) (m n : Option (List ℕ)) → result ≡ Ok Text → GivesAway result b c m n → Answers result c.text (lines_left b m) (lines_left c n)
    → c.number ≡ b.number + 1 → (is_settled b ≡ true → result ≡ settled_answer b) → HasRoom c → Passes b c m n (c.text ∷ [])
unfolding lines_after
passes-text result b c m n is gives answers number settled room = grind (arith, closed-settled, closed-answer, follows-by)

then-answer : (l : Line) (ls : List Line) → answer_at (then_lines l ls) ≡ Ok End → ⊥
then-answer (Ok t) ls h = cc
then-answer (Err code) ls h = cc

cons-answer : (n : ℕ) (p : List ℕ) (ps : List (List ℕ)) → answer_at (lines_after n (p ∷ ps)) ≡ Ok End → ⊥
unfolding lines_after
cons-answer n p ps h = then-answer (line_of (n + length p) p) (lines_after (n + length p) ps) h

-- where the pending bytes have no line, there are none
none-pending : (n : ℕ) (bs : List ℕ) → answer_at (lines_after n (pieces bs)) ≡ Ok End → bs ≡ []
none-pending n [] h = refl
none-pending n (b ∷ bs) h = let e = pieces-first (b ∷ bs) (omega arith) in absurd (cons-answer n _ _ (rw e at h))

-- no line was found: no byte went away
passes-nothing : (result : Result Found LineFault) (b c : Reader) (m n : Option (List ℕ)) (away : GivesAway result b c m n) → away.gone ≡ [] → c.number ≡ b.number
    → (b.ended ≡ true → b.pending ≡ [] → IsClosed c) → Follows [] (lines_left b m) (lines_left c n) → HasRoom c → Passes b c m n []
passes-nothing result b c m n away none number closed follows room = record {
  taken = away.taken;
  gone = [];
  consumed = away.consumed;
  tied = away.tied ∙ ap (λ g. g ++ c.pending) none;
  counted = away.counted ∙ ap (λ g. b.given + length g) none;
  said = lines_after-nil b.given;
  number = omega arith;
  whole = inl IsWhole-nil;
  closed = λ e f. (refl, refl, (closed e f).0, (closed e f).1);
  follows = follows;
  room = λ _. room;
}

pub passes-end : (b c : Reader) (m n : Option (List ℕ)) → GivesAway (Ok End) b c m n → Answers (Ok End) c.text (lines_left b m) (lines_left c n) → c.number ≡ b.number
    → IsClosed c → HasRoom c → Passes b c m n []
passes-end b c m n away answers number closed room =
    passes-nothing (Ok End) b c m n away away.line number (λ _ _. closed) (follows-by (Ok End) c.text [] (λ x y h. sym h.1) (lines_left b m) (lines_left c n) answers) room

gives-fault : (f : LineFault) (t : List ℕ) (before after : List Line) → Gives (Err f) t before after → before ≡ after
gives-fault ReadFault t before after h = sym h
gives-fault LineTooLong t before after h = sym h.1
gives-fault InputTooLong t before after h = sym h.1

pub passes-fault : (f : LineFault) (b c : Reader) (m n : Option (List ℕ)) → GivesAway (Err f) b c m n → Answers (Err f) c.text (lines_left b m) (lines_left c n) → c.number ≡ b.number
    → (is_settled b ≡ true → Err f ≡ settled_answer b) → HasRoom c → Passes b c m n []
passes-fault f b c m n away answers number settled room =
    passes-nothing (Err f) b c m n away away.line number (λ e g. let found : Err f ≡ Ok End = settled (closed-settled b e) ∙ closed-answer b e g in cc)
    (follows-by (Err f) c.text [] (gives-fault f c.text) (lines_left b m) (lines_left c n) answers) room

-- ---- lines of the bytes that were taken

pub none-pending-lines : (r : Reader) → r.pending ≡ [] → pending_lines r ≡ []
none-pending-lines r empty = ap (λ z. lines_after r.given (pieces z)) empty ∙ lines_after-nil r.given

-- they are the lines that went by, and those of the bytes that are pending
pub passes-taken : (a c : Reader) (l n : Option (List ℕ)) (xs : List (List ℕ)) (p : Passes a c l n xs) → taken_lines a p.taken ≡ text_lines xs ++ pending_lines c
passes-taken a c l n xs p = grind (arith, lines_after-whole, append-nil, none-pending-lines)

-- no more is taken than an input may have, and a buffer
pub passes-few : (a c : Reader) (l n : Option (List ℕ)) (xs : List (List ℕ)) (p : Passes a c l n xs) → HasRoom a → a.given + length a.pending + length p.taken ≤ input_limit + BUFFER_SIZE
passes-few a c l n xs p room =
    let there = p.room room in
    omega (arith, ap length p.tied, length-append a.pending p.taken, length-append p.gone c.pending, p.counted, there.pending, there.given)

-- the code of a fault
abbrev pub code_of : LineFault → Code
code_of InputTooLong = codes.InputTooLong
code_of _ = codes.LineTooLong

fault-last : (fault : LineFault) (long far : Bool) (text : List ℕ) (ls : List Line) → answer_at (then_lines (cond long (Err codes.LineTooLong) (cond far (Err codes.InputTooLong) (Ok text))) ls) ≡ Err fault
    → then_lines (cond long (Err codes.LineTooLong) (cond far (Err codes.InputTooLong) (Ok text))) ls ≡ Err (code_of fault) ∷ []
fault-last fault true far text ls h = let e : LineTooLong ≡ fault = cc in ap (λ f. Err (code_of f) ∷ []) e
fault-last fault false true text ls h = let e : InputTooLong ≡ fault = cc in ap (λ f. Err (code_of f) ∷ []) e
fault-last fault false false text ls h = absurd cc

-- a reader that stays at a fault has its line pending
pub pending-fault : (fault : LineFault) (r : Reader) → StaysAt (Err fault) r → pending_lines r ≡ Err (code_of fault) ∷ []
unfolding lines_after
pending-fault fault r stays = by (pieces r.pending) stays.same
  where
    by : (ps : List (List ℕ)) → answer_at (lines_after r.given ps) ≡ Err fault → lines_after r.given ps ≡ Err (code_of fault) ∷ []
    by [] h = absurd cc
    by (p ∷ ps) h =
        fault-last fault (nat_lt line_limit (length (content p))) (nat_lt input_limit (r.given + length p)) (content p) (lines_after (r.given + length p) ps) h

-- a reader that answers the end has nothing pending
pub end-empty : (r : Reader) → StaysAt (Ok End) r → r.pending ≡ []
end-empty r stays = none-pending r.given r.pending stays.same
