-- Lines with their ends, cut apart again.
use Rattle.std.proofs.Common.{◌≡◌, ℕ, ◌+◌, ◌≤◌, Bool, true, false, ◌&&◌, ◌||◌, ◌==◌, cond, nat_eq, List, [], ◌∷◌, ◌++◌, length, Ok, refl, sym, ap, subst, ◌∙◌, arith, append_assoc, length-append, eq-eqb}
use Rattle.std.specs.List.{All, ends_with, flat_map, list_any}
use Rattle.std.proofs.lemmas.Bool.{or_parts}
use Rattle.std.proofs.lemmas.List.Elements.{All-head, All-tail}
use Rattle.line_io.specs.Line.{content, input_limit, is_lf, line_limit, line_of, lines_after, pieces, text_lines, then_lines, without_last}
use Rattle.line_io.proofs.PassLemmas.{lines_after-nil}
use Rattle.line_io.proofs.Pieces.{line-good}
use Rattle.building_table.proofs.EqLemmas.{test-swap}
use Rattle.certificate_text.proofs.LineTexts.{lines-more, pieces-line}
use Rattle.model_writer.specs.Laws.{IsContent}
use Rattle.model_writer.specs.ModelText.{ended, line_end}

-- ---- a piece without its end

drops-last : (c : ℕ) (xs : List ℕ) → without_last c (xs ++ (c ∷ [])) ≡ xs
unfolding without_last
drops-last c [] = ap (λ t. cond t [] (c ∷ [])) (eq-eqb c c refl)
drops-last c (b ∷ []) = ap (λ l. b ∷ l) (drops-last c [])
drops-last c (b ∷ d ∷ bs) = ap (λ l. b ∷ l) (drops-last c (d ∷ bs))

-- whether bytes end with one byte
abbrev pub ends : ℕ → List ℕ → Bool
ends c xs = ends_with nat_eq xs (c ∷ [])

ends-cons : (c b d : ℕ) (bs : List ℕ) → ends c (b ∷ d ∷ bs) ≡ ends c (d ∷ bs)
ends-cons c b d bs = grind arith

-- only the last of some bytes counts
ends-behind : (c : ℕ) (xs : List ℕ) (y : ℕ) (ys : List ℕ) → ends c (xs ++ (y ∷ ys)) ≡ ends c (y ∷ ys)
ends-behind c [] y ys = refl
ends-behind c (b ∷ []) y ys = ends-cons c b y ys
ends-behind c (b ∷ d ∷ xs) y ys = ends-cons c b d (xs ++ (y ∷ ys)) ∙ ends-behind c (d ∷ xs) y ys

keeps-last : (c : ℕ) (xs : List ℕ) → ends c xs ≡ false → without_last c xs ≡ xs
unfolding without_last
keeps-last c [] h = refl
keeps-last c (b ∷ []) h = keeps-by (c == b) (test-swap b c) h
  where
    keeps-by : (t : Bool) → (b == c) ≡ t → t && true ≡ false → cond (b == c) [] (b ∷ []) ≡ b ∷ []
    keeps-by true e g = cc
    keeps-by false e g = ap (λ t. cond t [] (b ∷ [])) e
keeps-last c (b ∷ d ∷ bs) h = ap (λ l. b ∷ l) (keeps-last c (d ∷ bs) (sym (ends-cons c b d bs) ∙ h))

content-by : (x : List ℕ) (t : Bool) → ends 13 x ≡ t → content (x ++ cond t (13 ∷ 10 ∷ []) (10 ∷ [])) ≡ x
content-by x true h =
    ap content (sym (append_assoc x (13 ∷ []) (10 ∷ []))) ∙ ap (without_last 13) (drops-last 10 (x ++ (13 ∷ []))) ∙ drops-last 13 x
content-by x false h = ap (without_last 13) (drops-last 10 x) ∙ keeps-last 13 x h

-- a line with its end says the line, whether it ends with a CR or not
pub content-ended : (x : List ℕ) → content (ended x) ≡ x
content-ended x = content-by x (ends 13 x) refl

-- ---- the pieces of lines with their ends

no-lf-behind : (x : List ℕ) → list_any is_lf x ≡ false → list_any is_lf (x ++ (13 ∷ [])) ≡ false
no-lf-behind [] h = refl
no-lf-behind (b ∷ bs) h =
    let parts = or_parts (is_lf b) (list_any is_lf bs) h in
    ap (λ t. t || list_any is_lf (bs ++ (13 ∷ []))) parts.0 ∙ no-lf-behind bs parts.1

pieces-by : (x rest : List ℕ) (t : Bool) → list_any is_lf x ≡ false
    → pieces ((x ++ cond t (13 ∷ 10 ∷ []) (10 ∷ [])) ++ rest) ≡ (x ++ cond t (13 ∷ 10 ∷ []) (10 ∷ [])) ∷ pieces rest
pieces-by x rest true h =
    ap pieces (append_assoc x (13 ∷ 10 ∷ []) rest ∙ sym (append_assoc x (13 ∷ []) (10 ∷ rest)))
    ∙ pieces-line (x ++ (13 ∷ [])) rest (no-lf-behind x h) ∙ ap (λ l. l ∷ pieces rest) (append_assoc x (13 ∷ []) (10 ∷ []))
pieces-by x rest false h = ap pieces (append_assoc x (10 ∷ []) rest) ∙ pieces-line x rest h

pieces-ended : (x rest : List ℕ) → list_any is_lf x ≡ false → pieces (ended x ++ rest) ≡ ended x ∷ pieces rest
pieces-ended x rest h = pieces-by x rest (ends 13 x) h

-- the lines of contents with their ends are these contents
pub lines-ended : (before : ℕ) (xs : List (List ℕ)) → All IsContent xs → before + length (flat_map ended xs) ≤ input_limit
    → lines_after before (pieces (flat_map ended xs)) ≡ text_lines xs
lines-ended before [] h l = lines_after-nil before
lines-ended before (x ∷ xs) h l =
    let rest : List ℕ = flat_map ended xs in
    let this : IsContent x = All-head IsContent x xs h in
    let size : length (ended x ++ rest) ≡ length (ended x) + length rest = length-append (ended x) rest in
    let after : ℕ = before + length (ended x) in
    let same : content (ended x) ≡ x = content-ended x in
    let short : length (content (ended x)) ≤ line_limit = subst (λ (y : List ℕ). length y ≤ line_limit) (sym same) this.0 in
    let good : line_of after (ended x) ≡ Ok x = line-good after (ended x) short (omega (arith, l, size)) ∙ ap (λ y. Ok y) same in
    ap (lines_after before) (pieces-ended x rest this.1)
    ∙ lines-more before (ended x) (pieces rest)
    ∙ ap (λ y. then_lines y (lines_after after (pieces rest))) good
    ∙ ap (λ y. Ok x ∷ y) (lines-ended after xs (All-tail IsContent x xs h) (omega (arith, l, size)))

-- a line's end is at most two bytes
size-by : (x : List ℕ) (t : Bool) → length (x ++ cond t (13 ∷ 10 ∷ []) (10 ∷ [])) ≤ length x + 2
size-by x true = omega (arith, length-append x (13 ∷ 10 ∷ []))
size-by x false = omega (arith, length-append x (10 ∷ []))

pub ended-size : (x : List ℕ) → length (ended x) ≤ length x + 2
ended-size x = size-by x (ends 13 x)

-- the end of a line with a text after a space is that of the text
text-end : (text : List ℕ) → ends 13 (32 ∷ text) ≡ ends 13 text
text-end [] = refl
text-end (b ∷ bs) = ends-cons 13 32 b bs

pub line_end-text : (line text : List ℕ) → line_end (line ++ (32 ∷ text)) ≡ line_end text
line_end-text line text = ap (λ t. cond t (13 ∷ 10 ∷ []) (10 ∷ [])) (ends-behind 13 line 32 text ∙ text-end text)
