-- Lines of bytes that are put together: what callers need who read line after line.
use Rattle.std.proofs.Common.{◌≡◌, ℕ, suc, ◌+◌, ◌<◌, true, false, cond, nat_eq, List, [], ◌∷◌, ◌++◌, length, sum_by, Ok, Err, refl, sym, ap, ◌∙◌, arith, append-nil}
use Rattle.std.proofs.lemmas.Bool.{or_parts, leb-false}
use Rattle.std.proofs.lemmas.List.Sums.{sum_by-cons}
use Rattle.std.specs.List.{list_any}
use Rattle.line_io.specs.Line.{Line, is_lf, pieces, onto_first, line_of, then_lines, lines_after, text_lines, whole_part, onto_whole, IsWhole, line_limit}
use Rattle.line_io.specs.Reader.{is_settled}
use Rattle.line_io.specs.View.{Reader}

-- ---- whole bytes

whole-behind : (b : ℕ) (bs w : List ℕ) → onto_whole b w ≡ b ∷ bs → w ≡ bs
whole-behind b bs [] h = elim (nat_eq b 10) as (λ t. cond t (b ∷ []) [] ≡ b ∷ bs → [] ≡ bs) [ true ↦ λ g. cc | false ↦ λ g. cc ] h
whole-behind b bs (c ∷ cs) h = cc

-- what follows the first byte of whole bytes is whole
pub IsWhole-tail : (b : ℕ) (bs : List ℕ) → IsWhole (b ∷ bs) → IsWhole bs
unfolding whole_part
IsWhole-tail b bs h = whole-behind b bs (whole_part bs) h

pub IsWhole-nil : IsWhole []
unfolding whole_part
IsWhole-nil = refl

-- a whole part before what follows it
onto-more : (b : ℕ) (bs w : List ℕ) → onto_whole b bs ≡ b ∷ bs → onto_whole b (bs ++ w) ≡ b ∷ (bs ++ w)
onto-more b [] [] h = h
onto-more b [] (c ∷ cs) h = refl
onto-more b (c ∷ cs) w h = refl

pub whole_part-append : (gone rest : List ℕ) → IsWhole gone → whole_part (gone ++ rest) ≡ gone ++ whole_part rest
unfolding whole_part
whole_part-append [] rest h = refl
whole_part-append (b ∷ bs) rest h =
    let behind : whole_part bs ≡ bs = IsWhole-tail b bs h in
    ap (onto_whole b) (whole_part-append bs rest behind) ∙ onto-more b bs (whole_part rest) (ap (onto_whole b) (sym behind) ∙ h)

pub IsWhole-append : (xs ys : List ℕ) → IsWhole xs → IsWhole ys → IsWhole (xs ++ ys)
IsWhole-append xs ys h g = whole_part-append xs ys h ∙ ap (λ l. xs ++ l) g

-- bytes without a LF have no whole part
pub whole_part-none : (bs : List ℕ) → list_any is_lf bs ≡ false → whole_part bs ≡ []
unfolding whole_part
whole_part-none [] h = refl
whole_part-none (b ∷ bs) h =
    let parts = or_parts (nat_eq b 10) (list_any is_lf bs) h in
    ap (onto_whole b) (whole_part-none bs parts.1) ∙ ap (λ t. cond t (b ∷ []) []) parts.0

-- whole bytes, and then an unfinished line
pub whole_part-front : (gone pending : List ℕ) → IsWhole gone → list_any is_lf pending ≡ false → whole_part (gone ++ pending) ≡ gone
whole_part-front gone pending h none = whole_part-append gone pending h ∙ ap (λ l. gone ++ l) (whole_part-none pending none) ∙ append-nil gone

-- a reader whose next line isn't settled has no LF pending, and its source hasn't ended
pub unsettled-open : (r : Reader) → is_settled r ≡ false → (r.ended ≡ false) × (list_any is_lf r.pending ≡ false)
unsettled-open r h = grind (arith, or_parts)

-- and no more bytes than a line may have
pub unsettled-few : (r : Reader) → is_settled r ≡ false → length r.pending < line_limit + 2
unsettled-few r h = grind (arith, or_parts, leb-false)

pub whole_part-unsettled : (gone : List ℕ) (r : Reader) → IsWhole gone → is_settled r ≡ false → whole_part (gone ++ r.pending) ≡ gone
whole_part-unsettled gone r h unsettled = whole_part-front gone r.pending h (unsettled-open r unsettled).1

-- ---- pieces

onto-some : (b : ℕ) (p : List ℕ) (ps qs : List (List ℕ)) → onto_first b ((p ∷ ps) ++ qs) ≡ onto_first b (p ∷ ps) ++ qs
onto-some b p ps qs = refl

-- a byte in front of whole bytes that isn't LF has a piece after it
onto-append : (b : ℕ) (bs : List ℕ) (qs : List (List ℕ)) → IsWhole (b ∷ bs) → nat_eq b 10 ≡ false → onto_first b (pieces bs ++ qs) ≡ onto_first b (pieces bs) ++ qs
unfolding whole_part pieces
onto-append b [] qs h off = let e : cond (nat_eq b 10) (b ∷ []) [] ≡ b ∷ [] = h in let n : [] ≡ b ∷ [] = rw off at e in cc
onto-append b (c ∷ cs) qs h off = grind arith

pub pieces-append : (gone rest : List ℕ) → IsWhole gone → pieces (gone ++ rest) ≡ pieces gone ++ pieces rest
unfolding pieces
pieces-append [] rest h = refl
pieces-append (b ∷ bs) rest h =
    let ih = pieces-append bs rest (IsWhole-tail b bs h) in
    elim (nat_eq b 10) as (λ t. nat_eq b 10 ≡ t → cond t ((b ∷ []) ∷ pieces (bs ++ rest)) (onto_first b (pieces (bs ++ rest))) ≡ cond t ((b ∷ []) ∷ pieces bs) (onto_first b (pieces bs)) ++ pieces rest)
    [ true ↦ λ _. ap (λ l. (b ∷ []) ∷ l) ih | false ↦ λ off. ap (onto_first b) ih ∙ onto-append b bs (pieces rest) h off ] refl

size-onto : (b : ℕ) (ps : List (List ℕ)) → sum_by length (onto_first b ps) ≡ suc (sum_by length ps)
size-onto b [] = refl
size-onto b (p ∷ ps) = sum_by-cons length (b ∷ p) ps ∙ (let e : suc (length p) + sum_by length ps ≡ suc (sum_by length (p ∷ ps)) = omega (arith, sum_by-cons length p ps) in e)

-- no byte is lost in the cut
pub pieces-size : (bs : List ℕ) → sum_by length (pieces bs) ≡ length bs
unfolding pieces
pieces-size [] = refl
pieces-size (b ∷ bs) =
    let ih = pieces-size bs in
    elim (nat_eq b 10) as (λ t. sum_by length (cond t ((b ∷ []) ∷ pieces bs) (onto_first b (pieces bs))) ≡ suc (length bs))
    [ true ↦ sum_by-cons length (b ∷ []) (pieces bs) ∙ (let e : 1 + sum_by length (pieces bs) ≡ suc (length bs) = omega (arith, ih) in e) | false ↦ size-onto b (pieces bs) ∙ ap suc ih ]

-- ---- lines

first-text : (line : Line) (lines : List Line) (text : List ℕ) (others : List Line) → then_lines line lines ≡ Ok text ∷ others → (line ≡ Ok text) × (lines ≡ others)
first-text (Ok t) lines text others h = (cc, cc)
first-text (Err c) lines text others h = cc

some-line : (line : Line) (lines : List Line) → then_lines line lines ≡ [] → ⊥
some-line (Ok t) lines h = cc
some-line (Err c) lines h = cc

-- lines without a fault, and then those of further pieces
pub lines_after-append : (before : ℕ) (ps qs : List (List ℕ)) (texts : List (List ℕ)) → lines_after before ps ≡ text_lines texts
    → lines_after before (ps ++ qs) ≡ text_lines texts ++ lines_after (before + sum_by length ps) qs
unfolding lines_after
lines_after-append before [] qs [] h = ap (λ n. lines_after n qs) (let e : before ≡ before + 0 = omega arith in e)
lines_after-append before [] qs (t ∷ ts) h = cc
lines_after-append before (p ∷ ps) qs [] h = absurd (some-line _ _ h)
lines_after-append before (p ∷ ps) qs (t ∷ ts) h =
    let n = before + length p in
    let parts = first-text (line_of n p) (lines_after n ps) t (text_lines ts) h in
    ap (λ l. then_lines l (lines_after n (ps ++ qs))) parts.0
    ∙ ap (λ l. Ok t ∷ l) (lines_after-append n ps qs ts parts.1)
    ∙ ap (λ m. Ok t ∷ (text_lines ts ++ lines_after m qs)) (let e : n + sum_by length ps ≡ before + sum_by length (p ∷ ps) = omega (arith, sum_by-cons length p ps) in e)

-- the lines of whole bytes, none with a fault, and then those of what follows
pub lines_after-whole : (before : ℕ) (gone rest : List ℕ) (texts : List (List ℕ)) → IsWhole gone → lines_after before (pieces gone) ≡ text_lines texts
    → lines_after before (pieces (gone ++ rest)) ≡ text_lines texts ++ lines_after (before + length gone) (pieces rest)
lines_after-whole before gone rest texts whole h = grind (arith, pieces-append, lines_after-append, pieces-size)

pub text_lines-push : (texts : List (List ℕ)) (text : List ℕ) → text_lines (texts ++ text ∷ []) ≡ text_lines texts ++ Ok text ∷ []
text_lines-push [] text = refl
text_lines-push (t ∷ ts) text = ap (λ l. Ok t ∷ l) (text_lines-push ts text)

-- ---- answers
