-- The pieces of bytes, the first of them, and a line without its end.
use Rattle.std.proofs.Common.{◌≡◌, ℕ, zero, suc, ◌+◌, ◌<◌, ◌≤◌, Bool, true, false, cond, nat_le, ◌||◌, ◌⊎◌, List, [], ◌∷◌, ◌++◌, length, take, drop, get_or, Some, None, refl, sym, ap, ◌∙◌, arith, nat_eq, inl, inr, Ok, Err, append-nil, length-append, subst}
use Rattle.std.proofs.lemmas.Grind.{common_steps}
use Rattle.std.proofs.lemmas.Bool.{lt-ltb, le-ltb, leb-true, or_parts, or_cases, both_ways, cases_Bool}
use Rattle.std.proofs.lemmas.List.{take-append-le, drop-append-le, length-take-le, take-take}
use Rattle.std.proofs.Math.Seq.{take-length, take-append-add}
use Rattle.std.proofs.lemmas.Iterator.Adapters.{position_from-zero}
use Rattle.std.proofs.lemmas.List.Quantifiers.{position-Some}
use Rattle.std.specs.List.{list_any, position, position_from}
use Rattle.evac_law.specs.declared.code.Code.TheVariants as codes
use Rattle.line_io.specs.Line.{Line, is_lf, pieces, onto_first, without_last, content, lines_after, line_of, then_lines, line_limit, input_limit}
use Rattle.line_io.specs.Scan.{first_size}

pub first_size-le : (xs : List ℕ) → first_size xs ≤ length xs
unfolding first_size
first_size-le [] = omega arith
first_size-le (b ∷ bs) =
    let h = first_size-le bs in
    elim (nat_eq b 10) as (λ t. cond t 1 (suc (first_size bs)) ≤ suc (length bs)) [ true ↦ omega arith | false ↦ omega arith ]

pub first_size-some : (xs : List ℕ) → 0 < length xs → 0 < first_size xs
unfolding first_size
first_size-some [] h = absurd (omega arith)
first_size-some (b ∷ bs) h = elim (nat_eq b 10) as (λ t. 0 < cond t 1 (suc (first_size bs))) [ true ↦ omega arith | false ↦ omega arith ]

-- the first piece, and the pieces of what follows it
pub pieces-first : (xs : List ℕ) → 0 < length xs → pieces xs ≡ take (first_size xs) xs ∷ pieces (drop (first_size xs) xs)
unfolding pieces first_size
pieces-first [] h = absurd (omega arith)
pieces-first (b ∷ []) h =
    elim (nat_eq b 10) as (λ t. cond t ((b ∷ []) ∷ []) (onto_first b []) ≡ take (cond t 1 (suc 0)) (b ∷ []) ∷ pieces (drop (cond t 1 (suc 0)) (b ∷ [])))
    [ true ↦ refl | false ↦ refl ]
pieces-first (b ∷ d ∷ bs) h =
    let ih = pieces-first (d ∷ bs) (omega arith) in
    elim (nat_eq b 10) as (λ t. cond t ((b ∷ []) ∷ pieces (d ∷ bs)) (onto_first b (pieces (d ∷ bs)))
    ≡ take (cond t 1 (suc (first_size (d ∷ bs)))) (b ∷ d ∷ bs) ∷ pieces (drop (cond t 1 (suc (first_size (d ∷ bs)))) (b ∷ d ∷ bs)))
    [ true ↦ refl | false ↦ ap (onto_first b) ih ]

pub first_size-append : (xs rest : List ℕ) → list_any is_lf xs ≡ true → first_size (xs ++ rest) ≡ first_size xs
unfolding first_size
first_size-append [] rest h = cc
first_size-append (b ∷ bs) rest h =
    elim (nat_eq b 10) as (λ t. (t || list_any is_lf bs) ≡ true → cond t 1 (suc (first_size (bs ++ rest))) ≡ cond t 1 (suc (first_size bs)))
    [ true ↦ λ _. refl | false ↦ λ g. ap suc (first_size-append bs rest g) ] h

pub first_size-past : (xs rest : List ℕ) → list_any is_lf xs ≡ false → first_size (xs ++ rest) ≡ length xs + first_size rest
unfolding first_size
first_size-past [] rest h = omega arith
first_size-past (b ∷ bs) rest h =
    elim (nat_eq b 10) as (λ t. (t || list_any is_lf bs) ≡ false → cond t 1 (suc (first_size (bs ++ rest))) ≡ suc (length bs) + first_size rest)
    [ true ↦ λ g. cc | false ↦ λ g. let e = first_size-past bs rest g in omega arith ] h

pub first_size-none : (xs : List ℕ) → list_any is_lf xs ≡ false → first_size xs ≡ length xs
unfolding first_size
first_size-none xs h = omega (arith, first_size-past xs [] h, ap first_size (append-nil xs))

-- where the first LF stands
pub first_size-at : (xs : List ℕ) (i : ℕ) → i < length xs → is_lf (get_or xs i 0) ≡ true → ((k : ℕ) → k < i → is_lf (get_or xs k 0) ≡ false) → first_size xs ≡ i + 1
unfolding first_size
first_size-at [] i l here before = absurd (omega arith)
first_size-at (b ∷ bs) zero l here before = ap (λ t. cond t 1 (suc (first_size bs))) here
first_size-at (b ∷ bs) (suc i) l here before =
    let ih = first_size-at bs i (omega arith) here (λ k h. before (suc k) (omega arith)) in
    ap (λ t. cond t 1 (suc (first_size bs))) (before 0 (omega arith)) ∙ (let e : suc (first_size bs) ≡ suc i + 1 = omega arith in e)

-- ---- a line without its end

pub without_last-drops : (c : ℕ) (xs : List ℕ) (n : ℕ) → length xs ≡ suc n → get_or xs n 0 ≡ c → take n xs ≡ without_last c xs
unfolding without_last
without_last-drops c [] n h e = cc
without_last-drops c (b ∷ []) zero h e = let same : nat_eq b c ≡ true = grind (arith, common_steps) in ap (λ t. cond t [] (b ∷ [])) (sym same)
without_last-drops c (b ∷ []) (suc n) h e = absurd (omega arith)
without_last-drops c (b ∷ d ∷ bs) zero h e = absurd (omega arith)
without_last-drops c (b ∷ d ∷ bs) (suc n) h e = ap (λ l. b ∷ l) (without_last-drops c (d ∷ bs) n (omega arith) e)

pub without_last-keeps : (c : ℕ) (xs : List ℕ) (n : ℕ) → length xs ≡ suc n → (get_or xs n 0 ≡ c → ⊥) → xs ≡ without_last c xs
unfolding without_last
without_last-keeps c [] n h e = refl
without_last-keeps c (b ∷ []) zero h e = let other : nat_eq b c ≡ false = grind (arith, common_steps) in ap (λ t. cond t [] (b ∷ [])) (sym other)
without_last-keeps c (b ∷ []) (suc n) h e = absurd (omega arith)
without_last-keeps c (b ∷ d ∷ bs) zero h e = absurd (omega arith)
without_last-keeps c (b ∷ d ∷ bs) (suc n) h e = ap (λ l. b ∷ l) (without_last-keeps c (d ∷ bs) n (omega arith) e)

pub without_last-nil : (c : ℕ) (xs : List ℕ) → length xs ≡ 0 → xs ≡ without_last c xs
unfolding without_last
without_last-nil c [] h = refl
without_last-nil c (b ∷ bs) h = absurd (omega arith)

pub without_last-size : (c : ℕ) (xs : List ℕ) → length xs ≤ length (without_last c xs) + 1
unfolding without_last
without_last-size c [] = omega arith
without_last-size c (b ∷ []) = elim (nat_eq b c) as (λ t. 1 ≤ length (cond t [] (b ∷ [])) + 1) [ true ↦ omega arith | false ↦ omega arith ]
without_last-size c (b ∷ d ∷ bs) = let h = without_last-size c (d ∷ bs) in omega arith

-- bytes without a LF aren't shortened by what follows them
pub no_lf-stays : (xs rest : List ℕ) → list_any is_lf xs ≡ false → length xs ≤ length (without_last 10 (xs ++ rest))
unfolding without_last
no_lf-stays [] rest h = omega arith
no_lf-stays (b ∷ []) [] h =
    elim (nat_eq b 10) as (λ t. (t || false) ≡ false → 1 ≤ length (cond t [] (b ∷ []))) [ true ↦ λ g. cc | false ↦ λ g. omega arith ] h
no_lf-stays (b ∷ []) (d ∷ ds) h = omega arith
no_lf-stays (b ∷ d ∷ bs) rest h =
    let g : list_any is_lf (d ∷ bs) ≡ false = (or_parts (nat_eq b 10) (list_any is_lf (d ∷ bs)) h).1 in
    let ih = no_lf-stays (d ∷ bs) rest g in omega arith

-- ---- a line by its piece

pub line-long : (end : ℕ) (p : List ℕ) → line_limit < length (content p) → line_of end p ≡ Err codes.LineTooLong
line-long end p h = rw (lt-ltb line_limit (length (content p)) h)

pub line-far : (end : ℕ) (p : List ℕ) → length (content p) ≤ line_limit → input_limit < end → line_of end p ≡ Err codes.InputTooLong
line-far end p h g = rw (le-ltb line_limit (length (content p)) h, lt-ltb input_limit end g)

pub line-good : (end : ℕ) (p : List ℕ) → length (content p) ≤ line_limit → end ≤ input_limit → line_of end p ≡ Ok (content p)
line-good end p h g = rw (le-ltb line_limit (length (content p)) h, le-ltb input_limit end g)

-- ---- the first line of what is pending

-- the lines, by the first piece that stands in the pending bytes
abbrev pub by_first : ℕ → List ℕ → List ℕ → List Line
by_first n xs rest =
    then_lines (line_of (n + first_size xs) (take (first_size xs) xs)) (lines_after (n + first_size xs) (pieces (drop (first_size xs) xs ++ rest)))

pub first-in-front : (n : ℕ) (xs rest : List ℕ) → 0 < length xs → first_size (xs ++ rest) ≡ first_size xs → lines_after n (pieces (xs ++ rest)) ≡ by_first n xs rest
unfolding lines_after
first-in-front n xs rest some same =
    let k = first_size xs in
    let within : k ≤ length xs = first_size-le xs in
    let more : 0 < length (xs ++ rest) = omega (arith, length-append xs rest) in
    let cut : pieces (xs ++ rest) ≡ take k xs ∷ pieces (drop k xs ++ rest) =
    pieces-first (xs ++ rest) more
    ∙ ap (λ m. take m (xs ++ rest) ∷ pieces (drop m (xs ++ rest))) same
    ∙ ap (λ l. l ∷ pieces (drop k (xs ++ rest))) (take-append-le k xs rest within)
    ∙ ap (λ l. take k xs ∷ pieces l) (drop-append-le k xs rest within) in
    ap (lines_after n) cut
    ∙ ap (λ m. then_lines (line_of (n + m) (take k xs)) (lines_after (n + m) (pieces (drop k xs ++ rest)))) (length-take-le k xs within)

-- so many bytes without a LF are more than a line may have, whatever follows them
pub too_long-whatever : (n : ℕ) (xs rest : List ℕ) → line_limit + 2 ≤ length xs → list_any is_lf xs ≡ false → lines_after n (pieces (xs ++ rest)) ≡ Err codes.LineTooLong ∷ []
unfolding lines_after
too_long-whatever n xs rest many none =
    let k = first_size (xs ++ rest) in
    let p = take k (xs ++ rest) in
    let more : 0 < length (xs ++ rest) = omega (arith, length-append xs rest) in
    let shape : p ≡ xs ++ take (first_size rest) rest =
    ap (λ m. take m (xs ++ rest)) (first_size-past xs rest none) ∙ take-append-add xs rest (first_size rest) in
    let stays : length xs ≤ length (without_last 10 p) = subst (λ (l : List ℕ). length xs ≤ length (without_last 10 l)) (sym shape) (no_lf-stays xs (take (first_size rest) rest) none) in
    let long : line_limit < length (content p) = omega (arith, without_last-size 13 (without_last 10 p)) in
    ap (lines_after n) (pieces-first (xs ++ rest) more)
    ∙ ap (λ l. then_lines l (lines_after (n + length p) (pieces (drop k (xs ++ rest))))) (line-long (n + length p) p long)

-- whether the next line is settled by the pending bytes
abbrev pub Settled : Bool → List ℕ → Type 0
Settled ended xs = (ended || (nat_le (line_limit + 2) (length xs) || list_any is_lf xs)) ≡ true

-- settled bytes give the next line, whatever follows them
pub settled-line : (n : ℕ) (ended : Bool) (xs rest : List ℕ) → Settled ended xs → (ended ≡ true → rest ≡ []) → 0 < length xs → lines_after n (pieces (xs ++ rest)) ≡ by_first n xs rest
settled-line n ended xs rest settled last some =
    elim (cases_Bool (list_any is_lf xs)) [
      | inl found ↦ first-in-front n xs rest some (first_size-append xs rest found)
      | inr none ↦ elim (cases_Bool ended) [
        | inl over ↦ first-in-front n xs rest some (ap first_size (ap (λ l. xs ++ l) (last over) ∙ append-nil xs))
        | inr on ↦ too_long n xs rest (unended_many ended xs settled on none) none
      ]
    ]
  where
    unended_many : (ended : Bool) (xs : List ℕ) → Settled ended xs → ended ≡ false → list_any is_lf xs ≡ false → line_limit + 2 ≤ length xs
    unended_many ended xs settled on none =
        let rest_of : (nat_le (line_limit + 2) (length xs) || list_any is_lf xs) ≡ true = rw on at settled in
        elim (or_cases (nat_le (line_limit + 2) (length xs)) (list_any is_lf xs) rest_of) [ inl many ↦ leb-true (line_limit + 2) (length xs) many | inr found ↦ absurd (both_ways _ none found) ]

    too_long : (n : ℕ) (xs rest : List ℕ) → line_limit + 2 ≤ length xs → list_any is_lf xs ≡ false → lines_after n (pieces (xs ++ rest)) ≡ by_first n xs rest
    too_long n xs rest many none =
        let whole : take (first_size xs) xs ≡ xs = ap (λ m. take m xs) (first_size-none xs none) ∙ take-length xs in
        let stays : length xs ≤ length (without_last 10 (take (first_size xs) xs)) =
        subst (λ (l : List ℕ). length xs ≤ length (without_last 10 l)) (append-nil xs ∙ sym whole) (no_lf-stays xs [] none) in
        let long : line_limit < length (content (take (first_size xs) xs)) = omega (arith, without_last-size 13 (without_last 10 (take (first_size xs) xs))) in
        too_long-whatever n xs rest many none
        ∙ sym (ap (λ l. then_lines l (lines_after (n + first_size xs) (pieces (drop (first_size xs) xs ++ rest)))) (line-long (n + first_size xs) (take (first_size xs) xs) long))

-- nothing pending, and settled: the end
pub settled-end : (n : ℕ) (ended : Bool) (xs rest : List ℕ) → Settled ended xs → (ended ≡ true → rest ≡ []) → length xs ≡ 0 → (ended ≡ true) × (lines_after n (pieces (xs ++ rest)) ≡ [])
unfolding lines_after pieces
settled-end n ended [] rest settled last none = let over = settled_over ended settled in (over, ap (λ l. lines_after n (pieces l)) (last over))
  where
    settled_over : (ended : Bool) → Settled ended [] → ended ≡ true
    settled_over true h = refl
    settled_over false h = elim (or_cases (nat_le (line_limit + 2) 0) false h) [ inl many ↦ absurd (let m = leb-true (line_limit + 2) 0 many in omega arith) | inr lf ↦ cc ]
settled-end n ended (b ∷ bs) rest settled last none = absurd (omega arith)

pub first_size-zero : (xs : List ℕ) → first_size xs ≡ 0 → length xs ≡ 0
first_size-zero [] h = refl
first_size-zero (b ∷ bs) h = let g = first_size-some (b ∷ bs) (omega arith) in absurd (omega arith)

-- a line without its end is the front of the line
pub without_last-front : (c : ℕ) (xs : List ℕ) → (length (without_last c xs) ≤ length xs) × (without_last c xs ≡ take (length (without_last c xs)) xs)
unfolding without_last
without_last-front c [] = (omega arith, refl)
without_last-front c (b ∷ []) =
    elim (nat_eq b c) as (λ t. (length (cond t [] (b ∷ [])) ≤ 1) × (cond t [] (b ∷ []) ≡ take (length (cond t [] (b ∷ []))) (b ∷ []))) [ true ↦ (omega arith, refl) | false ↦ (omega arith, refl) ]
without_last-front c (b ∷ d ∷ bs) = let ih = without_last-front c (d ∷ bs) in (omega (arith, ih.0), ap (λ l. b ∷ l) ih.1)

pub content-size : (p : List ℕ) → length (content p) ≤ length p
content-size p = omega (arith, (without_last-front 13 (without_last 10 p)).0, (without_last-front 10 p).0)

pub content-front : (p : List ℕ) → content p ≡ take (length (content p)) p
content-front p =
    let m = length (without_last 10 p) in
    let n = length (content p) in
    let short : n ≤ m = (without_last-front 13 (without_last 10 p)).0 in
    (without_last-front 13 (without_last 10 p)).1 ∙ ap (take n) ((without_last-front 10 p).1) ∙ take-take n m p short

pub first_size-missed : (i : ℕ) (xs : List ℕ) → position_from is_lf i xs ≡ None → first_size xs ≡ length xs
unfolding first_size
first_size-missed i [] h = refl
first_size-missed i (b ∷ bs) h =
    elim (nat_eq b 10) as (λ t. cond t (Some i) (position_from is_lf (i + 1) bs) ≡ None → cond t 1 (suc (first_size bs)) ≡ suc (length bs))
    [ true ↦ λ g. cc | false ↦ λ g. ap suc (first_size-missed (i + 1) bs g) ] h

-- the first line without its end is a front of the bytes
pub take-first : (xs : List ℕ) → content (take (first_size xs) xs) ≡ take (length (content (take (first_size xs) xs))) xs
take-first xs =
    let k = first_size xs in
    let n = length (content (take k xs)) in
    let short : n ≤ k = omega (arith, content-size (take k xs), length-take-le k xs (first_size-le xs)) in
    content-front (take k xs) ∙ take-take n k xs short

-- ---- where the first LF stands

list_any-at : (xs : List ℕ) (i : ℕ) → i < length xs → is_lf (get_or xs i 0) ≡ true → list_any is_lf xs ≡ true
list_any-at [] i l here = absurd (omega arith)
list_any-at (b ∷ bs) zero l here = ap (λ t. t || list_any is_lf bs) here
list_any-at (b ∷ bs) (suc i) l here =
    ap (λ t. nat_eq b 10 || t) (list_any-at bs i (omega arith) here) ∙ elim (nat_eq b 10) as (λ t. (t || true) ≡ true) [ true ↦ refl | false ↦ refl ]

list_any-missed : (i : ℕ) (xs : List ℕ) → position_from is_lf i xs ≡ None → list_any is_lf xs ≡ false
list_any-missed i [] h = refl
list_any-missed i (b ∷ bs) h =
    elim (nat_eq b 10) as (λ t. cond t (Some i) (position_from is_lf (i + 1) bs) ≡ None → (t || list_any is_lf bs) ≡ false)
    [ true ↦ λ g. cc | false ↦ λ g. list_any-missed (i + 1) bs g ] h

pub lf-found : (xs : List ℕ) (i : ℕ) → position is_lf xs ≡ Some i → (list_any is_lf xs ≡ true) × (first_size xs ≡ i + 1)
lf-found xs i h = let at = position-Some is_lf xs i 0 h in (list_any-at xs i at.0 at.1, first_size-at xs i at.0 at.1 at.2)

pub lf-missed : (xs : List ℕ) → position is_lf xs ≡ None → (list_any is_lf xs ≡ false) × (first_size xs ≡ length xs)
lf-missed xs h = let missed : position_from is_lf 0 xs ≡ None = sym (position_from-zero is_lf xs) ∙ h in (list_any-missed 0 xs missed, first_size-missed 0 xs missed)

-- a line is settled by its LF, by the end or by its size, and by nothing else
pub settled-lf : (ended many : Bool) → (ended || (many || true)) ≡ true
settled-lf true many = refl
settled-lf false true = refl
settled-lf false false = refl

pub settled-else : (ended many lf : Bool) → (ended ≡ true) ⊎ (many ≡ true) → (ended || (many || lf)) ≡ true
settled-else true many lf h = refl
settled-else false true lf h = refl
settled-else false false lf (inl e) = cc
settled-else false false lf (inr m) = cc

pub settled-not : (ended many lf : Bool) → ended ≡ false → many ≡ false → lf ≡ false → (ended || (many || lf)) ≡ false
settled-not true many lf e m l = cc
settled-not false true lf e m l = cc
settled-not false false lf e m l = l
