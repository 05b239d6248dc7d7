-- The bytes that go away as a line are one line with its end.
use Rattle.std.proofs.Common.{◌≡◌, ℕ, suc, ◌+◌, ◌<◌, ◌≤◌, Bool, true, false, cond, nat_eq, nat_le, ◌||◌, ◌⊎◌, inl, inr, List, [], ◌∷◌, length, take, drop, refl, sym, ap, ◌∙◌, subst, arith, append-nil}
use Rattle.std.proofs.lemmas.Bool.{or_cases, leb-true, both_ways, cases_Bool}
use Rattle.std.proofs.lemmas.List.{length-take-le, drop_all}
use Rattle.std.proofs.Math.Seq.{take-length}
use Rattle.std.specs.List.{list_any}
use Rattle.line_io.specs.Line.{is_lf, pieces, IsPiece, content, whole_part, onto_whole, IsWhole, without_last, line_limit, input_limit}
use Rattle.line_io.specs.Scan.{first_size}
use Rattle.line_io.specs.Reader.{is_settled, settles, IsGiven}
use Rattle.line_io.specs.View.{Reader}
use Rattle.line_io.proofs.Pieces.{first_size-le, first_size-some, first_size-none, pieces-first, no_lf-stays, without_last-size, line-good, take-first}
use Rattle.line_io.proofs.ReaderLemmas.{Front, after_first}

first_size-take : (xs : List ℕ) → first_size (take (first_size xs) xs) ≡ first_size xs
unfolding first_size
first_size-take [] = refl
first_size-take (b ∷ bs) =
    elim (nat_eq b 10) as (λ t. nat_eq b 10 ≡ t → first_size (take (cond t 1 (suc (first_size bs))) (b ∷ bs)) ≡ cond t 1 (suc (first_size bs)))
    [ true ↦ λ lf. ap (λ t. cond t 1 (suc 0)) lf | false ↦ λ off. ap (λ t. cond t 1 (suc (first_size (take (first_size bs) bs)))) off ∙ ap suc (first_size-take bs) ] refl

-- the first line is one piece
pub first-IsPiece : (xs : List ℕ) → 0 < length xs → IsPiece (take (first_size xs) xs)
unfolding pieces
first-IsPiece xs some = grind (arith, length-take-le, first_size-le, first_size-some, first_size-take, pieces-first, take-length, drop_all)

onto-whole-some : (b : ℕ) (ys : List ℕ) → 0 < length ys → onto_whole b ys ≡ b ∷ ys
onto-whole-some b [] h = absurd (omega arith)
onto-whole-some b (c ∷ cs) h = refl

some-any : (xs : List ℕ) → list_any is_lf xs ≡ true → 0 < length xs
some-any [] h = cc
some-any (b ∷ bs) h = omega arith

-- where there is a LF the first line ends in it
pub first-IsWhole : (xs : List ℕ) → list_any is_lf xs ≡ true → IsWhole (take (first_size xs) xs)
unfolding whole_part first_size
first-IsWhole [] h = cc
first-IsWhole (b ∷ bs) h =
    elim (nat_eq b 10) as (λ t. nat_eq b 10 ≡ t → (t || list_any is_lf bs) ≡ true → whole_part (take (cond t 1 (suc (first_size bs))) (b ∷ bs)) ≡ take (cond t 1 (suc (first_size bs))) (b ∷ bs)) [
      | true ↦ λ lf _. ap (λ t. cond t (b ∷ []) []) lf
      | false ↦ λ off g.
          let some = first_size-some bs (some-any bs g) in
          let size : length (take (first_size bs) bs) ≡ first_size bs = length-take-le (first_size bs) bs (first_size-le bs) in
          ap (onto_whole b) (first-IsWhole bs g) ∙ onto-whole-some b (take (first_size bs) bs) (omega arith)
    ] refl h

-- a settled line without a LF that isn't too long is the last of a source that has ended
ended-without : (ended : Bool) (xs : List ℕ) → settles ended xs ≡ true → list_any is_lf xs ≡ false → length (content (take (first_size xs) xs)) ≤ line_limit → ended ≡ true
ended-without true xs settled none short = refl
ended-without false xs settled none short =
    elim (or_cases (nat_le (line_limit + 2) (length xs)) (list_any is_lf xs) settled) [
      | inl many ↦
          let m = leb-true (line_limit + 2) (length xs) many in
          let whole : take (first_size xs) xs ≡ xs = ap (λ n. take n xs) (first_size-none xs none) ∙ take-length xs in
          let stays : length xs ≤ length (without_last 10 (take (first_size xs) xs)) =
          subst (λ (l : List ℕ). length xs ≤ length (without_last 10 l)) (append-nil xs ∙ sym whole) (no_lf-stays xs [] none) in
          absurd (omega (arith, without_last-size 13 (without_last 10 (take (first_size xs) xs))))
      | inr found ↦ absurd (both_ways _ none found)
    ]

finished-first : (r : Reader) → is_settled r ≡ true → length (content (take (first_size r.pending) r.pending)) ≤ line_limit
    → IsWhole (take (first_size r.pending) r.pending) ⊎ ((r.ended ≡ true) × (drop (first_size r.pending) r.pending ≡ []))
finished-first r settled short = grind (arith, cases_Bool, first-IsWhole, ended-without, drop_all, first_size-none)

-- the line that the reader keeps
pub first-IsGiven : (r after : Reader) (size kept : ℕ) → Front r size kept → is_settled r ≡ true → 0 < size → kept ≤ line_limit → r.given + size ≤ input_limit
    → after ≡ after_first r size kept → IsGiven after (take size r.pending)
first-IsGiven r after size kept f settled some short near is = grind (arith, first_size-le, take-first, after_first, first-IsPiece, length-take-le, finished-first, line-good)
