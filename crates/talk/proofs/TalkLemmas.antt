-- Replies to lines come one after another, in any parts.
use Rattle.std.proofs.Common.{◌≡◌, ℕ, ◌+◌, List, [], ◌∷◌, ◌++◌, length, refl, sym, ap, ◌∙◌, subst, arith}
use Rattle.std.proofs.lemmas.List.{append_assoc}
use Rattle.std.proofs.Math.Nat.{add_assoc, add-zero, zero-add}
use Rattle.talk.specs.Parts.{IsParted}
use Rattle.talk.specs.Talks.{RepliesTo, Reply, Replying, Talk, TalkGoes, followed, says}

-- nothing, and then a reply
nothing_first : {S : Type 0} (s : S) (r : Reply S) → followed (says s []) r ≡ r
nothing_first s r = ap (λ (n : ℕ). record r { steps = n }) (zero-add r.steps)

together : {S : Type 0} (t u : List ℕ) (s : S) (n k : ℕ) → t ≡ u → n ≡ k
    → let P : Reply S = record { text = t; after = s; steps = n } in let Q : Reply S = record { text = u; after = s; steps = k } in P ≡ Q
together {S} t u s n k e f = grind arith

pub followed_assoc : {S : Type 0} (a b c : Reply S) → followed (followed a b) c ≡ followed a (followed b c)
followed_assoc a b c = grind (arith, append_assoc, add_assoc)

-- the replies to lines, and then those to more lines
pub record Parts {S : Type 0} (Gets : Replying S) (before : ℕ) (s : S) (xs ys : List (List ℕ)) (r : Reply S) : Type 0 where
  pub first : Reply S
  pub more : Reply S
  pub first_replies : RepliesTo Gets before s xs first
  pub more_replies : RepliesTo Gets (before + length xs) first.after ys more
  pub parts : r ≡ followed first more

at-start : {S : Type 0} (Gets : Replying S) (before : ℕ) (s : S) (ys : List (List ℕ)) (r : Reply S) → RepliesTo Gets before s ys r → Parts Gets before s [] ys r
unfolding RepliesTo
at-start Gets before s ys r h = record {
  first = says s [];
  more = r;
  first_replies = refl;
  more_replies = let P : ℕ → Type 0 = λ n. RepliesTo Gets n s ys r in subst P (sym (add-zero before)) h;
  parts = sym (nothing_first s r);
}

-- lines that are answered are answered up to each of them, and from there on
pub replies_split : {S : Type 0} (Gets : Replying S) (before : ℕ) (s : S) (xs ys : List (List ℕ)) (r : Reply S) → RepliesTo Gets before s (xs ++ ys) r
    → Parts Gets before s xs ys r
unfolding RepliesTo
replies_split Gets before s [] ys r h = at-start Gets before s ys r h
replies_split Gets before s (x ∷ xs) ys r h =
    let one = h.0 in
    let rest = h.2.0 in
    let inner = replies_split Gets (before + 1) one.after xs ys rest h.2.1 in
    let e : before + 1 + length xs ≡ before + length (x ∷ xs) = omega arith in
    let P : ℕ → Type 0 = λ n. RepliesTo Gets n inner.first.after ys inner.more in
    record {
      first = followed one inner.first;
      more = inner.more;
      first_replies = (one, h.1, (inner.first, inner.first_replies, refl));
      more_replies = subst P e inner.more_replies;
      parts = h.2.2 ∙ ap (followed one) inner.parts ∙ sym (followed_assoc one inner.first inner.more);
    }

-- and the other way round
pub replies_join : {S : Type 0} (Gets : Replying S) (before : ℕ) (s : S) (xs ys : List (List ℕ)) (r more : Reply S) → RepliesTo Gets before s xs r
    → RepliesTo Gets (before + length xs) r.after ys more → RepliesTo Gets before s (xs ++ ys) (followed r more)
unfolding RepliesTo
replies_join {S} Gets before s [] ys r more h g = grind (arith, more, add-zero)
replies_join {S} Gets before s (x ∷ xs) ys r more h g =
    let one = h.0 in
    let rest = h.2.0 in
    let e : before + length (x ∷ xs) ≡ before + 1 + length xs = omega arith in
    let Q : Reply S → Type 0 = λ a. RepliesTo Gets (before + length (x ∷ xs)) a.after ys more
    → (two : Reply S) × Gets (before + 1) s x two × ((m : Reply S) × RepliesTo Gets (before + 1) two.after (xs ++ ys) m × (followed a more ≡ followed two m)) in
    subst Q (sym h.2.2) (λ k.
    let P : ℕ → Type 0 = λ n. RepliesTo Gets n rest.after ys more in
    (one, h.1, (followed rest more, replies_join Gets (before + 1) one.after xs ys rest more h.2.1 (subst P e k), followed_assoc one rest more))) g

-- one line gets its reply
pub replies_one : {S : Type 0} (Gets : Replying S) (before : ℕ) (s : S) (x : List ℕ) (r : Reply S) → Gets (before + 1) s x r → RepliesTo Gets before s (x ∷ []) (followed r (says r.after []))
unfolding RepliesTo
replies_one Gets before s x r h = (r, h, (says r.after [], refl, refl))

pub parts_of : {S : Type 0} (talk : Talk S) (before : ℕ) (xs ys : List (List ℕ)) (r : Reply S) → TalkGoes talk before (xs ++ ys) r → IsParted talk before xs ys r
parts_of talk before xs ys r h =
    let p = replies_split talk.Gets before h.opening.after xs ys h.more h.replies in
    record {
      first = followed h.opening p.first;
      more = p.more;
      goes = record { opening = h.opening; more = p.first; opens = h.opens; replies = p.first_replies; all = refl };
      replies = p.more_replies;
      all = h.all ∙ ap (followed h.opening) p.parts ∙ sym (followed_assoc h.opening p.first p.more);
    }

-- lines that get something keep what follows from it
pub replies_keep : {S : Type 0} (Gets Keeps : Replying S) → ((line : ℕ) (s : S) (text : List ℕ) (r : Reply S) → Gets line s text r → Keeps line s text r)
    → (before : ℕ) (s : S) (lines : List (List ℕ)) (r : Reply S) → RepliesTo Gets before s lines r → RepliesTo Keeps before s lines r
unfolding RepliesTo
replies_keep Gets Keeps keeps before s [] r h = h
replies_keep Gets Keeps keeps before s (line ∷ lines) r h =
    (h.0, keeps (before + 1) s line h.0 h.1, (h.2.0, replies_keep Gets Keeps keeps (before + 1) h.0.after lines h.2.0 h.2.1, h.2.2))
