-- What texts put one after the other.
use Rattle.std.proofs.Common.{◌≡◌, ℕ, ◌+◌, ◌<◌, List, [], ◌∷◌, ◌++◌, length, take, get_or, Result, Ok, Err, IsErr, refl, sym, ap, ◌∙◌, subst, append_assoc, append-nil}
use Rattle.std.specs.declared.option.Option.{Option}
use Rattle.std.specs.List.{flat_map}
use Rattle.std.proofs.KnownBytes.{Appends-trans, Appends-nil}
use Rattle.std.proofs.lemmas.Bool.{false≢true}
use Rattle.std.proofs.lemmas.List.{take_more}
use Rattle.std.proofs.lemmas.Grind.{flat_map-append}
use Rattle.line_io.specs.Text.{fields, line_text}
use Rattle.line_io.specs.Writer.{Puts, PutsFront, PutsText}

-- ---- texts that were put

pub puts-none : (a : Option (List ℕ)) (p : List ℕ) → Puts a p [] a p
puts-none a p = record { sent = []; order = append-nil p; over = Appends-nil a }

pub puts-then : {a : Option (List ℕ)} {p t : List ℕ} {b : Option (List ℕ)} {q u : List ℕ} {c : Option (List ℕ)} {r : List ℕ}
    → Puts a p t b q → Puts b q u c r → Puts a p (t ++ u) c r
puts-then {a} {p} {t} {b} {q} {u} {c} {r} h g = record {
  sent = h.sent ++ g.sent;
  order = sym (append_assoc p t u) ∙ ap (λ l. l ++ u) h.order ∙ append_assoc h.sent q u ∙ ap (λ l. h.sent ++ l) g.order ∙ sym (append_assoc h.sent g.sent r);
  over = Appends-trans a b c h.sent g.sent h.over g.over;
}

-- the same text, spelled otherwise
pub puts-is : {a : Option (List ℕ)} {p t u : List ℕ} {b : Option (List ℕ)} {q : List ℕ} → t ≡ u → Puts a p t b q → Puts a p u b q
puts-is {a} {p} {t} {u} {b} {q} e h = subst (λ (l : List ℕ). Puts a p l b q) e h

-- ---- fronts of texts

pub front-none : {a : Option (List ℕ)} {p : List ℕ} {b : Option (List ℕ)} {q : List ℕ} (t : List ℕ) → Puts a p [] b q → PutsFront a p t b q
front-none t h = record { front = []; rest = t; parts = refl; put = h }

pub front-more : {a : Option (List ℕ)} {p t : List ℕ} {b : Option (List ℕ)} {q : List ℕ} (u : List ℕ) → PutsFront a p t b q → PutsFront a p (t ++ u) b q
front-more u h = record { front = h.front; rest = h.rest ++ u; parts = ap (λ l. l ++ u) h.parts ∙ append_assoc h.front h.rest u; put = h.put }

pub front-then : {a : Option (List ℕ)} {p t : List ℕ} {b : Option (List ℕ)} {q u : List ℕ} {c : Option (List ℕ)} {r : List ℕ}
    → Puts a p t b q → PutsFront b q u c r → PutsFront a p (t ++ u) c r
front-then {a} {p} {t} h g = record {
  front = t ++ g.front;
  rest = g.rest;
  parts = ap (λ l. t ++ l) g.parts ∙ sym (append_assoc t g.front g.rest);
  put = puts-then h g.put;
}

pub front-is : {a : Option (List ℕ)} {p t u : List ℕ} {b : Option (List ℕ)} {q : List ℕ} → t ≡ u → PutsFront a p t b q → PutsFront a p u b q
front-is {a} {p} {t} {u} {b} {q} e h = subst (λ (l : List ℕ). PutsFront a p l b q) e h

-- ---- answers of writers

-- the same text, spelled otherwise
pub text-is : {T E : Type 0} {a : Option (List ℕ)} {p t u : List ℕ} {b : Option (List ℕ)} {q : List ℕ} {r : Result T E}
    → t ≡ u → PutsText a p t b q r → PutsText a p u b q r
text-is {a} {p} {t} {u} {b} {q} {r} e h = subst (λ (l : List ℕ). PutsText a p l b q r) e h

-- a line that says these fields, written whole
pub text-line : {T E : Type 0} {a : Option (List ℕ)} {p line : List ℕ} {b : Option (List ℕ)} {q : List ℕ} {r : Result T E} (fs : List (List ℕ))
    → line ≡ fields fs → PutsText a p (line ++ (10 ∷ [])) b q r → PutsText a p (line_text fs) b q r
text-line fs e h = text-is (ap (λ l. l ++ (10 ∷ [])) e) h

-- where all succeeded
pub text-done : {T E : Type 0} (x : T) {a : Option (List ℕ)} {p t : List ℕ} {b : Option (List ℕ)} {q : List ℕ} → Puts a p t b q → PutsText {E = E} a p t b q (Ok x)
text-done x h = record { ok = h; err = tt }

-- the exit of a `?`
pub text-failed : {T E : Type 0} (r : Result T E) {a : Option (List ℕ)} {p t : List ℕ} {b : Option (List ℕ)} {q : List ℕ}
    → IsErr r → PutsFront a p t b q → PutsText a p t b q r
text-failed (Ok x) is h = absurd (false≢true is)
text-failed (Err x) is h = record { ok = tt; err = h }

-- ---- a text for each element of a list

pub flat_map-more : {X : Type 0} (f : X → List ℕ) (xs : List X) (i : ℕ) (none : X) → i < length xs
    → flat_map f (take i xs) ++ f (get_or xs i none) ≡ flat_map f (take (i + 1) xs)
flat_map-more f xs i none h =
    let x = get_or xs i none in
    ap (λ l. flat_map f (take i xs) ++ l) (sym (append-nil (f x))) ∙ sym (flat_map-append f (take i xs) (x ∷ [])) ∙ ap (flat_map f) (sym (take_more xs i none h))

-- ---- fields

-- the fields after the first, each with its space
fields-behind : (text first : List ℕ) (fs : List (List ℕ)) → fields ((text ++ first) ∷ fs) ≡ text ++ fields (first ∷ fs)
fields-behind text first [] = refl
fields-behind text first (f ∷ fs) = ap (λ l. fields (l ∷ fs)) (append_assoc text first (32 ∷ f)) ∙ fields-behind text (first ++ (32 ∷ f)) fs

-- the first field, a space, and the others
pub fields-cons : (first second : List ℕ) (fs : List (List ℕ)) → fields (first ∷ second ∷ fs) ≡ first ++ (32 ∷ fields (second ∷ fs))
fields-cons first second fs = fields-behind first (32 ∷ second) fs ∙ ap (λ l. first ++ l) (fields-behind (32 ∷ []) second fs)
