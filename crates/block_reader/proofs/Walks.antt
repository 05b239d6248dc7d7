-- Entries that a draft takes one by one.
use Rattle.std.proofs.Common.{◌≡◌, ℕ, ◌<◌, zero, suc, List, [], ◌∷◌, ◌++◌, Some, None, refl, ap, ◌∙◌, arith}
use Rattle.std.specs.declared.option.Option.{Option}
use Rattle.std.specs.List.{flat_map}
use Rattle.std.specs.Option.{option_and_then}
use Rattle.evac_law.specs.declared.model.Model.{Model}
use Rattle.evac_law.specs.Sums.{below}
use Rattle.evac_law.proofs.PartLemmas.{flat_map-suc}
use Rattle.certificate_text.specs.declared.entry.Entry.{Entry}
use Rattle.block_reader.specs.Drafts.{Draft, with_entry}

-- the draft with all of these entries, if they may stand there
unfoldable pub walk : Model → Draft → List Entry → Option Draft
walk m d [] = Some d
walk m d (e ∷ es) = option_and_then (λ x. walk m x es) (with_entry m d e)

pub walk-none : (m : Model) (d : Draft) → walk m d [] ≡ Some d
unfolding walk
walk-none m d = refl

pub walk-cons : (m : Model) (d : Draft) (e : Entry) (es : List Entry) → walk m d (e ∷ es) ≡ option_and_then (λ x. walk m x es) (with_entry m d e)
unfolding walk
walk-cons m d e es = refl

bind-walk : (m : Model) (o : Option Draft) (xs ys : List Entry) → ((d : Draft) → walk m d (xs ++ ys) ≡ option_and_then (λ x. walk m x ys) (walk m d xs))
    → option_and_then (λ x. walk m x (xs ++ ys)) o ≡ option_and_then (λ x. walk m x ys) (option_and_then (λ x. walk m x xs) o)
bind-walk m None xs ys h = refl
bind-walk m (Some d) xs ys h = h d

pub walk-append : (m : Model) (d : Draft) (xs ys : List Entry) → walk m d (xs ++ ys) ≡ option_and_then (λ x. walk m x ys) (walk m d xs)
unfolding walk
walk-append m d [] ys = refl
walk-append m d (e ∷ es) ys = bind-walk m (with_entry m d e) es ys (λ x. walk-append m x es ys)

-- ---- entries one after another

pub walk-then : (m : Model) (a b c : Draft) (xs ys : List Entry) → walk m a xs ≡ Some b → walk m b ys ≡ Some c → walk m a (xs ++ ys) ≡ Some c
walk-then m a b c xs ys h g = walk-append m a xs ys ∙ ap (option_and_then (λ x. walk m x ys)) h ∙ g

pub walk-next : (m : Model) (a b c : Draft) (e : Entry) (es : List Entry) → with_entry m a e ≡ Some b → walk m b es ≡ Some c → walk m a (e ∷ es) ≡ Some c
walk-next m a b c e es h g = walk-cons m a e es ∙ ap (option_and_then (λ x. walk m x es)) h ∙ g

pub walk-one : (m : Model) (a b : Draft) (e : Entry) → with_entry m a e ≡ Some b → walk m a (e ∷ []) ≡ Some b
walk-one m a b e h = walk-next m a b b e [] h (walk-none m b)

-- entries for each number below n
pub walk-below : (m : Model) (s : ℕ → Draft) (f : ℕ → List Entry) (n : ℕ) → ((i : ℕ) → i < n → walk m (s i) (f i) ≡ Some (s (suc i))) → walk m (s 0) (flat_map f (below n)) ≡ Some (s n)
walk-below m s f zero h = walk-none m (s 0)
walk-below m s f (suc n) h =
    ap (walk m (s 0)) (flat_map-suc f n)
    ∙ walk-then m (s 0) (s n) (s (suc n)) (flat_map f (below n)) (f n) (walk-below m s f n (λ i l. h i (omega arith))) (h n (omega arith))
