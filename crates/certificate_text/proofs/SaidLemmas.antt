-- What lines say, one after another.
use Rattle.std.proofs.Common.{◌≡◌, ℕ, true, false, cond, List, [], ◌∷◌, ◌++◌, Some, None, map, refl, sym, ap, ap₂, ◌∙◌}
use Rattle.std.specs.declared.option.Option.{Option}
use Rattle.std.specs.List.{filter}
use Rattle.std.proofs.lemmas.List.{map-append}
use Rattle.std.proofs.lemmas.List.Elements.{filter-append}
use Rattle.certificate_text.specs.declared.entry.Entry.{Entry}
use Rattle.certificate_text.specs.BlockReadings.{as_said, said_by, says_something}
use Rattle.certificate_text.specs.Entries.{entry_of}

pub said_by-nil : said_by [] ≡ []
unfolding said_by
said_by-nil = refl

pub said_by-append : (xs ys : List (List ℕ)) → said_by (xs ++ ys) ≡ said_by xs ++ said_by ys
unfolding said_by
said_by-append xs ys = ap (filter says_something) (map-append entry_of xs ys) ∙ filter-append says_something (map entry_of xs) (map entry_of ys)

said_by-one : (text : List ℕ) → said_by (text ∷ []) ≡ cond (says_something (entry_of text)) (entry_of text ∷ []) []
unfolding said_by
said_by-one text = refl

said_by-option : (text : List ℕ) (o : Option Entry) → entry_of text ≡ o → said_by (text ∷ []) ≡ cond (says_something o) (o ∷ []) []
said_by-option text o is = said_by-one text ∙ ap (λ x. cond (says_something x) (x ∷ []) []) is

-- a line that no block has
pub said_by-bad : (text : List ℕ) → entry_of text ≡ None → said_by (text ∷ []) ≡ None ∷ []
said_by-bad text is = said_by-option text None is

pub said_by-entry : (text : List ℕ) (e : Entry) → entry_of text ≡ Some e → says_something (Some e) ≡ true → said_by (text ∷ []) ≡ as_said (e ∷ [])
said_by-entry text e is h = said_by-option text (Some e) is ∙ ap (λ b. cond b (Some e ∷ []) []) h

pub said_by-blank : (text : List ℕ) (e : Entry) → entry_of text ≡ Some e → says_something (Some e) ≡ false → said_by (text ∷ []) ≡ []
said_by-blank text e is h = said_by-option text (Some e) is ∙ ap (λ b. cond b (Some e ∷ []) []) h

-- ---- entries as they are said

pub as_said-append : (xs ys : List Entry) → as_said (xs ++ ys) ≡ as_said xs ++ as_said ys
as_said-append xs ys = map-append (λ (e : Entry). Some e) xs ys

-- entries that begin as others do
pub as_said-split : (xs ys : List Entry) (zs : List (Option Entry)) → as_said xs ≡ as_said ys ++ zs → (ws : List Entry) × (xs ≡ ys ++ ws) × (as_said ws ≡ zs)
as_said-split xs [] zs e = (xs, refl, e)
as_said-split [] (y ∷ ys) zs e = cc
as_said-split (x ∷ xs) (y ∷ ys) zs e =
    let first : x ≡ y = cc in
    let more : as_said xs ≡ as_said ys ++ zs = cc in
    let r = as_said-split xs ys zs more in (r.0, ap₂ (λ a b. a ∷ b) first r.1, r.2)

-- what stands at their end are entries too
pub as_said-end : (xs : List Entry) (us zs : List (Option Entry)) → as_said xs ≡ us ++ zs → (ws : List Entry) × (zs ≡ as_said ws)
as_said-end xs [] zs e = (xs, sym e)
as_said-end [] (u ∷ us) zs e = cc
as_said-end (x ∷ xs) (u ∷ us) zs e = let more : as_said xs ≡ us ++ zs = cc in as_said-end xs us zs more

pub as_said-same : (xs ys : List Entry) → as_said xs ≡ as_said ys → xs ≡ ys
as_said-same [] [] e = refl
as_said-same [] (y ∷ ys) e = cc
as_said-same (x ∷ xs) [] e = cc
as_said-same (x ∷ xs) (y ∷ ys) e =
    let first : x ≡ y = cc in
    let more : as_said xs ≡ as_said ys = cc in ap₂ (λ a b. a ∷ b) first (as_said-same xs ys more)
