-- Entrants in a table by node and moment.
use Rattle.std.proofs.Common.{◌≡◌, ℕ, Bool, true, false, cond, ◌&&◌, ◌||◌, ◌==◌, nat_lt, List, [], ◌∷◌, map, Some, is_some, refl, ap, ap₂, ◌∙◌, arith}
use Rattle.std.specs.BTreeMap.{insert_entry}
use Rattle.std.specs.List.{list_any}
use Rattle.std.specs.Map.{lookup}
use Rattle.std.specs.Ordering.{match_ordering, nat_cmp, ordering_then, is_eq}
use Rattle.std.specs.declared.cmp.Ordering.{Ordering}
use Rattle.std.specs.declared.cmp.Ordering.TheVariants.{Less, Equal, Greater}
use Rattle.std.specs.declared.option.Option.{Option}
use Rattle.std.proofs.lemmas.Bool.{ltb-true, ne_eqb, or_parts}
use Rattle.building_table.specs.EntrantRows.{entrant_row}
use Rattle.building_table.proofs.EqLemmas.{test-swap}
use Rattle.model_text.specs.Taken.{comes_before, entrant_of, is_coming, with_entrant}

-- the order of the keys: by node and then by moment
abbrev pub key-order : ℕ × ℕ → ℕ × ℕ → Ordering
key-order k l = ordering_then (nat_cmp k.0 l.0) (nat_cmp k.1 l.1)

-- an order by two tests of each number
abbrev by-tests : Bool → Bool → Bool → Bool → Ordering
by-tests less same earlier then' = ordering_then (cond less Less (cond same Equal Greater)) (cond earlier Less (cond then' Equal Greater))

equal-tests : (less same earlier then' : Bool) → (less ≡ true → same ≡ false) → (earlier ≡ true → then' ≡ false) → is_eq (by-tests less same earlier then') ≡ same && then'
equal-tests true true earlier then' h k = let no : true ≡ false = h refl in cc
equal-tests true false earlier then' h k = refl
equal-tests false true true true h k = let no : true ≡ false = k refl in cc
equal-tests false true true false h k = refl
equal-tests false true false true h k = refl
equal-tests false true false false h k = refl
equal-tests false false earlier then' h k = refl

place-tests : {X : Type 0} (less same earlier then' : Bool) (a b c : X) → same && then' ≡ false → match_ordering (by-tests less same earlier then') a b c ≡ cond (less || (same && earlier)) a c
place-tests true same earlier then' a b c h = refl
place-tests false true true then' a b c h = refl
place-tests false true false true a b c h = cc
place-tests false true false false a b c h = refl
place-tests false false earlier then' a b c h = refl

less-differs : (a b : ℕ) → nat_lt a b ≡ true → (a == b) ≡ false
less-differs a b h = ne_eqb a b (λ e. let l = ltb-true a b h in omega arith)

-- the test of a key is that of its entrant
key-test : (k l : ℕ × ℕ) (people : ℕ) → is_eq (key-order k l) ≡ is_coming k.0 k.1 (entrant_of l.0 l.1 people)
key-test k l people = grind (arith, equal-tests, less-differs, test-swap)

-- a key is found where its entrant is listed
pub found-listed : (k : ℕ × ℕ) (es : List ((ℕ × ℕ) × ℕ)) → is_some (lookup (λ l. is_eq (key-order k l)) es) ≡ list_any (is_coming k.0 k.1) (map entrant_row es)
found-listed k [] = refl
found-listed k (e ∷ es) =
    ap (λ t. found-first t e.1 (lookup (λ l. is_eq (key-order k l)) es)) (key-test k e.0 e.1)
    ∙ some-first (is_coming k.0 k.1 (entrant_row e)) e.1 (lookup (λ l. is_eq (key-order k l)) es)
    ∙ ap (λ t. is_coming k.0 k.1 (entrant_row e) || t) (found-listed k es)
  where
    found-first : Bool → ℕ → Option ℕ → Bool
    found-first t x o = is_some (cond t (Some x) o)

    some-first : (t : Bool) (x : ℕ) (o : Option ℕ) → found-first t x o ≡ t || is_some o
    some-first true x o = refl
    some-first false x o = refl

map-cond : (t : Bool) (a b : List ((ℕ × ℕ) × ℕ)) → map entrant_row (cond t a b) ≡ cond t (map entrant_row a) (map entrant_row b)
map-cond true a b = refl
map-cond false a b = refl

-- a new key goes to the place of its entrant
pub insert-listed : (k : ℕ × ℕ) (people : ℕ) (es : List ((ℕ × ℕ) × ℕ)) → list_any (is_coming k.0 k.1) (map entrant_row es) ≡ false
    → map entrant_row (insert_entry key-order es k people) ≡ with_entrant (map entrant_row es) (entrant_of k.0 k.1 people)
insert-listed k people [] new = refl
insert-listed k people (e ∷ es) new =
    let parts = or_parts (is_coming k.0 k.1 (entrant_row e)) (list_any (is_coming k.0 k.1) (map entrant_row es)) new in
    let apart : (k.0 == e.0.0) && (k.1 == e.0.1) ≡ false = ap₂ (λ x y. x && y) (test-swap k.0 e.0.0) (test-swap k.1 e.0.1) ∙ parts.0 in
    let front : List ((ℕ × ℕ) × ℕ) = (k, people) ∷ e ∷ es in
    let behind : List ((ℕ × ℕ) × ℕ) = e ∷ insert_entry key-order es k people in
    let first : Bool = comes_before (entrant_of k.0 k.1 people) (entrant_row e) in
    ap (map entrant_row) (place-tests (nat_lt k.0 e.0.0) (k.0 == e.0.0) (nat_lt k.1 e.0.1) (k.1 == e.0.1) front ((e.0, people) ∷ es) behind apart)
    ∙ map-cond first front behind
    ∙ ap (λ l. cond first (map entrant_row front) (entrant_row e ∷ l)) (insert-listed k people es parts.1)
