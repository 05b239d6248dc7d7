-- One node more, and the list of a floor by its place.
use Rattle.std.proofs.Common.{◌≡◌, ℕ, suc, ◌+◌, Bool, true, false, cond, eqb, ltb, List, [], ◌∷◌, ◌++◌, length, get_or, map, refl, ap, arith, ◌∙◌, add-one, Some, None, inl, inr}
use Rattle.std.specs.List.{filter, list_any, position_or_len}
use Rattle.std.proofs.lemmas.Bool.Decides.{nat_tests}
use Rattle.std.proofs.lemmas.Bool.{cases_Bool, eqb-true, lt-ltb}
use Rattle.std.proofs.lemmas.List.Elements.{filter-append}
use Rattle.evac_law.specs.declared.model.Model.{Model}
use Rattle.evac_law.specs.Sums.{below}
use Rattle.evac_law.proofs.SumLemmas.{below-suc}
use Rattle.floor_index.specs.Floors.{FloorTable, list_at, listed, nodes_on, table_of}

pub filter-more : (p : ℕ → Bool) (n : ℕ) → filter p (below (n + 1)) ≡ filter p (below n) ++ cond (p n) (n ∷ []) []
filter-more p n = ap (λ i. filter p (below i)) (add-one n) ∙ ap (filter p) (below-suc n) ∙ filter-append p (below n) (n ∷ [])

pub filter-none : (p : ℕ → Bool) → filter p (below 0) ≡ []
filter-none p = refl

pub ruleset filter_more = (filter-more, filter-none)

pick : (b : Bool) (k : ℕ) (t : FloorTable) → list_at t (cond b (Some k) None) ≡ cond b (get_or t.lists k []) []
pick true k t = refl
pick false k t = refl

suc_lt : (k n : ℕ) → ltb (suc k) (suc n) ≡ ltb k n
suc_lt k n = grind (arith, nat_tests)

first_in : (n : ℕ) (y : List ℕ) → cond (ltb 0 (suc n)) y [] ≡ y
first_in n y = ap (λ b. cond b y []) (lt-ltb 0 (suc n) (omega arith))

next_in : (k n : ℕ) (first : List ℕ) (lists : List (List ℕ))
    → cond (ltb (1 + k) (suc n)) (get_or (first ∷ lists) (1 + k) []) [] ≡ cond (ltb k n) (get_or lists k []) []
next_in k n first lists = grind (arith, suc_lt)

by_floors : (m : Model) (floors : List ℕ) (floor : ℕ)
    → cond (ltb (position_or_len (λ f. eqb f floor) floors) (length floors)) (get_or (map (nodes_on m) floors) (position_or_len (λ f. eqb f floor) floors) []) []
    ≡ cond (list_any (λ f. eqb f floor) floors) (nodes_on m floor) []
by_floors m [] floor = refl
by_floors m (x ∷ xs) floor = elim (cases_Bool (eqb x floor)) [
  | inl e ↦ rw e (first_in (length xs) (nodes_on m x) ∙ ap (nodes_on m) (eqb-true x floor e))
  | inr e ↦ rw e (next_in (position_or_len (λ f. eqb f floor) xs) (length xs) (nodes_on m x) (map (nodes_on m) xs) ∙ by_floors m xs floor)
]

pub listed_is : (m : Model) (floors : List ℕ) (floor : ℕ)
    → listed (table_of m floors) floor ≡ cond (list_any (λ f. eqb f floor) floors) (nodes_on m floor) []
listed_is m floors floor =
    pick (ltb (position_or_len (λ f. eqb f floor) floors) (length floors)) (position_or_len (λ f. eqb f floor) floors) (table_of m floors)
    ∙ by_floors m floors floor
