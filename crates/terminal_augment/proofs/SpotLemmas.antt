-- Lists, and pairs in them.
use Rattle.std.proofs.Common.{◌≡◌, ℕ, zero, suc, true, ◌&&◌, eqb, List, [], ◌∷◌, drop, arith, inl, inr}
use Rattle.std.specs.List.{All}
use Rattle.std.proofs.lemmas.Bool.{eqb-true, and_parts, or_cases, or_right}
use Rattle.terminal_augment.specs.declared.spot.Met.{Met}
use Rattle.terminal_augment.specs.Chains.{spots}
use Rattle.terminal_augment.specs.Spots.{has}

pub all_rest : {A : Type 0} (P : A → Type 0) (x : A) (xs : List A) → All P (x ∷ xs) → All P xs
all_rest P x xs all j d l = all (suc j) d (omega arith)

pub all_cons : {A : Type 0} (P : A → Type 0) (x : A) (xs : List A) → P x → All P xs → All P (x ∷ xs)
all_cons P x xs h hs zero d l = h
all_cons P x xs h hs (suc j) d l = hs j d (omega (arith, l))

pub at_spot : (n t u v : ℕ) (P : ℕ → ℕ → Type 0) → (eqb n u && eqb t v) ≡ true → P n t → P u v
at_spot n t u v P e h = grind (arith, and_parts, eqb-true)

pub all_has : (P : ℕ → ℕ → Type 0) (ms : List Met) → All (λ m. P m.spot.node m.spot.moment) ms → (n t : ℕ) → has (spots ms) n t ≡ true → P n t
all_has P [] all n t e = absurd (cc)
all_has P (m ∷ ms) all n t e = elim (or_cases (eqb m.spot.node n && eqb m.spot.moment t) (has (spots ms) n t) e) [
  | inl here ↦ at_spot m.spot.node m.spot.moment n t P here (all 0 m (omega arith))
  | inr later ↦ all_has P ms (all_rest (λ (r : Met). P r.spot.node r.spot.moment) m ms all) n t later
]

pub has_drop : (i : ℕ) (ms : List Met) (n t : ℕ) → has (spots (drop i ms)) n t ≡ true → has (spots ms) n t ≡ true
has_drop zero ms n t e = e
has_drop (suc i) [] n t e = e
has_drop (suc i) (m ∷ ms) n t e = or_right (eqb m.spot.node n && eqb m.spot.moment t) _ (has_drop i ms n t e)
