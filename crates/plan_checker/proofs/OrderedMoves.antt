-- Moves in order: how many there are, and what enters an arc at a moment by them.
use Rattle.std.proofs.Common.{◌≡◌, ◌≢◌, ℕ, zero, suc, ◌+◌, ◌*◌, ◌<◌, ◌≤◌, ◌^◌, ◌⊎◌, inl, inr, Bool, true, false, cond, ◌&&◌, eqb, List, [], ◌∷◌, length, get_or, refl, ap, sym, ◌∙◌, arith, mul-le-mul_right, subst, ◌-◌}
use Rattle.std.specs.List.{sum_by, All, AllPairs}
use Rattle.std.proofs.lemmas.Bool.{cases_Bool, cases_lt}
use Rattle.std.proofs.lemmas.Bool.Decides.{nat_tests}
use Rattle.std.proofs.lemmas.List.Sums.{sum_by-cons, sum_by-le}
use Rattle.std.proofs.lemmas.Nat.{mul-add-lt}
use Rattle.evac_law.specs.declared.model.Model.{Model}
use Rattle.evac_law.specs.declared.plan.Move.{Move}
use Rattle.evac_law.specs.Building.{IsValid, rate}
use Rattle.evac_law.specs.Limits.{cell_limit}
use Rattle.evac_law.specs.Plans.{moved}
use Rattle.evac_law.specs.Stands.{Before, IsOrdered}
use Rattle.evac_law.proofs.SumLemmas.{same_pair}
use Rattle.certificate_text.specs.Block.{number_field_limit}
use Rattle.plan_checker.specs.Counts.{AreCountable, all_moved}
use Rattle.plan_checker.specs.Parts.{Earlier}

-- ---- at most one term

pub no_term : {X : Type 0} (f : X → ℕ) (xs : List X) (d : X) → ((j : ℕ) → j < length xs → f (get_or xs j d) ≡ 0) → sum_by f xs ≡ 0
no_term f [] d h = refl
no_term f (x ∷ xs) d h =
    omega (arith, sum_by-cons f x xs, h 0 (omega arith), no_term f xs d (λ j l. h (suc j) (omega (arith, l))))

pub one_term : {X : Type 0} (f : X → ℕ) (xs : List X) (i : ℕ) (d : X) → i < length xs → ((j : ℕ) → j < length xs → j ≢ i → f (get_or xs j d) ≡ 0)
    → sum_by f xs ≡ f (get_or xs i d)
one_term f [] i d l h = absurd (omega (arith, l))
one_term f (x ∷ xs) zero d l h =
    omega (arith, sum_by-cons f x xs, no_term f xs d (λ j k. h (suc j) (omega (arith, k)) (λ e. omega (arith, e))))
one_term f (x ∷ xs) (suc i) d l h =
    omega (
      arith,
      sum_by-cons f x xs,
      h 0 (omega arith) (λ e. omega (arith, e)),
      one_term f xs i d (omega (arith, l)) (λ j k n. h (suc j) (omega (arith, k)) (λ e. n (omega (arith, e)))),
    )

-- a place that passes, or none does
abbrev Found : {X : Type 0} → (X → Bool) → List X → X → Type 0
Found b xs d = ((i : ℕ) × (i < length xs) × (b (get_or xs i d) ≡ true)) ⊎ ((j : ℕ) → j < length xs → b (get_or xs j d) ≡ false)

found_more : {X : Type 0} (b : X → Bool) (x : X) (xs : List X) (d : X) → (b x ≡ true) ⊎ (b x ≡ false) → Found b xs d → Found b (x ∷ xs) d
found_more b x xs d (inl here) rest = inl (0, omega arith, here)
found_more b x xs d (inr other) (inl r) = inl (suc r.0, omega (arith, r.1), r.2)
found_more b x xs d (inr other) (inr none) = inr none_of
  where
    none_of : (j : ℕ) → j < length (x ∷ xs) → b (get_or (x ∷ xs) j d) ≡ false
    none_of zero l = other
    none_of (suc j) l = none j (omega (arith, l))

find_place : {X : Type 0} (b : X → Bool) (xs : List X) (d : X) → Found b xs d
find_place b [] d = inr (λ j l. absurd (omega (arith, l)))
find_place b (x ∷ xs) d = found_more b x xs d (cases_Bool (b x)) (find_place b xs d)

-- ---- what enters an arc at a moment

abbrev is_at : ℕ → ℕ → Move → Bool
is_at a t v = eqb v.arc a && eqb v.moment t

-- two moves in order aren't at one arc and moment
apart : (v w : Move) → Before v w → (a t : ℕ) → v.arc ≡ a → v.moment ≡ t → is_at a t w ≡ false
apart v w (inl l) a t e h = grind (arith, nat_tests)
apart v w (inr l) a t e h = let less = l.1 in grind (arith, nat_tests)

apart_back : (v w : Move) → Before v w → is_at w.arc w.moment v ≡ false
apart_back v w (inl less) = grind (arith, nat_tests)
apart_back v w (inr same) = let less = same.1 in grind (arith, nat_tests)

pub moved_at : (p : List Move) (i : ℕ) (d : Move) → AllPairs Before p → i < length p → moved p (get_or p i d).arc (get_or p i d).moment ≡ (get_or p i d).people
unfolding moved
moved_at p i d o l =
    let v = get_or p i d in
    one_term (λ (w : Move). cond (is_at v.arc v.moment w) w.people 0) p i d l (λ j k n. ap (λ b. cond b (get_or p j d).people 0) (other j k n)) ∙ here v
  where
    here : (v : Move) → cond (is_at v.arc v.moment v) v.people 0 ≡ v.people
    here v = grind (arith, nat_tests)

    other : (j : ℕ) → j < length p → j ≢ i → is_at (get_or p i d).arc (get_or p i d).moment (get_or p j d) ≡ false
    other j k n = split (cases_lt i j)
      where
        split : (i < j) ⊎ (j ≤ i) → is_at (get_or p i d).arc (get_or p i d).moment (get_or p j d) ≡ false
        split (inl after) = apart (get_or p i d) (get_or p j d) (o i j d after k) (get_or p i d).arc (get_or p i d).moment refl refl
        split (inr before) = apart_back (get_or p j d) (get_or p i d) (o j i d (omega (arith, n)) l)

-- the move of an arc and moment, or nobody enters there
pub record MoveThere (p : List Move) (a t : ℕ) (d : Move) : Type 0 where
  pub place : ℕ
  pub in_list : place < length p
  pub same_arc : (get_or p place d).arc ≡ a
  pub same_moment : (get_or p place d).moment ≡ t
  pub people : moved p a t ≡ (get_or p place d).people

pub moved_cases : (p : List Move) (a t : ℕ) (d : Move) → AllPairs Before p → MoveThere p a t d ⊎ (moved p a t ≡ 0)
unfolding moved
moved_cases p a t d o = split (find_place (is_at a t) p d)
  where
    split : Found (is_at a t) p d → MoveThere p a t d ⊎ (moved p a t ≡ 0)
    split (inl r) =
        let same = same_pair (get_or p r.0 d).arc a (get_or p r.0 d).moment t r.2 in
        inl (record {
          place = r.0;
          in_list = r.1;
          same_arc = same.0;
          same_moment = same.1;
          people = ap (λ z. moved p z t) (sym same.0) ∙ ap (λ z. moved p (get_or p r.0 d).arc z) (sym same.1) ∙ moved_at p r.0 d o r.1;
        })
    split (inr none) = inr (no_term (λ (w : Move). cond (is_at a t w) w.people 0) p d (λ j l. ap (λ b. cond b (get_or p j d).people 0) (none j l)))

-- a move at an earlier moment and arc than another stands before it
pub earlier_before : (p : List Move) (i j : ℕ) (d : Move) → AllPairs Before p → i < length p → j < length p
    → Earlier (get_or p j d).moment (get_or p j d).arc (get_or p i d).moment (get_or p i d).arc → j < i
earlier_before p i j d o l h e =
    let same : i ≡ j → get_or p i d ≡ get_or p j d = ap (λ z. get_or p z d) in
    grind (arith, l, h, e, o i j d, same)

-- ---- how many moves there are

abbrev code : ℕ → Move → ℕ
code n v = v.moment * n + v.arc

code_grows : (n : ℕ) (v w : Move) → v.arc < n → Before v w → code n v < code n w
code_grows n v w l (inl b) = let more : (v.moment + 1) * n ≤ w.moment * n = mul-le-mul_right n (omega (arith, b)) in omega (arith, more, l)
code_grows n v w l (inr b) = let same = ap (λ z. z * n) b.0 in omega (arith, same, b.1)

place_le_code : (n : ℕ) (p : List Move) (d : Move) (i : ℕ) → AllPairs Before p → ((j : ℕ) → j < length p → (get_or p j d).arc < n) → i < length p
    → i ≤ code n (get_or p i d)
place_le_code n p d zero o a l = omega arith
place_le_code n p d (suc i) o a l =
    omega (
      arith,
      place_le_code n p d i o a (omega (arith, l)),
      code_grows n (get_or p i d) (get_or p (suc i) d) (a i (omega (arith, l))) (o i (suc i) d (omega arith) l),
    )

abbrev pub no_move : Move
no_move = record { moment = 0; arc = 0; people = 0 }

pub few_moves : (n h : ℕ) (p : List Move) → IsOrdered n h p → length p ≤ n * (h + 1)
few_moves n h p o = split (cases_lt 0 (length p))
  where
    split : (0 < length p) ⊎ (length p ≤ 0) → length p ≤ n * (h + 1)
    split (inr none) = omega (arith, none)
    split (inl some) =
        let i = length p - 1 in
        let l : i < length p = omega (arith, some) in
        let v = get_or p i no_move in
        let moment : v.moment < h + 1 = omega (arith, (o.in_range i no_move l).1) in
        omega (
          arith,
          place_le_code n p no_move i o.sorted (λ j k. (o.in_range j no_move k).0) l,
          mul-add-lt v.moment n v.arc (h + 1) moment (o.in_range i no_move l).0,
        )

moves_fit : (m : Model) (p : List Move) → IsValid m → IsOrdered (length m.arcs) m.horizon p → All (λ v. v.people ≤ number_field_limit) p
    → all_moved p < 2 ^ 62
unfolding cell_limit number_field_limit
moves_fit m p valid o few =
    let arcs : length m.arcs * (m.horizon + 1) ≤ (length m.nodes + length m.arcs) * (m.horizon + 1) = mul-le-mul_right (m.horizon + 1) (omega arith) in
    omega (arith, sum_by-le (λ (v : Move). v.people) number_field_limit p few, few_moves (length m.arcs) m.horizon p o, arcs, valid.cells_fit)

pub countable : (m : Model) (p : List Move) → IsValid m → IsOrdered (length m.arcs) m.horizon p → All (λ v. v.people ≤ number_field_limit) p → AreCountable m p
countable m p valid ordered few = record { valid = valid; ordered = ordered; few = moves_fit m p valid ordered few }

-- ---- rates that the moves keep are kept

pub kept_at : (m : Model) (p : List Move) (a t : ℕ) (d : Move) → AllPairs Before p
    → ((j : ℕ) → j < length p → (get_or p j d).arc ≡ a → (get_or p j d).moment ≡ t → (get_or p j d).people ≤ rate m (get_or p j d).arc (get_or p j d).moment)
    → moved p a t ≤ rate m a t
kept_at m p a t d o h = split (moved_cases p a t d o)
  where
    split : MoveThere p a t d ⊎ (moved p a t ≡ 0) → moved p a t ≤ rate m a t
    split (inl v) =
        omega (
          arith,
          v.people,
          h v.place v.in_list v.same_arc v.same_moment,
          ap (λ z. rate m z (get_or p v.place d).moment) v.same_arc,
          ap (λ z. rate m a z) v.same_moment,
        )
    split (inr none) = omega (arith, none)

pub kept_before : (m : Model) (p : List Move) (i : ℕ) (d : Move) → AllPairs Before p → i < length p
    → ((j : ℕ) → j < i → (get_or p j d).moment ≤ (get_or p i d).moment → (get_or p j d).people ≤ rate m (get_or p j d).arc (get_or p j d).moment)
    → (b s : ℕ) → Earlier s b (get_or p i d).moment (get_or p i d).arc → moved p b s ≤ rate m b s
kept_before m p i d o l h b s e = kept_at m p b s d o there
  where
    there : (j : ℕ) → j < length p → (get_or p j d).arc ≡ b → (get_or p j d).moment ≡ s → (get_or p j d).people ≤ rate m (get_or p j d).arc (get_or p j d).moment
    there j k f g =
        let v = get_or p i d in
        let by_moment = subst (λ z. Earlier z b v.moment v.arc) (sym g) e in
        let by_arc = subst (λ z. Earlier (get_or p j d).moment z v.moment v.arc) (sym f) by_moment in
        h j (earlier_before p i j d o l k by_arc) (grind (arith, by_arc))
