-- Who arrives at exits, by the arcs into them.
use Rattle.std.proofs.Common.{◌≡◌, ◌∙◌, ℕ, ◌+◌, ◌-◌, ◌<◌, suc, Bool, true, false, cond, leb, List, [], ◌∷◌, ◌++◌, length, get_or, refl, sym, ap, subst, add-one, append-nil, arith}
use Rattle.std.specs.List.{filter, sum_by}
use Rattle.std.proofs.lemmas.Bool.{and_right}
use Rattle.std.proofs.lemmas.List.Elements.{All-filter, filter-append, filter_passes}
use Rattle.std.proofs.lemmas.List.Sums.{sum_by-cons}
use Rattle.evac_law.specs.declared.model.Model.{Model}
use Rattle.evac_law.specs.declared.plan.Move.{Move}
use Rattle.evac_law.specs.Building.{arc_at}
use Rattle.evac_law.specs.Plans.{moved}
use Rattle.evac_law.specs.Sums.{below, places}
use Rattle.evac_law.proofs.Curve.{arriving_by}
use Rattle.evac_law.proofs.SumLemmas.{All-below, below-suc}
use Rattle.certificate_text.specs.ExitArcs.{arcs_out, leads_out}

filter-suc : (p : ℕ → Bool) (n : ℕ) → filter p (below (suc n)) ≡ filter p (below n) ++ cond (p n) (n ∷ []) []
filter-suc p n = ap (filter p) (below-suc n) ∙ filter-append p (below n) (n ∷ [])

-- one more number that passes, and one that doesn't
pub filter_yes : (p : ℕ → Bool) (n : ℕ) → p n ≡ true → filter p (below (n + 1)) ≡ filter p (below n) ++ (n ∷ [])
filter_yes p n e = ap (λ k. filter p (below k)) (add-one n) ∙ filter-suc p n ∙ ap (λ b. filter p (below n) ++ cond b (n ∷ []) []) e

pub filter_no : (p : ℕ → Bool) (n : ℕ) → p n ≡ false → filter p (below (n + 1)) ≡ filter p (below n)
filter_no p n e = ap (λ k. filter p (below k)) (add-one n) ∙ filter-suc p n ∙ ap (λ b. filter p (below n) ++ cond b (n ∷ []) []) e ∙ append-nil (filter p (below n))

-- what is at a place of the list of arcs into exits
pub out_at : (m : Model) (arcs : List ℕ) (i d : ℕ) → arcs ≡ arcs_out m → i < length arcs → (get_or arcs i d < length m.arcs) × (leads_out m (get_or arcs i d) ≡ true)
out_at m arcs i d e l = subst (λ (xs : List ℕ). i < length xs → (get_or xs i d < length m.arcs) × (leads_out m (get_or xs i d) ≡ true)) (sym e) (λ l. (inside l, passes l)) l
  where
    inside : i < length (arcs_out m) → get_or (arcs_out m) i d < length m.arcs
    inside l = All-filter (leads_out m) (λ a. a < length m.arcs) (places m.arcs) (All-below (λ a. a < length m.arcs) (length m.arcs) (λ _ l. l)) i d l

    passes : i < length (arcs_out m) → leads_out m (get_or (arcs_out m) i d) ≡ true
    passes l = filter_passes (leads_out m) (places m.arcs) i d l

kept : (b : Bool) (f : ℕ → ℕ) (x : ℕ) (ys xs : List ℕ) → (b ≡ false → f x ≡ 0) → sum_by f ys ≡ sum_by f xs → sum_by f (cond b (x ∷ ys) ys) ≡ sum_by f (x ∷ xs)
kept true f x ys xs none e = omega (arith, e, sum_by-cons f x ys, sum_by-cons f x xs)
kept false f x ys xs none e = omega (arith, e, none refl, sum_by-cons f x xs)

-- terms that are 0 where a test fails may be left out
sum_by-filter : (p : ℕ → Bool) (f : ℕ → ℕ) (xs : List ℕ) → ((x : ℕ) → p x ≡ false → f x ≡ 0) → sum_by f (filter p xs) ≡ sum_by f xs
sum_by-filter p f [] none = refl
sum_by-filter p f (x ∷ xs) none = kept (p x) f x (filter p xs) xs (none x) (sum_by-filter p f xs none)

by_others : (m : Model) (p : List Move) (k a : ℕ) → leads_out m a ≡ false → arriving_by m p k a ≡ 0
unfolding arriving_by
by_others m p k a e = ap (λ b. cond b (moved p a (k - (arc_at m a).travel)) 0) (and_right (leb (arc_at m a).travel k) (leads_out m a) e)

-- whoever arrives at exits comes by the arcs into them
pub arriving-out : (m : Model) (p : List Move) (k : ℕ) → sum_by (arriving_by m p k) (arcs_out m) ≡ sum_by (arriving_by m p k) (places m.arcs)
arriving-out m p k = sum_by-filter (leads_out m) (arriving_by m p k) (places m.arcs) (by_others m p k)
