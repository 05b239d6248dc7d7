-- A plan that is carried out, and then a plan of what is left.
use Rattle.std.proofs.Common.{◌≡◌, ℕ, ◌+◌, ◌<◌, ◌≤◌, true, false, cond, ◌||◌, eqb, ltb, sym, inl, inr, ◌⊎◌, List, [], ◌∷◌, ◌++◌, length, map, refl, ap, ap₂, ◌∙◌, arith, pos, ◌+ℤ◌}
use Rattle.std.specs.List.{All, flat_map}
use Rattle.std.proofs.lemmas.List.{length-map}
use Rattle.std.proofs.lemmas.List.Elements.{All-head, All-tail, filter-append}
use Rattle.std.proofs.lemmas.Bool.{cases_Bool, cases_order, lt-ltb}
use Rattle.evac_law.specs.declared.entrant.Entrant.{Entrant}
use Rattle.evac_law.specs.declared.model.Model.{Model}
use Rattle.evac_law.specs.declared.model.NodeRow.{NodeRow}
use Rattle.evac_law.specs.declared.plan.Move.{Move}
use Rattle.evac_law.specs.Building.{IsValid, entry, is_exit_at}
use Rattle.evac_law.specs.Entrants.{table_entrant, table_entrants}
use Rattle.evac_law.specs.Plans.{TakesAllOut, above, coming, inside, leaving, out_by}
use Rattle.evac_law.specs.Sums.{below, moments_to}
use Rattle.evac_law.proofs.PartLemmas.{flat_map-same}
use Rattle.evac_law.proofs.SumLemmas.{All-below}
use Rattle.replan.specs.Committed.{moves_before}
use Rattle.replan.specs.Rest.{without_start, rest, rest_entry}
use Rattle.replan.specs.RestLaws.{IsCarriedOutOnce}
use Rattle.replan.proofs.Goes.{held_after}
use Rattle.replan.proofs.LeftOver.{is_left}
use Rattle.replan.proofs.Parted.{IsBehind, all_late, before_is, coming_behind, leaving_behind, leaving_over, outs_behind, whole_behind}
use Rattle.replan.proofs.Shifted.{IsLeft, rest_later, rest_none, rest_now, same_coming, same_leaving, same_out}

-- ---- lists

emptied_again : (xs : List NodeRow) → map without_start (map without_start xs) ≡ map without_start xs
emptied_again [] = refl
emptied_again (x ∷ xs) = ap (λ (l : List NodeRow). without_start x ∷ l) (emptied_again xs)

kept_all : (t : ℕ) (p : List Move) → All (λ v. v.moment < t) p → moves_before t p ≡ p
kept_all t [] h = refl
kept_all t (v ∷ p) h =
    ap (λ b. cond b (v ∷ moves_before t p) (moves_before t p)) (lt-ltb v.moment t (All-head (λ v. v.moment < t) v p h))
    ∙ ap (λ (l : List Move). v ∷ l) (kept_all t p (All-tail (λ v. v.moment < t) v p h))

-- of a whole, the moves before a later moment
before_whole : (p r : List Move) (s t : ℕ) → s ≤ t → moves_before t (moves_before s p ++ r) ≡ moves_before s p ++ moves_before t r
before_whole p r s t l =
    filter-append (λ v. ltb v.moment t) (moves_before s p) r
    ∙ ap (λ (x : List Move). x ++ moves_before t r) (kept_all t (moves_before s p) (λ i d k. omega (arith, before_is s p i d k, l)))

entrants_same : (nodes h : ℕ) (f g : ℕ → ℕ → ℕ) → ((n t : ℕ) → n < nodes → t ≤ h → f n t ≡ g n t) → table_entrants nodes h f ≡ table_entrants nodes h g
unfolding table_entrants
entrants_same nodes h f g e =
    flat_map-same (λ n. flat_map (λ t. table_entrant f n t) (moments_to h)) (λ n. flat_map (λ t. table_entrant g n t) (moments_to h)) (below nodes)
    (All-below (λ n. flat_map (λ t. table_entrant f n t) (moments_to h) ≡ flat_map (λ t. table_entrant g n t) (moments_to h)) nodes
    (λ n l. flat_map-same (λ t. table_entrant f n t) (λ t. table_entrant g n t) (moments_to h)
    (All-below (λ t. table_entrant f n t ≡ table_entrant g n t) (h + 1)
    (λ t k. ap (λ w. cond (eqb t 0 || eqb w 0) [] (record { node = n; moment = t; people = w } ∷ [])) (e n t l (omega (arith, k)))))))

module _ (m : Model) (p r : List Move) (s t : ℕ) (valid : IsValid m) (first : 1 ≤ s) (ordered : s ≤ t) (in_horizon : t ≤ m.horizon) (all : TakesAllOut m p)
    (late : All (λ v. s ≤ v.moment) r) where
  abbrev left : Model
  left = rest m p s

  abbrev whole : List Move
  whole = moves_before s p ++ r

  of : IsLeft m p s left
  of = is_left m p s valid first (omega arith) all

  behind : IsBehind m p s r whole
  behind = whole_behind m p s r all.feasible.arcs

  inside_same : (n : ℕ) → n < length m.nodes → is_exit_at m n ≡ false → inside left r n t ≡ inside m whole n t
  inside_same n i e =
      let here = held_after m left p r whole s valid (omega arith) all (all_late s r late) of behind n t i e ordered in
      let gone : leaving left r n t ≡ leaving m whole n t = omega (
        arith,
        same_leaving m left r n t refl,
        leaving_behind m p r whole s behind n t,
        leaving_over m p n s t ordered,
      ) in
      ap₂ (λ x y. above (x +ℤ pos y) 0) here gone

  later_same : (n j : ℕ) → n < length m.nodes → is_exit_at m n ≡ false → t < j
      → entry left n j + coming left (moves_before t r) n j ≡ entry m n j + coming m (moves_before t whole) n j
  later_same n j i e l =
      omega (
        arith,
        of.entries n j i,
        rest_later m p s n j e (omega (arith, l, ordered)),
        same_coming m left (moves_before t r) n j refl,
        ap (λ (x : List Move). coming m x n j) (before_whole p r s t ordered),
        coming_behind m p (moves_before t r) (moves_before s p ++ moves_before t r) s (whole_behind m p s (moves_before t r) all.feasible.arcs) n j,
      )

  -- who comes into an exit, or before, at or after t
  entries_same : (n j : ℕ) → n < length m.nodes → (is_exit_at m n ≡ true) ⊎ (is_exit_at m n ≡ false) → (j ≡ t) ⊎ (j < t) ⊎ (t < j)
      → rest_entry left r t n j ≡ rest_entry m whole t n j
  entries_same n j i (inl e) at = rest_none left r t n j (inl (of.exits n ∙ e)) ∙ sym (rest_none m whole t n j (inl e))
  entries_same n j i (inr e) (inl now) =
      let here = rest_now left r t n (of.exits n ∙ e) ∙ inside_same n i e ∙ sym (rest_now m whole t n e) in rw now here
  entries_same n j i (inr e) (inr (inl early)) = rest_none left r t n j (inr early) ∙ sym (rest_none m whole t n j (inr early))
  entries_same n j i (inr e) (inr (inr after)) =
      rest_later left r t n j (of.exits n ∙ e) after ∙ later_same n j i e after ∙ sym (rest_later m whole t n j e after)

  pub carried_out_once : IsCarriedOutOnce m p s r t
  carried_out_once = record {
    rest_same =
        let entrants = ap (λ k. table_entrants k m.horizon (rest_entry left r t)) (length-map m.nodes without_start)
        ∙ entrants_same (length m.nodes) m.horizon (rest_entry left r t) (rest_entry m whole t) (λ n j i l. entries_same n j i (cases_Bool (is_exit_at m n)) (cases_order j t)) in
        ap₂ (λ (x : List NodeRow) (y : List Entrant). record m { nodes = x; entrants = y }) (emptied_again m.nodes) entrants;
    gone_add = λ k. omega (
      arith,
      same_out (moves_before t r) k of,
      ap (λ (x : List Move). out_by m x k) (before_whole p r s t ordered),
      outs_behind m p (moves_before t r) (moves_before s p ++ moves_before t r) s (whole_behind m p s (moves_before t r) all.feasible.arcs) k,
    );
  }
