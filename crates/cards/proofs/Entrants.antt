-- People who come in from nowhere, one after another: each of them comes in at one node and one moment.
use Rattle.std.proofs.Common.{◌≡◌, ℕ, suc, ◌+◌, ◌<◌, ◌≤◌, ◌⊎◌, inl, inr, true, false, ap, arith, length}
use Rattle.std.specs.List.{sum_by}
use Rattle.std.proofs.lemmas.Bool.{cases_Bool, cases_lt, cases_order}
use Rattle.evac_law.specs.declared.model.Model.{Model}
use Rattle.evac_law.specs.Building.{IsValid, entered_by, entry, is_exit_at}
use Rattle.evac_law.specs.Sums.{below, moments_to}
use Rattle.evac_law.proofs.Entries.{exit_entry, none_late, none_past}
use Rattle.evac_law.proofs.SumLemmas.{sum_below-le, sum_below-more, sum_below-none, sum_below-suc}
use Rattle.cards.specs.Numbers.{dealt_before}

-- ---- where and when somebody comes in

module _ (m : Model) (n t : ℕ) (valid : IsValid m) (some : 0 < entry m n t) where
  pub entry_in : n < length m.nodes
  entry_in = grind (arith, some, none_past m n t valid)

  pub entry_inside : is_exit_at m n ≡ false
  entry_inside = split (cases_Bool (is_exit_at m n))
    where
      split : (is_exit_at m n ≡ true) ⊎ (is_exit_at m n ≡ false) → is_exit_at m n ≡ false
      split (inl e) = absurd (omega (arith, some, exit_entry m n t valid entry_in e))
      split (inr e) = e

  pub entry_by : t ≤ m.horizon
  entry_by = grind (arith, some, none_late m n t valid)

-- ---- in what order

module _ (m : Model) where
  -- all who come into a node, and all who come into the nodes before one
  abbrev all_of : ℕ → ℕ
  all_of n = sum_by (entry m n) (moments_to m.horizon)

  abbrev all_before : ℕ → ℕ
  all_before n = sum_by all_of (below n)

  pub dealt-first : dealt_before m 0 0 ≡ 0
  unfolding dealt_before
  dealt-first = omega (arith, sum_below-none all_of, sum_below-none (entry m 0))

  pub dealt-later : (n t : ℕ) → dealt_before m n (t + 1) ≡ dealt_before m n t + entry m n t
  unfolding dealt_before
  dealt-later n t = omega (arith, sum_below-more (entry m n) t)

  pub dealt-next : (n : ℕ) → dealt_before m (n + 1) 0 ≡ dealt_before m n (m.horizon + 1)
  unfolding dealt_before
  dealt-next n = omega (arith, sum_below-more all_of n, sum_below-none (entry m (n + 1)))

  pub dealt-all : dealt_before m (length m.nodes) 0 ≡ entered_by m m.horizon
  unfolding dealt_before entered_by
  dealt-all = omega (arith, sum_below-none (entry m (length m.nodes)))

  in_node : (n t : ℕ) → t ≤ m.horizon → dealt_before m n t + entry m n t ≤ all_before (suc n)
  unfolding dealt_before
  in_node n t l =
      omega (arith, sum_below-more (entry m n) t, sum_below-le (entry m n) (t + 1) (m.horizon + 1) (omega arith), sum_below-suc all_of n)

  -- who comes in at an earlier place and moment comes before
  pub earlier_node : (n k t u : ℕ) → n < k → t ≤ m.horizon → dealt_before m n t + entry m n t ≤ dealt_before m k u
  unfolding dealt_before
  earlier_node n k t u l h = omega (arith, in_node n t h, sum_below-le all_of (suc n) k (omega (arith, l)))

  pub earlier_moment : (n t u : ℕ) → t < u → dealt_before m n t + entry m n t ≤ dealt_before m n u
  unfolding dealt_before
  earlier_moment n t u l = omega (arith, sum_below-more (entry m n) t, sum_below-le (entry m n) (t + 1) u (omega (arith, l)))

  pub within_all : (n t : ℕ) → n < length m.nodes → t ≤ m.horizon → dealt_before m n t + entry m n t ≤ entered_by m m.horizon
  unfolding entered_by
  within_all n t l h = omega (arith, in_node n t h, sum_below-le all_of (suc n) (length m.nodes) (omega (arith, l)))

  -- as many have come in before a later node, or before any of its moments
  pub dealt-grows : (n k u : ℕ) → n ≤ k → dealt_before m n 0 ≤ dealt_before m k u
  unfolding dealt_before
  dealt-grows n k u l = omega (arith, sum_below-none (entry m n), sum_below-le all_of n k l)

  -- one of those who come into a node at a moment
  pub record IsOneOf (n t k : ℕ) : Type 0 where
    pub moment_in : t ≤ m.horizon
    pub not_before : dealt_before m n t ≤ k
    pub one_of : k < dealt_before m n t + entry m n t

  -- two of them in their order
  pub in_order : (n t i k u j : ℕ) → IsOneOf n t i → IsOneOf k u j → i ≤ j → (n < k) ⊎ ((n ≡ k) × (t ≤ u))
  in_order n t i k u j g h l = by_node (cases_order n k)
    where
      same_node : n ≡ k → (u < t) ⊎ (t ≤ u) → (n < k) ⊎ ((n ≡ k) × (t ≤ u))
      same_node e (inr b) = inr (e, b)
      same_node e (inl b) = absurd (
          let same : dealt_before m n t ≡ dealt_before m k t = ap (λ z. dealt_before m z t) e in
          omega (arith, earlier_moment k u t b, same, l)
          )

      by_node : (n ≡ k) ⊎ ((n < k) ⊎ (k < n)) → (n < k) ⊎ ((n ≡ k) × (t ≤ u))
      by_node (inl e) = same_node e (cases_lt u t)
      by_node (inr (inl b)) = inl b
      by_node (inr (inr b)) = grind (arith, earlier_node)

  pub one_entrant : (n t k u i : ℕ) → IsOneOf n t i → IsOneOf k u i → (n ≡ k) × (t ≡ u)
  one_entrant n t k u i g h =
      let a = in_order n t i k u i g h (omega arith) in
      let b = in_order k u i n t i h g (omega arith) in
      (grind (arith, a, b), grind (arith, a, b))
