-- The first node and moment that don't hold well by counts are the first by the plan.
use Rattle.std.proofs.Common.{◌≡◌, ℕ, ◌<◌, ◌≤◌, ◌^◌, List, length, arith, Option, None, Some, IsFalse, IfSome, MatchOption, inl, inr}
use Rattle.evac_law.specs.declared.model.Model.{Model}
use Rattle.evac_law.specs.declared.plan.Move.{Move}
use Rattle.evac_law.specs.Building.{IsValid, is_exit_at}
use Rattle.evac_law.specs.Plans.{came, coming, leaving, left}
use Rattle.plan_checker.specs.Counts.{Counts, IsCountOf, IsCountedWell, all_moved, came_by, count, left_by}
use Rattle.plan_checker.specs.Parts.{Earlier, HoldsKept, IsFirstHold}
use Rattle.plan_checker.proofs.CountLemmas.{came_counted, came_fits, counted_from_held, held_from_counted, left_counted, left_fits}

-- counts that are those of the plan up to the last moment
pub record AreCounts (m : Model) (p : List Move) (came' left' : Counts) (last : ℕ) : Type 0 where
  pub came_last : came'.last ≡ last
  pub came_nodes : came'.rows ≡ length m.nodes
  pub left_last : left'.last ≡ last
  pub left_nodes : left'.rows ≡ length m.nodes
  pub comings : (n t : ℕ) → n < came'.rows → t ≤ came'.last → count came' n t ≡ coming m p n t
  pub leavings : (n t : ℕ) → n < left'.rows → t ≤ left'.last → count left' n t ≡ leaving m p n t

pub are_counts : {m : Model} {p : List Move} {c c' d d' : Counts} {last : ℕ} → IsCountOf (coming m p) c c' → IsCountOf (leaving m p) d d' → c.last ≡ last → c.rows ≡ length m.nodes
    → d.last ≡ last → d.rows ≡ length m.nodes → AreCounts m p c' d' last
are_counts comings leavings came_last came_nodes left_last left_nodes = grind (arith, came_last, came_nodes, left_last, left_nodes, comings, leavings)

module _ (m : Model) (p : List Move) (came' left' : Counts) (last : ℕ) (are : AreCounts m p came' left' last) where
  came_same : (n t : ℕ) → n < length m.nodes → t ≤ last → came_by m came' n t ≡ came m p n t
  came_same n t l k = grind (arith, came_counted)

  left_same : (n t : ℕ) → n < length m.nodes → t ≤ last → left_by left' n t ≡ left m p n t
  left_same n t l k = grind (arith, left_counted)

  pub counts_fit : IsValid m → all_moved p < 2 ^ 62 → (n t : ℕ) → n < length m.nodes → t ≤ came'.last
      → (came_by m came' n t < 2 ^ 63) × (left_by left' n t < 2 ^ 63)
  counts_fit valid few n t l k = grind (arith, came_same, came_fits, left_same, left_fits)

  earlier_in : (s i t n : ℕ) → Earlier s i t n → t ≤ last → s ≤ last
  earlier_in s i t n (inl e) k = omega (arith, e, k)
  earlier_in s i t n (inr e) k = omega (arith, e.0, k)

  pub first_hold : (o : Option (ℕ × ℕ))
      → MatchOption o ((n t : ℕ) → n < length m.nodes → IsFalse (is_exit_at m n) → t ≤ came'.last → IsCountedWell m came' left' n t)
      (λ r. (n t : ℕ) → n < length m.nodes → IsFalse (is_exit_at m n) → Earlier t n r.0 r.1 → IsCountedWell m came' left' n t)
      → IfSome o (λ r. (r.0 ≤ came'.last) × (r.1 < length m.nodes) × IsFalse (is_exit_at m r.1) × (¬ (IsCountedWell m came' left' r.1 r.0)))
      → MatchOption o (HoldsKept m p last) (λ r. IsFirstHold m p last r.0 r.1)
  first_hold None well broken =
      λ n t l e k.
      held_from_counted m p came' left' n t (came_same n t l k) (left_same n t l k) (well n t l e (omega (arith, k, are.came_last)))
  first_hold (Some r) well broken =
      let within : r.0 ≤ last = omega (arith, broken.0, are.came_last) in
      record {
        in_time = within;
        node_in = broken.1;
        no_exit = broken.2;
        broken = λ h. broken.3 (counted_from_held m p came' left' r.1 r.0 (came_same r.1 r.0 broken.1 within) (left_same r.1 r.0 broken.1 within) h);
        kept = λ i s l e f.
            let here = earlier_in s i r.0 r.1 f within in
            held_from_counted m p came' left' i s (came_same i s l here) (left_same i s l here) (well i s l e f);
      }
