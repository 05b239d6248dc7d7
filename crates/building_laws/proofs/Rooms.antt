-- Buildings that differ in capacities alone.
use Rattle.std.proofs.Common.{◌≡◌, ℕ, ◌+◌, ◌<◌, ◌≤◌, true, not, ◌&&◌, leb, List, get_or, length, refl, Ok, ap, sym, ◌∙◌, arith, subst}
use Rattle.std.specs.List.{sum_by}
use Rattle.std.proofs.lemmas.Bool.Decides.{nat_tests}
use Rattle.std.proofs.lemmas.List.{length-set}
use Rattle.evac_law.specs.declared.edit.Edit.{Edit}
use Rattle.evac_law.specs.declared.edit.Edit.TheVariants.{Room}
use Rattle.evac_law.specs.declared.model.Model.{Model}
use Rattle.evac_law.specs.declared.model.NodeRow.{NodeRow}
use Rattle.evac_law.specs.declared.plan.Move.{Move}
use Rattle.evac_law.specs.Building.{IsValid, arc_at, entry, head, is_exit_at, no_arc, no_node, node_at, people, rate, start}
use Rattle.evac_law.specs.Certificates.{IsClearable}
use Rattle.evac_law.specs.Cuts.{Cut, cut_value, leaves_cut}
use Rattle.evac_law.specs.Edits.{applied, checks, edited, inverse_of, with_node}
use Rattle.evac_law.specs.Names.{is_exit}
use Rattle.evac_law.specs.Plans.{IsFeasible, out_by}
use Rattle.evac_law.specs.Sums.{below, places}
use Rattle.evac_law.proofs.EditLemmas.{at-set, unless-Ok, valid_edited}
use Rattle.evac_law.proofs.SumLemmas.{sum_by-same, sum_places}
use Rattle.evac_law.proofs.WeakDuality.{out_le_value}
use Rattle.building_laws.specs.Rooms.{HaveSameCurve, DifferInRoom, HasRoomForEntries, HasSteadyRates}
use Rattle.building_laws.proofs.Duality.{cleared_or_short, cut_of}
use Rattle.building_laws.proofs.Values.{value_le}
use Rattle.building_laws.proofs.WaitingCut.{from_moments, moments_outside, waiting_cut}

module _ (m m' : Model) (d : DifferInRoom m m') where
  arc_same : (a : ℕ) → arc_at m a ≡ arc_at m' a
  arc_same a = ap (λ l. get_or l a no_arc) d.arcs

  exit_same : (n : ℕ) → is_exit_at m n ≡ is_exit_at m' n
  exit_same n = ap (λ r. is_exit r.name.kind) (d.nodes n)

  start_same : (n : ℕ) → start m n ≡ start m' n
  start_same n = ap (λ r. r.start) (d.nodes n)

  entry_same : (n t : ℕ) → entry m n t ≡ entry m' n t
  entry_same n t = grind (arith, start_same)

  head_same : (a : ℕ) → head m a ≡ head m' a
  head_same a = ap (λ r. r.to) (arc_same a)

  shut_same : (a : ℕ) → (node_at m (head m a)).shut ≡ (node_at m' (head m' a)).shut
  shut_same a = ap (λ n. (node_at m n).shut) (head_same a) ∙ ap (λ r. r.shut) (d.nodes (head m' a))

  rate_same : (a t : ℕ) → rate m a t ≡ rate m' a t
  rate_same a t = grind (arith, arc_same, shut_same)

  leaves_same : (x : Cut) (k t a : ℕ) → leaves_cut m x k t a ≡ leaves_cut m' x k t a
  leaves_same x k t a = grind (arith, arc_same, exit_same)

  never : (f t : ℕ) → (leb f t && not (leb f (t + 1))) ≡ true → ⊥
  never f t e = grind (arith, nat_tests)

  waiting_same : (f : ℕ → ℕ) (k : ℕ) → cut_value m' (from_moments f) k ≤ cut_value m (from_moments f) k
  waiting_same f k = grind (arith, value_le, from_moments, entry_same, never, leaves_same, rate_same)

  people_same : people m ≡ people m'
  unfolding people
  people_same =
      omega (
        arith,
        sum_places (λ n. n.start) m.nodes no_node,
        sum_places (λ n. n.start) m'.nodes no_node,
        sum_by-same (start m) (start m') (places m.nodes) start_same,
        ap (λ i. sum_by (start m') (below i)) d.places,
        ap (sum_by (λ e. e.people)) d.entrants,
      )

  steady_too : HasSteadyRates m → HasSteadyRates m'
  steady_too steady a t j l = grind (arith, rate_same)

other_way : (m m' : Model) → DifferInRoom m m' → DifferInRoom m' m
other_way m m' d = grind arith

-- no plan has more out with other capacities than a cut is worth
bound : (m m' : Model) → IsValid m' → DifferInRoom m m' → HasSteadyRates m → HasRoomForEntries m → (q : List Move) (x : Cut) (k : ℕ) → k ≤ m.horizon
    → IsFeasible m' q k → out_by m' q k ≤ cut_value m x k
bound m m' valid' d steady room q x k l feasible =
    let f = moments_outside x k in
    omega (arith, out_le_value m' (from_moments f) q k valid' feasible, waiting_same m m' d f k, waiting_cut m x k l steady room)

clears : (m m' : Model) → IsValid m → IsValid m' → DifferInRoom m' m → HasSteadyRates m' → HasRoomForEntries m' → IsClearable m → IsClearable m'
clears m m' valid valid' d steady' room' plan = grind (arith, cleared_or_short, people_same, bound)

pub rooms_keep_most : (m m' : Model) → IsValid m → IsValid m' → DifferInRoom m m' → HasSteadyRates m → HasRoomForEntries m → HasRoomForEntries m' → HaveSameCurve m m'
rooms_keep_most m m' valid valid' d steady room room' =
    let back = other_way m m' d in
    let steady' = steady_too m m' d steady in record {
      curve = λ p q k l best other.
          let l' : k ≤ m'.horizon = omega (arith, l, d.horizon) in
          let x = cut_of m p k valid l best in
          let y = cut_of m' q k valid' l' other in
          omega (
            arith,
            x.1,
            y.1,
            bound m m' valid' d steady room q x.0 k l other.feasible,
            bound m' m valid back steady' room' p y.0 k l' best.feasible,
          );
      clears = clears m m' valid valid' back steady' room';
      clears_back = clears m' m valid' valid d steady room;
    }

-- ---- an edit of a capacity

room_differs : (m : Model) (n c : ℕ) → DifferInRoom m (with_node m n (record (node_at m n) { capacity = c }))
room_differs m n c = record {
  horizon = refl;
  places = sym (length-set m.nodes n (record (node_at m n) { capacity = c }));
  nodes = λ i. sym (at-set {X = NodeRow} {Y = NodeRow} (λ r. record r { capacity = 0 }) m.nodes n (record (node_at m n) { capacity = c }) no_node refl i);
  arcs = refl;
  entrants = refl;
}

pub room_edits_keep_most : (m m' : Model) (n c : ℕ) (e : Edit) → IsValid m → n < length m.nodes → applied m (Room n c) ≡ Ok (m', e)
    → HasSteadyRates m → HasRoomForEntries m → HasRoomForEntries m' → HaveSameCurve m m'
room_edits_keep_most m m' n c e valid i h steady room room' =
    let both = unless-Ok (checks m (Room n c)) (edited m (Room n c), inverse_of m (Room n c)) (m', e) h in
    let same : edited m (Room n c) ≡ m' = ap (λ t. t.0) both.1 in
    rooms_keep_most m m' valid (subst IsValid same (valid_edited m (Room n c) valid i both.0)) (subst (DifferInRoom m) same (room_differs m n c)) steady room room'
