-- Nobody moves after the last arrival.
use Rattle.std.proofs.Common.{◌≡◌, ℕ, ◌+◌, ◌<◌, ◌≤◌, cond, eqb, min, List, [], length, ap, sym, arith}
use Rattle.std.specs.List.{All, flat_map}
use Rattle.evac_law.specs.declared.model.Model.{Model}
use Rattle.evac_law.specs.declared.plan.Move.{Move}
use Rattle.evac_law.specs.Building.{head, tail}
use Rattle.evac_law.specs.Plans.{last_arrival}
use Rattle.evac_law.specs.Sums.{below}
use Rattle.evac_law.proofs.Optimal.{at_most_last}
use Rattle.certificate_text.specs.BlockText.{moment_moves, move_line, move_lines, move_part, name_of_node}
use Rattle.certificate_text.proofs.ListParts.{below-stop}
use Rattle.certificate_text.proofs.OrderedMoves.{none-moved}

abbrev InRange : ℕ → ℕ → List Move → Type 0
InRange arcs horizon p = All (λ (v : Move). (v.arc < arcs) × (v.moment ≤ horizon)) p

-- whoever enters an arc arrives later
by_last : (m : Model) (p : List Move) (arcs horizon : ℕ) → InRange arcs horizon p → InRange arcs (last_arrival m p) p
by_last m p arcs horizon range = λ k d l. ((range k d l).0, omega (arith, at_most_last m p k d l))

quiet : (m : Model) (p : List Move) (arcs horizon t a : ℕ) → InRange arcs horizon p → last_arrival m p < t → move_part m p t a ≡ []
quiet m p arcs horizon t a range late =
    ap (λ n. cond (eqb n 0) [] (move_line t (name_of_node m (tail m a)) (name_of_node m (head m a)) n))
    (none-moved arcs (last_arrival m p) p a t (by_last m p arcs horizon range) (λ _ soon. omega (arith, soon, late)))

-- the lines of the moves are those up to the last arrival
pub moves-last : (m : Model) (p : List Move) (arcs horizon c : ℕ) → InRange arcs horizon p → c ≡ min (last_arrival m p) m.horizon
    → flat_map (moment_moves m p) (below (c + 1)) ≡ move_lines m p
moves-last m p arcs horizon c range e =
    sym (
    below-stop (moment_moves m p) (c + 1) (m.horizon + 1) (omega (arith, e))
    (λ t i j. below-stop (move_part m p t) 0 (length m.arcs) (omega arith) (λ a x y. quiet m p arcs horizon t a range (omega (arith, e, i, j))))
    )
