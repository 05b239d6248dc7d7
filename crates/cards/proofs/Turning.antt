-- Turns: from one to the next, up to the one of a person.
use Rattle.std.proofs.Common.{◌≡◌, ℕ, ◌+◌, ◌-◌, ◌*◌, ◌^◌, ◌<◌, ◌≤◌, ◌⊎◌, inl, inr, length, ap, ◌∙◌, arith}
use Rattle.evac_law.specs.declared.model.Model.{Model}
use Rattle.evac_law.specs.Building.{IsValid, entry, people}
use Rattle.evac_law.specs.Limits.{node_limit, people_limit}
use Rattle.evac_law.proofs.Entries.{entered_all, entered_le}
use Rattle.cards.specs.declared.turn.Turn.{Turn}
use Rattle.cards.specs.Numbers.{dealt_before}
use Rattle.cards.specs.Turns.{IsTurn}
use Rattle.cards.proofs.Entrants.{dealt-all, dealt-grows, within_all}

-- nobody but the people of the model comes in
pub dealt_small : (m : Model) (n t : ℕ) → IsValid m → n < length m.nodes → t ≤ m.horizon → dealt_before m n t + entry m n t < 2 ^ 32
unfolding people_limit
dealt_small m n t valid l h = omega (arith, within_all m n t l h, entered_le m m.horizon, valid.people_fit)

pub node_small : (m : Model) (n : ℕ) → IsValid m → n < length m.nodes → n + 1 < 2 ^ 32
unfolding node_limit
node_small m n valid l = omega (arith, l, valid.nodes_fit)

-- while somebody's turn is to come, it is at a node of the model
pub turn_in : (m : Model) (t : Turn) (person : ℕ) → IsValid m → IsTurn m t → t.before ≤ person → person < people m → t.node < length m.nodes
turn_in m t person valid turn l h = grind (arith, l, h, turn.before, dealt-grows m (length m.nodes) t.node t.moment, dealt-all m, entered_all m valid)

-- what is left to go through falls from a turn to the next
pub falls : (nodes last n t k u : ℕ) → n < nodes → t ≤ last → u ≤ last → ((k ≡ n) × (u ≡ t + 1)) ⊎ ((k ≡ n + 1) × (t ≡ last) × (u ≡ 0))
    → (nodes - k) * (last + 1) + (last - u) < (nodes - n) * (last + 1) + (last - t)
falls nodes last n t k u l h b (inl e) = grind arith
falls nodes last n t k u l h b (inr e) =
    let more : nodes - n ≡ (nodes - k) + 1 = omega (arith, e.0, l) in
    let rows : (nodes - n) * (last + 1) ≡ (nodes - k) * (last + 1) + (last + 1) = ap (λ z. z * (last + 1)) more ∙ one_row (nodes - k) (last + 1) in
    omega (arith, rows, e.1, e.2)
  where
    one_row : (x y : ℕ) → (x + 1) * y ≡ x * y + y
    one_row x y = omega arith
