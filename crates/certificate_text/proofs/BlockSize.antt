-- How many bytes an answer block has.
use Rattle.std.proofs.Common.{◌≡◌, ℕ, ◌+◌, ◌*◌, ◌<◌, ◌≤◌, ◌^◌, zero, suc, Bool, true, false, cond, nat_eq, List, [], ◌∷◌, ◌++◌, length, ap, ◌∙◌, arith, length-append}
use Rattle.std.specs.Prelude.{codes, decimal}
use Rattle.std.specs.List.{flat_map}
use Rattle.std.proofs.Math.Nat.{add-mul, mul_assoc, mul_comm}
use Rattle.std.proofs.lemmas.Fmt.{length-decimal-le}
use Rattle.std.proofs.lemmas.Nat.{mul-le}
use Rattle.evac_law.specs.declared.model.Model.{Model}
use Rattle.evac_law.specs.declared.plan.Move.{Move}
use Rattle.evac_law.specs.Building.{IsValid, head, node_at, people, rate, tail}
use Rattle.evac_law.specs.Certificates.{IsCertified}
use Rattle.evac_law.specs.LabelTable.{LabelTable}
use Rattle.evac_law.specs.Limits.{cell_limit, horizon_limit, people_limit, rate_limit}
use Rattle.evac_law.specs.Names.{name_text}
use Rattle.evac_law.specs.Plans.{moved}
use Rattle.evac_law.specs.Sums.{below}
use Rattle.evac_law.proofs.NameLemmas.{name_short}
use Rattle.evac_law.proofs.Optimal.{certified_is_feasible, out_le_people}
use Rattle.evac_law.proofs.PartLemmas.{flat_map-none, flat_map-suc}
use Rattle.evac_law.proofs.SumLemmas.{else_le}
use Rattle.evac_law.proofs.ValidLemmas.{arc_is, head_in, name_is, tail_in}
use Rattle.line_io.specs.Text.{line_text}
use Rattle.line_io.proofs.TextLemmas.{fields-cons}
use Rattle.certificate_text.specs.Block.{number_field_limit}
use Rattle.certificate_text.specs.BlockLaws.{block_limit}
use Rattle.certificate_text.specs.BlockText.{answer_line, answer_text, cleared_line, end_line, label_line, label_lines, moment_moves, move_line, move_lines, move_part, out_line, out_lines, people_line}

pub rate-most : (m : Model) (a t : ℕ) → IsValid m → a < length m.arcs → rate m a t ≤ rate_limit
rate-most m a t valid h = grind (arith, arc_is, else_le)

-- ---- lines

-- a line of fields has the bytes of each field and one more for it
size-more : (f g : List ℕ) (fs : List (List ℕ)) (a b : ℕ) → length f ≤ a → length (line_text (g ∷ fs)) ≤ b → length (line_text (f ∷ g ∷ fs)) ≤ a + 1 + b
size-more f g fs a b h k = grind (arith, length-append, fields-cons)

size-one : (f : List ℕ) (a : ℕ) → length f ≤ a → length (line_text (f ∷ [])) ≤ a + 1
size-one f a h = let whole = length-append f (10 ∷ []) in omega (arith, whole, h)

digits : (k n : ℕ) → 0 < k → n < 10 ^ k → n < 10 ^ 9 → length (decimal n) ≤ k
digits k n pos h small = length-decimal-le k n pos h (omega (arith, small))

digits-4 : (n : ℕ) → n ≤ horizon_limit → length (decimal n) ≤ 4
unfolding horizon_limit
digits-4 n h = digits 4 n (omega arith) (omega (arith, h)) (omega (arith, h))

digits-6 : (n : ℕ) → n ≤ people_limit → length (decimal n) ≤ 6
unfolding people_limit
digits-6 n h = digits 6 n (omega arith) (omega (arith, h)) (omega (arith, h))

digits-5 : (n : ℕ) → n ≤ rate_limit → length (decimal n) ≤ 5
unfolding rate_limit
digits-5 n h = digits 5 n (omega arith) (omega (arith, h)) (omega (arith, h))

digits-9 : (n : ℕ) → n ≤ number_field_limit → length (decimal n) ≤ 9
unfolding number_field_limit
digits-9 n h = digits 9 n (omega arith) (omega (arith, h)) (omega (arith, h))

index-size : (n : ℕ) → n ≤ number_field_limit → length (answer_line n) ≤ 38
unfolding answer_line
index-size n h = let s = size-more (codes "answer") (decimal n) [] 6 10 (omega arith) (size-one (decimal n) 9 (digits-9 n h)) in omega (arith, s)

people-size : (n : ℕ) → n ≤ people_limit → length (people_line n) ≤ 38
unfolding people_line
people-size n h = let s = size-more (codes "people") (decimal n) [] 6 7 (omega arith) (size-one (decimal n) 6 (digits-6 n h)) in omega (arith, s)

cleared-size : (n : ℕ) → n ≤ horizon_limit → length (cleared_line n) ≤ 38
unfolding cleared_line
cleared-size n h = let s = size-more (codes "cleared") (decimal n) [] 7 5 (omega arith) (size-one (decimal n) 4 (digits-4 n h)) in omega (arith, s)

end-size : length end_line ≤ 38
unfolding end_line
end-size = let s = size-one (codes "end") 3 (omega arith) in omega (arith, s)

out-size : (k n : ℕ) → k ≤ horizon_limit → n ≤ people_limit → length (out_line k n) ≤ 38
unfolding out_line
out-size k n h g =
    let s = size-more (codes "out") (decimal k) (decimal n ∷ []) 3 12 (omega arith) (size-more (decimal k) (decimal n) [] 4 7 (digits-4 k h) (size-one (decimal n) 6 (digits-6 n g))) in
    omega (arith, s)

label-size : (name : List ℕ) (t v : ℕ) → length name ≤ 10 → t ≤ horizon_limit → v ≤ horizon_limit → length (label_line name t v) ≤ 38
unfolding label_line
label-size name t v a h g =
    let s = size-more (codes "label") name (decimal t ∷ decimal v ∷ []) 5 21 (omega arith)
    (size-more name (decimal t) (decimal v ∷ []) 10 10 a (size-more (decimal t) (decimal v) [] 4 5 (digits-4 t h) (size-one (decimal v) 4 (digits-4 v g)))) in
    omega (arith, s)

move-size : (t : ℕ) (start finish : List ℕ) (n : ℕ) → t ≤ horizon_limit → length start ≤ 10 → length finish ≤ 10 → n ≤ rate_limit → length (move_line t start finish n) ≤ 38
unfolding move_line
move-size t start finish n h a b g =
    let s = size-more (codes "move") (decimal t) (start ∷ finish ∷ decimal n ∷ []) 4 33 (omega arith)
    (size-more (decimal t) start (finish ∷ decimal n ∷ []) 4 28 (digits-4 t h)
    (size-more start finish (decimal n ∷ []) 10 17 a (size-more finish (decimal n) [] 10 6 b (size-one (decimal n) 5 (digits-5 n g))))) in
    omega (arith, s)

-- ---- many lines

all-size : (f : ℕ → List ℕ) (b n : ℕ) → ((i : ℕ) → i < n → length (f i) ≤ b) → length (flat_map f (below n)) ≤ b * n
all-size f b zero h = let e = ap (λ (x : List ℕ). length x) (flat_map-none f) in omega (arith, e)
all-size f b (suc n) h =
    let e = ap (λ (x : List ℕ). length x) (flat_map-suc f n) ∙ length-append (flat_map f (below n)) (f n) in
    let old = all-size f b n (λ i l. h i (omega arith)) in
    let new = h n (omega arith) in
    let more : b * suc n ≡ b * n + b = omega arith in
    omega (arith, e, old, new, more)

either-size : (w : Bool) (x : List ℕ) (b : ℕ) → length x ≤ b → length (cond w x []) ≤ b
either-size true x b h = h
either-size false x b h = omega arith

neither-size : (w : Bool) (x : List ℕ) (b : ℕ) → length x ≤ b → length (cond w [] x) ≤ b
neither-size true x b h = omega arith
neither-size false x b h = h

outs-size : (m : Model) (p : List Move) (l : LabelTable) (c : ℕ) → IsValid m → IsCertified m p l c → length (out_lines m p c) ≤ 38 * (c + 1)
outs-size m p l c valid cert = grind (arith, all-size, out-size, out_le_people, certified_is_feasible)

labels-size : (m : Model) (p : List Move) (l : LabelTable) (c : ℕ) → IsValid m → IsCertified m p l c → length (label_lines m l c) ≤ 38 * c * length m.nodes
labels-size m p l c valid cert = grind (arith, all-size, neither-size, either-size, label-size, name_short, name_is)

moves-size : (m : Model) (p : List Move) (l : LabelTable) (c : ℕ) → IsValid m → IsCertified m p l c → length (move_lines m p) ≤ 38 * length m.arcs * (m.horizon + 1)
moves-size m p l c valid cert =
    all-size (moment_moves m p) (38 * length m.arcs) (m.horizon + 1) (λ t h.
    all-size (move_part m p t) 38 (length m.arcs) (λ a k.
    neither-size (nat_eq (moved p a t) 0) (move_line t (name_text (node_at m (tail m a)).name) (name_text (node_at m (head m a)).name) (moved p a t)) 38
    (move-size t (name_text (node_at m (tail m a)).name) (name_text (node_at m (head m a)).name) (moved p a t) (omega (arith, h, valid.horizon))
    (name_short (node_at m (tail m a)).name (name_is m (tail m a) valid (tail_in m a valid k))) (name_short (node_at m (head m a)).name (name_is m (head m a) valid (head_in m a valid k)))
    (let x = (certified_is_feasible m p l c m.horizon valid cert).rates a t k (omega (arith, h)) in let y = rate-most m a t valid k in omega (arith, x, y)))))

-- ---- the whole

-- the lines of labels and moves, one for a cell at most
cells-size : (nodes arcs w c : ℕ) → c ≤ w → 38 * c * nodes + 38 * arcs * w ≤ 38 * ((nodes + arcs) * w)
cells-size nodes arcs w c h = grind (arith, mul-le, mul_assoc, mul_comm, add-mul)

sum-size : (cells c total : ℕ) → cells ≤ cell_limit → c ≤ horizon_limit → total ≤ 38 * cells + 38 * (c + 1) + 152 → total ≤ block_limit
unfolding cell_limit horizon_limit block_limit
sum-size cells c total h k s = omega (arith, h, k, s)

six-size : (a b d e f g h : List ℕ) → length (a ++ b ++ d ++ e ++ f ++ g ++ h) ≡ length a + length b + length d + length e + length f + length g + length h
six-size a b d e f g h = omega (arith, length-append {A = ℕ})

pub answer_size : (index : ℕ) (m : Model) (p : List Move) (l : LabelTable) (c : ℕ) → index ≤ number_field_limit → IsValid m → IsCertified m p l c → length (answer_text index m p l c) ≤ block_limit
unfolding answer_text
answer_size index m p l c few valid cert =
    let parts = six-size (answer_line index) (people_line (people m)) (cleared_line c) (out_lines m p c) (label_lines m l c) (move_lines m p) end_line in
    let a = index-size index few in
    let b = people-size (people m) valid.people_fit in
    let within : c ≤ horizon_limit = omega (arith, cert.in_horizon, valid.horizon) in
    let d = cleared-size c within in
    let e = outs-size m p l c valid cert in
    let f = labels-size m p l c valid cert in
    let g = moves-size m p l c valid cert in
    let h = end-size in
    let cells = cells-size (length m.nodes) (length m.arcs) (m.horizon + 1) c (omega (arith, cert.in_horizon)) in
    sum-size ((length m.nodes + length m.arcs) * (m.horizon + 1)) c _ valid.cells_fit within (omega (arith, parts, a, b, d, e, f, g, h, cells))
