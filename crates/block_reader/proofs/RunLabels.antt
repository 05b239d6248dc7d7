-- The labels that runs give.
use Rattle.std.proofs.Common.{◌≡◌, ℕ, ◌+◌, ◌*◌, ◌<◌, ◌≤◌, cond, ◌&&◌, nat_eq, nat_le, List, [], ◌∷◌, ◌++◌, length, take, get_or, replicate, Some, None, refl, sym, ap, ◌∙◌, inl, inr, arith}
use Rattle.std.specs.declared.option.Option.{Option}
use Rattle.std.specs.List.{All, slice_get}
use Rattle.std.proofs.Math.Nat.{mul_comm}
use Rattle.std.proofs.lemmas.Bool.{and_from, and_left, and_right, cases_eq, cases_lt, eq-eqb, le-leb, lt-leb, ne_eqb}
use Rattle.std.proofs.lemmas.Grind.{fold-append}
use Rattle.std.proofs.lemmas.List.{get_or-replicate, length-replicate, take_more}
use Rattle.std.proofs.lemmas.Nat.{mul-add-lt}
use Rattle.std.proofs.lemmas.Option.{get_or_from_slice_get, slice_get_within}
use Rattle.evac_law.specs.declared.model.Model.{Model}
use Rattle.evac_law.specs.LabelTable.{LabelTable, label_at, unset}
use Rattle.block_reader.specs.declared.run.Run.{Run}
use Rattle.block_reader.specs.DraftFacts.{IsRun}
use Rattle.block_reader.specs.Drafts.{filled, no_run, run_label, run_stop, stop_by}
use Rattle.block_reader.proofs.LabelLemmas.{IsFull, filled-else, filled-in, inside-all, outside-before, outside-node}

pub label-none : (n t : ℕ) → run_label [] n t ≡ unset
unfolding run_label
label-none n t = refl

-- one run more
pub label-push : (rs : List Run) (r : Run) (n t : ℕ) → run_label (rs ++ (r ∷ [])) n t ≡ cond (nat_eq r.node n && nat_le r.moment t) r.label (run_label rs n t)
unfolding run_label
label-push rs r n t = fold-append (λ (label : ℕ) (s : Run). cond (nat_eq s.node n && nat_le s.moment t) s.label label) unset rs (r ∷ [])

pub label-own : (rs : List Run) (r : Run) (n t : ℕ) → r.node ≡ n → r.moment ≤ t → run_label (rs ++ (r ∷ [])) n t ≡ r.label
label-own rs r n t e l = grind (arith, label-push, and_from, eq-eqb, le-leb)

pub label-other : (rs : List Run) (r : Run) (n t : ℕ) → (r.node ≡ n → ⊥) → run_label (rs ++ (r ∷ [])) n t ≡ run_label rs n t
label-other rs r n t ne = grind (arith, label-push, and_left, ne_eqb)

pub label-before : (rs : List Run) (r : Run) (n t : ℕ) → t < r.moment → run_label (rs ++ (r ∷ [])) n t ≡ run_label rs n t
label-before rs r n t l = grind (arith, label-push, and_right, lt-leb)

-- the run at a place doesn't reach a cell
pub record IsOpen (runs : List Run) (i n t : ℕ) : Type 0 where
  pub open_cell : (r : Run) → slice_get runs i ≡ Some r → r.node ≡ n → r.moment ≤ t → ⊥

-- equal options hold equal runs
same-run : (s r : Run) → Some s ≡ Some r → s ≡ r
same-run s r e = cc

later : (s r : Run) (t : ℕ) → s ≡ r → t < r.moment → s.moment ≤ t → ⊥
later s r t e f k = let q = ap (λ (x : Run). x.moment) e in omega (arith, q)

stop-past : (o : Option Run) (r : Run) (c n t : ℕ) → r.node ≡ n → t < c → ((s : Run) → o ≡ Some s → s.node ≡ n → s.moment ≤ t → ⊥) → t < stop_by o r c
stop-past None r c n t e l h = l
stop-past (Some s) r c n t e l h =
    elim (cases_eq s.node r.node) [
      | inl q ↦ elim (cases_lt t s.moment) [
        | inl b ↦ let f = ap (λ w. cond w s.moment c) (eq-eqb s.node r.node q) in omega (arith, f, b)
        | inr b ↦ absurd (h s refl (q ∙ e) b)
      ]
      | inr ne ↦ let f = ap (λ w. cond w s.moment c) (ne_eqb s.node r.node ne) in omega (arith, f, l)
    ]

stop-within : (o : Option Run) (r : Run) (c : ℕ) → ((s : Run) → o ≡ Some s → s.moment < c) → stop_by o r c ≤ c
stop-within None r c h = omega arith
stop-within (Some s) r c h =
    elim (cases_eq s.node r.node) [
      | inl q ↦ let f = ap (λ w. cond w s.moment c) (eq-eqb s.node r.node q) in omega (arith, f, h s refl)
      | inr ne ↦ let f = ap (λ w. cond w s.moment c) (ne_eqb s.node r.node ne) in omega (arith, f)
    ]

pub run-at : (m : Model) (c : ℕ) (runs : List Run) (i : ℕ) (r : Run) → All (IsRun m c) runs → slice_get runs i ≡ Some r → IsRun m c r
run-at m c runs i r all e = grind (arith, get_or_from_slice_get, slice_get_within)

pub stop-in : (m : Model) (c : ℕ) (runs : List Run) (i : ℕ) → All (IsRun m c) runs → run_stop runs i c ≤ c
stop-in m c runs i all = stop-within (slice_get runs (i + 1)) (get_or runs i no_run) c (λ s e. (run-at m c runs (i + 1) s all e).moment_in)

-- with one run more filled
pub filled-run : (runs : List Run) (l : LabelTable) (i c n t : ℕ) (r : Run) → slice_get runs i ≡ Some r → t < c → IsOpen runs (i + 1) n t
    → (IsOpen runs i n t → label_at l n t ≡ run_label (take i runs) n t) → filled l r (run_stop runs i c) n t ≡ run_label (take (i + 1) runs) n t
filled-run runs l i c n t r e b o h =
    let is : get_or runs i no_run ≡ r = get_or_from_slice_get runs i r no_run e in
    let within : i < length runs = slice_get_within runs i r e in
    let more : take (i + 1) runs ≡ take i runs ++ (r ∷ []) = take_more runs i no_run within ∙ ap (λ x. take i runs ++ (x ∷ [])) is in
    elim (cases_eq r.node n) [
      | inl q ↦ elim (cases_lt t r.moment) [
        | inl f ↦ filled-else l r (run_stop runs i c) n t (outside-before r (run_stop runs i c) n t f)
            ∙ h (record { open_cell = λ s d p k. later s r t (same-run s r (sym d ∙ e)) f k })
            ∙ sym (ap (λ rs. run_label rs n t) more ∙ label-before (take i runs) r n t f)
        | inr f ↦ filled-in l r (run_stop runs i c) n t
            (inside-all r (run_stop runs i c) n t q f (stop-past (slice_get runs (i + 1)) (get_or runs i no_run) c n t (ap (λ (x : Run). x.node) is ∙ q) b o.open_cell))
            ∙ sym (ap (λ rs. run_label rs n t) more ∙ label-own (take i runs) r n t q f)
      ]
      | inr ne ↦ filled-else l r (run_stop runs i c) n t (outside-node r (run_stop runs i c) n t ne)
          ∙ h (record { open_cell = λ s d p k. ne (ap (λ (x : Run). x.node) (sym (same-run s r (sym d ∙ e))) ∙ p) })
          ∙ sym (ap (λ rs. run_label rs n t) more ∙ label-other (take i runs) r n t ne)
    ]

-- a table of which nothing is filled
unfoldable pub fresh : ℕ → ℕ → LabelTable
fresh nodes horizon = record { nodes = nodes; horizon = horizon; list = replicate (nodes * (horizon + 1)) unset }

pub fresh-label : (nodes horizon n t : ℕ) → n < nodes → t ≤ horizon → label_at (fresh nodes horizon) n t ≡ unset
unfolding fresh
fresh-label nodes horizon n t a b =
    let fits : t < horizon + 1 = omega arith in
    let within : n * (horizon + 1) + t < nodes * (horizon + 1) = omega (arith, mul-add-lt n (horizon + 1) t nodes a fits, mul_comm (horizon + 1) nodes) in
    get_or-replicate (nodes * (horizon + 1)) (n * (horizon + 1) + t) unset 0 within

pub fresh-full : (nodes horizon : ℕ) → IsFull (fresh nodes horizon)
unfolding fresh
fresh-full nodes horizon = record { full = length-replicate (nodes * (horizon + 1)) unset }
