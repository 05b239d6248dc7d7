-- The block of a full draft is one of the model's.
use Rattle.std.proofs.Common.{◌≡◌, ℕ, ◌<◌, ◌≤◌, true, false, ◌&&◌, cond, nat_eq, nat_le, List, [], ◌∷◌, length, fold, refl, sym, ap, ◌∙◌, inl, inr, arith}
use Rattle.std.specs.List.{All}
use Rattle.std.proofs.lemmas.Bool.{and_left, and_parts, cases_lt, eqb-true, ne_eqb, or_cases}
use Rattle.std.proofs.lemmas.List.Elements.{All-head, All-tail, All-weaker}
use Rattle.evac_law.specs.declared.model.Model.{Model}
use Rattle.evac_law.specs.Building.{is_exit_at}
use Rattle.evac_law.specs.LabelTable.{LabelTable, unset}
use Rattle.certificate_text.specs.declared.block.Block.{Block}
use Rattle.block_reader.specs.declared.run.Run.{Run}
use Rattle.certificate_text.specs.Block.{AreLabelsOf, IsBlockOf}
use Rattle.block_reader.specs.DraftFacts.{IsDraft, IsRun}
use Rattle.block_reader.specs.Drafts.{AreRunLabels, Draft, IsStated, is_full, run_label}
use Rattle.block_reader.proofs.ExitLemmas.{exits-at}

-- runs of other nodes leave a label
pub fold-other : (rs : List Run) (n t x : ℕ) → All (λ (r : Run). r.node ≡ n → ⊥) rs
    → fold (λ (label : ℕ) (r : Run). cond (nat_eq r.node n && nat_le r.moment t) r.label label) x rs ≡ x
fold-other [] n t x h = refl
fold-other (r ∷ rs) n t x h =
    let ne = All-head (λ (s : Run). s.node ≡ n → ⊥) r rs h in
    let here = and_left (nat_eq r.node n) (nat_le r.moment t) (ne_eqb r.node n ne) in
    ap (λ b. fold (λ (label : ℕ) (s : Run). cond (nat_eq s.node n && nat_le s.moment t) s.label label) (cond b r.label x) rs) here
    ∙ fold-other rs n t x (All-tail (λ (s : Run). s.node ≡ n → ⊥) r rs h)

exit-apart : (m : Model) (c n : ℕ) (r : Run) → is_exit_at m n ≡ true → IsRun m c r → r.node ≡ n → ⊥
exit-apart m c n r e is q = let f = is.no_exit in let g = ap (is_exit_at m) q in let z : true ≡ false = sym e ∙ sym g ∙ f in cc

-- an exit has no label
exit-label : (m : Model) (c : ℕ) (rs : List Run) (n t : ℕ) → All (IsRun m c) rs → is_exit_at m n ≡ true → run_label rs n t ≡ unset
unfolding run_label
exit-label m c rs n t all e = fold-other rs n t unset (All-weaker (IsRun m c) (λ (r : Run). r.node ≡ n → ⊥) (λ r is. exit-apart m c n r e is) rs all)

-- before c each node that is no exit has a label up to c
fit-label : (m : Model) (d : Draft) (n t : ℕ) → IsDraft m d → is_full m d ≡ true → n < length m.nodes → is_exit_at m n ≡ false → t < d.cleared → run_label d.runs n t ≤ d.cleared
fit-label m d n t h full l e b = grind (arith, and_parts, or_cases, eqb-true, cases_lt, exits-at)

labels-of : (m : Model) (d : Draft) (l : LabelTable) → IsDraft m d → is_full m d ≡ true → AreRunLabels m d.cleared d.runs l → AreLabelsOf m d.cleared l
labels-of m d l h full is = record {
  table = is.table;
  exits_unset = λ n t a b e. elim (cases_lt t d.cleared) [
    | inl k ↦ is.early n t a k ∙ exit-label m d.cleared d.runs n t h.runs.each e
    | inr k ↦ is.late n t a k b
  ];
  late_unset = λ n t a b k. is.late n t a k b;
  fit = λ n t a e k. let x = is.early n t a k in let y = fit-label m d n t h full a e k in omega (arith, x, y);
}

pub stated-fits : (m : Model) (d : Draft) (b : Block) → IsDraft m d → is_full m d ≡ true → IsStated m d b → IsBlockOf m b
stated-fits m d b h full is = grind (arith, and_parts, eqb-true, labels-of)
