-- Labels that are unset from a moment on, and labels that change once more.
use Rattle.std.proofs.Common.{subst, ◌≡◌, ℕ, ◌+◌, ◌*◌, ◌<◌, ◌≤◌, leb, length, sym, ◌∙◌, refl, arith, inr}
use Rattle.std.proofs.lemmas.Bool.Decides.{nat_tests}
use Rattle.std.proofs.lemmas.List.{length-map}
use Rattle.evac_law.specs.LabelTable.{LabelTable, below_or_unset, label_at, unset, unset_from}
use Rattle.evac_law.proofs.LabelLemmas.{unset_at}
use Rattle.terminal_augment.specs.Settled.{IsLabelled}
use Rattle.lex_flow.specs.Settling.{IsRelabelled}

kept_early : (from d : ℕ) → d < from → below_or_unset from d ≡ d
kept_early from d less = grind (arith, nat_tests)

unset_late : (from d : ℕ) → from ≤ d → below_or_unset from d ≡ unset
unset_late from d late = grind (arith, nat_tests)

-- at moments before all that are unset a label counts as it did
pub early_same : (from i d : ℕ) → i < from → from < unset → leb (below_or_unset from d) i ≡ leb d i
early_same from i d less few = grind (arith, nat_tests)

-- a table is as full as it is with labels unset
pub full_before : (l m : LabelTable) (from : ℕ) → m ≡ unset_from l from → length m.list ≡ m.nodes * (m.horizon + 1) → length l.list ≡ l.nodes * (l.horizon + 1)
full_before l m from e full = sym (length-map l.list (below_or_unset from)) ∙ subst (λ (z : LabelTable). length z.list ≡ z.nodes * (z.horizon + 1)) e full

pub relabelled_unset : (l : LabelTable) (from : ℕ) → length l.list ≡ l.nodes * (l.horizon + 1) → IsRelabelled l (unset_from l from) from from
relabelled_unset l from full = record {
  nodes = refl;
  horizon = refl;
  kept = λ n t i j less. unset_at l from n t full i j ∙ kept_early from (label_at l n t) less;
  others = λ n t i j late. inr (unset_at l from n t full i j ∙ unset_late from (label_at l n t) late);
}

-- one more moment is settled
pub relabelled_more : (l m z : LabelTable) (from k : ℕ) → from ≤ k → k < unset → IsRelabelled l m from k → IsLabelled m z k → IsRelabelled l z from (k + 1)
relabelled_more l m z from k since few p q = record {
  nodes = q.nodes ∙ p.nodes;
  horizon = q.horizon ∙ p.horizon;
  kept = λ n t i j less. let old = p.kept n t i j less in q.kept n t (omega (arith, i, p.nodes)) (omega (arith, j, p.horizon)) (omega (arith, old, less, since)) ∙ old;
  others = λ n t i j late.
      grind (arith, p.others n t i j late, q.kept n t (omega (arith, i, p.nodes)) (omega (arith, j, p.horizon)), q.others n t (omega (arith, i, p.nodes)) (omega (arith, j, p.horizon)));
}
