use Rattle.std.proofs.Common.{◌≡◌, ◌∙◌, List, ℕ, ap, sym, ◌∷◌, length}
use Rattle.std.proofs.lemmas.Bool.{eqb-true, eqb-false}
use Rattle.std.proofs.lemmas.List.{nil_from_length}
use Rattle.model_text.specs.Fields.{fields_of, behind_word, skipped, word}
use Rattle.model_text.proofs.FieldLemmas.{fields-none, fields-some}
use Rattle.model_text.proofs.fields.Fields.next.Goals as goal
use Rattle.model_text.proofs.fields.Fields.next.Goals.{then-is_empty, else-is_empty}

pub returns-clause-field : goal.returns-clause-field
returns-clause-field c =
    let line : List ℕ = c.args.self.now in
    let found : c.split.result.0.now ≡ word (skipped line) = c.split.ensures.word ∙ ap word (c.skipped.ensures ∙ ap skipped c.self.view_is) in
    let rest : c.split.result.1.now ≡ behind_word (skipped line) = c.split.ensures.behind ∙ ap behind_word (c.skipped.ensures ∙ ap skipped c.self.view_is) in
    elim c.if-is_empty.branch [
      | then-is_empty w ↦ rw w.result-is (fields-none line (sym found ∙ nil_from_length _ (eqb-true _ 0 (sym w.if-is_empty.ensures))))
      | else-is_empty w ↦ rw w.result-is (fields-some line (λ none. eqb-false _ 0 (sym w.if-is_empty.ensures) (ap length (found ∙ none))) ∙ (let e : (word (skipped line) ∷ fields_of (behind_word (skipped line))) ≡ c.split.result.0.now ∷ fields_of c.split.result.1.now = cc in e))
    ]
