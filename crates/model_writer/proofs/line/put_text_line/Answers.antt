use Rattle.std.proofs.Common.{◌≡◌, ℕ, List, [], ◌∷◌, ◌++◌, sym, ap, ◌∙◌, append_assoc}
use Rattle.line_io.proofs.WriterLemmas.{writes_is, writes_then}
use Rattle.model_writer.specs.ModelText.{ended, line_end}
use Rattle.model_writer.proofs.EndedLemmas.{line_end-text}
use Rattle.model_writer.proofs.line.put_text_line.Goals as goal

-- the fields, a space, the text and its end, one after the other
in-parts : (fields text : List ℕ) → ((fields ++ (32 ∷ [])) ++ text) ++ line_end text ≡ ended (fields ++ (32 ∷ text))
in-parts fields text =
    ap (λ l. l ++ line_end text) (append_assoc fields (32 ∷ []) text) ∙ ap (λ l. (fields ++ (32 ∷ text)) ++ l) (sym (line_end-text fields text))

pub returns : goal.returns
returns g c =
    writes_is (in-parts c.args.fields.now c.args.text.now)
    (writes_then (writes_then (writes_then c.put_all.ensures c.put_all-2.ensures) c.put_all-3.ensures) (writes_is c.end_of.ensures c.put_all-4.ensures))
