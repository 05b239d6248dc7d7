use Rattle.std.proofs.Common.{◌≡◌, ℕ, List, [], ◌∷◌, Ok, ap, sym, ◌∙◌}
use Rattle.model_text.specs.declared.study.StudyCommand.TheVariants.{Blank}
use Rattle.model_text.specs.Fields.{fields_of, behind_field}
use Rattle.model_text.specs.StudyCommands.{study_by_word, study_command_of, study_of_fields}
use Rattle.model_text.proofs.study.read_study_command.Goals as goal

study-none : (line : List ℕ) → fields_of line ≡ [] → study_command_of line ≡ Ok Blank
unfolding study_command_of
study-none line none = ap (λ fs. study_of_fields fs (fields_of (behind_field line))) none

study-some : (line word rest : List ℕ) (more : List (List ℕ)) → fields_of line ≡ word ∷ more → rest ≡ behind_field line → study_command_of line ≡ study_by_word word (fields_of rest)
unfolding study_command_of
study-some line word rest more some e = rw e (ap (λ fs. study_of_fields fs (fields_of (behind_field line))) some)

pub returns-in-None : goal.returns-in-None
returns-in-None c = sym (study-none c.args.line.now (ap fields_of (sym c.new-fields.ensures) ∙ c.in-None.ensures.field))

pub returns-in-Some : goal.returns-in-Some
returns-in-Some c =
    c.by_word.ensures
    ∙ sym (study-some c.args.line.now c.in-Some.word.now c.next.new.self _ (ap fields_of (sym c.new-fields.ensures) ∙ c.in-Some.ensures.field)
    (c.in-Some.ensures.rest ∙ ap behind_field c.new-fields.ensures))
