-- What a line says or commands, by its first field and what comes after it.
use Rattle.std.proofs.Common.{◌≡◌, ℕ, cond, List, [], ◌∷◌, Ok, Err, ap, ◌∙◌}
use Rattle.model_text.specs.declared.command.Command.TheVariants as commands
use Rattle.model_text.specs.declared.fault.TextFault.TheVariants.{UnknownWord}
use Rattle.model_text.specs.Commands.{command_of, command_of_fields, command_by_word}
use Rattle.model_text.specs.Fields.{fields_of, behind_field}
use Rattle.model_text.specs.Grammar.{Blank, by_word, of_fields, statement_of}
use Rattle.model_text.specs.Readings.{begins_unknown, is_unknown, later_statement}

pub statement-none : (line : List ℕ) → fields_of line ≡ [] → statement_of line ≡ Ok Blank
unfolding statement_of
statement-none line none = ap (λ fs. of_fields fs (behind_field line)) none

pub statement-some : (line word rest : List ℕ) (more : List (List ℕ)) → fields_of line ≡ word ∷ more → rest ≡ behind_field line → statement_of line ≡ by_word word rest
unfolding statement_of
statement-some line word rest more some e = rw e (ap (λ fs. of_fields fs (behind_field line)) some)

-- the same after the header of a version
pub later-none : (version : ℕ) (line : List ℕ) → fields_of line ≡ [] → later_statement version line ≡ Ok Blank
unfolding later_statement
later-none version line none = ap (λ fs. cond (begins_unknown version fs) (Err UnknownWord) (statement_of line)) none ∙ statement-none line none

pub later-some : (version : ℕ) (line word rest : List ℕ) (more : List (List ℕ)) → fields_of line ≡ word ∷ more → rest ≡ behind_field line
    → later_statement version line ≡ cond (is_unknown version word) (Err UnknownWord) (by_word word rest)
unfolding later_statement
later-some version line word rest more some e =
    ap (λ fs. cond (begins_unknown version fs) (Err UnknownWord) (statement_of line)) some
    ∙ ap (λ s. cond (is_unknown version word) (Err UnknownWord) s) (statement-some line word rest more some e)

pub command-none : (line : List ℕ) → fields_of line ≡ [] → command_of line ≡ Ok commands.Blank
unfolding command_of
command-none line none = ap (λ fs. command_of_fields fs (fields_of (behind_field line))) none

pub command-some : (line word rest : List ℕ) (more : List (List ℕ)) → fields_of line ≡ word ∷ more → rest ≡ behind_field line → command_of line ≡ command_by_word word (fields_of rest)
unfolding command_of
command-some line word rest more some e = rw e (ap (λ fs. command_of_fields fs (fields_of (behind_field line))) some)
