use Rattle.std.proofs.Common.{ap, sym, ◌∙◌}
use Rattle.model_text.specs.Fields.{fields_of, behind_field}
use Rattle.model_text.proofs.GoodLemmas.{good-command, command-fault, command-no_word, command-no_range}
use Rattle.model_text.proofs.GrammarLemmas.{command-none, command-some}
use Rattle.model_text.proofs.command.read_command.Goals as goal

pub returns-in-None-clause-exact : goal.returns-in-None-clause-exact
returns-in-None-clause-exact c = sym (command-none c.args.line.now (ap fields_of (sym c.new-fields.ensures) ∙ c.in-None.ensures.field))

pub returns-in-Some-clause-exact : goal.returns-in-Some-clause-exact
returns-in-Some-clause-exact c =
    c.by_word.ensures
    ∙ sym (command-some c.args.line.now c.in-Some.word.now c.next.new.self _ (ap fields_of (sym c.new-fields.ensures) ∙ c.in-Some.ensures.field)
    (c.in-Some.ensures.rest ∙ ap behind_field c.new-fields.ensures))

pub returns-in-Some-clause-no_statement : goal.returns-in-Some-clause-no_statement
returns-in-Some-clause-no_statement c =
    command-no_word c.by_word.result (command-fault c.by_word.result _ c.by_word.ensures (good-command c.in-Some.word.now (fields_of c.next.new.self)))

pub returns-in-Some-clause-no_range : goal.returns-in-Some-clause-no_range
returns-in-Some-clause-no_range c =
    command-no_range c.by_word.result (command-fault c.by_word.result _ c.by_word.ensures (good-command c.in-Some.word.now (fields_of c.next.new.self)))
