use Rattle.std.proofs.Common.{ap, sym, ◌∙◌}
use Rattle.model_text.specs.Fields.{fields_of, behind_field}
use Rattle.model_text.proofs.GoodLemmas.{good-later_word, read-within, read-fault}
use Rattle.model_text.proofs.GrammarLemmas.{later-none, later-some}
use Rattle.model_text.proofs.statement.read_later_line.Goals as goal

pub returns-in-None-clause-exact : goal.returns-in-None-clause-exact
returns-in-None-clause-exact c = later-none c.args.version c.args.line.now (ap fields_of (sym c.new-fields.ensures) ∙ c.in-None.ensures.field)

pub returns-in-Some-clause-exact : goal.returns-in-Some-clause-exact
returns-in-Some-clause-exact c =
    let e = later-some c.args.version c.args.line.now c.in-Some.word.now c.next.new.self _ (ap fields_of (sym c.new-fields.ensures) ∙ c.in-Some.ensures.field)
    (c.in-Some.ensures.rest ∙ ap behind_field c.new-fields.ensures) in
    rw e c.later_by_word.ensures

pub returns-in-Some-clause-within : goal.returns-in-Some-clause-within
returns-in-Some-clause-within c = read-within c.later_by_word.result _ c.later_by_word.ensures (good-later_word c.args.version c.in-Some.word.now c.next.new.self)

pub returns-in-Some-clause-no_command : goal.returns-in-Some-clause-no_command
returns-in-Some-clause-no_command c = read-fault c.later_by_word.result _ c.later_by_word.ensures (good-later_word c.args.version c.in-Some.word.now c.next.new.self)
