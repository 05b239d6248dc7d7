use Rattle.std.proofs.Common.{ap, sym, ◌∙◌}
use Rattle.model_text.specs.Fields.{fields_of}
use Rattle.certificate_text.specs.Entries.{entry_of, entry_of_fields}
use Rattle.block_reader.proofs.entry.read_entry.Goals as goal

pub returns-in-None : goal.returns-in-None
unfolding entry_of
returns-in-None c = sym (ap entry_of_fields (ap fields_of (sym c.new-fields.ensures) ∙ c.in-None.ensures.field))

pub returns-in-Some : goal.returns-in-Some
unfolding entry_of
returns-in-Some c = c.entry_by_word.ensures ∙ sym (ap entry_of_fields (ap fields_of (sym c.new-fields.ensures) ∙ c.in-Some.ensures.field))
