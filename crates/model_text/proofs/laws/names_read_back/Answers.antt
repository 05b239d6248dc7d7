use Rattle.std.proofs.Common.{ap, ◌∙◌}
use Rattle.model_text.specs.NameFields.{name_of}
use Rattle.model_text.proofs.NameLaws.{text-reads, reads-right, reads-as-text}
use Rattle.model_text.proofs.laws.names_read_back.Goals as goal

pub returns : goal.returns
returns c = λ field name. record {
  text_reads = λ is e. ap name_of e ∙ text-reads name is;
  reads_as_name = reads-right field name;
  reads_as_text = reads-as-text field name;
}
