use Rattle.std.proofs.Common.{ap, ◌∙◌, drop}
use Rattle.std.proofs.lemmas.List.{take_rest}
use Rattle.model_text.proofs.FieldLemmas.{skipped-is}
use Rattle.model_text.proofs.fields.skipped.Goals as goal

pub returns : goal.returns
returns c = take_rest c.args.bytes.now c.blank_len-count.result ∙ ap (λ n. drop n c.args.bytes.now) c.blank_len-count.ensures.value ∙ skipped-is c.args.bytes.now
