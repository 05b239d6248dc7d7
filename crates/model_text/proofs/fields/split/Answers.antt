use Rattle.std.proofs.Common.{ap, ◌∙◌, drop, take}
use Rattle.std.proofs.lemmas.List.{take_rest}
use Rattle.model_text.proofs.FieldLemmas.{word-is, behind_word-is}
use Rattle.model_text.proofs.fields.split.Goals as goal

pub returns-clause-word : goal.returns-clause-word
returns-clause-word c = ap (λ n. take n c.args.bytes.now) c.word_len-count.ensures.value ∙ word-is c.args.bytes.now

pub returns-clause-behind : goal.returns-clause-behind
returns-clause-behind c = take_rest c.args.bytes.now c.word_len-count.result ∙ ap (λ n. drop n c.args.bytes.now) c.word_len-count.ensures.value ∙ behind_word-is c.args.bytes.now
