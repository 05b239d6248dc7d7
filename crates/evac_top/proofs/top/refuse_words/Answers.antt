use Rattle.std.proofs.Common.{arith, refl}
use Rattle.evac_top.specs.Answers.{words_text}
use Rattle.evac_top.proofs.TellLemmas.{RefusesBy, tells-nothing, tells-sent, words-told}
use Rattle.talk.specs.Statuses.{status_number}
use Rattle.evac_top.proofs.top.refuse_words.Goals as goal

pub returns-in_default : goal.returns-in_default
returns-in_default g c = λ source steps. words-told 5 source steps _ _ (tells-nothing RefusesBy 0 _)

pub returns : goal.returns
returns g c = λ source steps.
    words-told (status_number c.status_after.result) source steps _ _
    (tells-sent RefusesBy 2 0 words_text c.send_refusal-sent.result _ _ (status_number c.status_after.result) c.status_after.ensures (omega arith)
    c.in-Ok.ensures c.send_refusal-sent.ensures (λ taken. record { over = refl; text_whole = refl; counted = refl }))
