use Rattle.std.proofs.Common.{[], ◌∷◌, ◌++◌, ap, rules}
use Rattle.line_io.proofs.WriterLemmas.{writes_is}
use Rattle.talk.proofs.Sending.{sent}
use Rattle.evac_top.specs.Check.{verdict_text}
use Rattle.evac_top.proofs.verdict.send_verdict.Goals as goal

pub returns : goal.returns
unfolding verdict_text
returns g c =
    sent c.flush.result c.new-writer.result c.put.new.self c.flush.new.self (verdict_text c.args.model.now c.args.verdict) c.new-writer.ensures.failed (search rules) (search rules) (search rules) (search rules)
    (writes_is (ap (λ l. l ++ (10 ∷ [])) c.line_of.ensures) c.put.ensures) c.flush.ensures.text c.flush.ensures.ok c.flush.ensures.sent c.flush.ensures.err
