use Rattle.std.proofs.Common.{◌++◌, append_assoc, refl, rules, sym}
use Rattle.line_io.proofs.WriterLemmas.{writes_is, writes_then}
use Rattle.session_text.specs.StateTexts.{block_text}
use Rattle.talk.proofs.Sending.{sent}
use Rattle.evac_top.proofs.plan.send_plan.Goals as goal

pub returns : goal.returns
returns g c =
    let block = block_text 0 c.args.session.now.state in
    let a = c.put_asked.ensures in (
      block ++ a.0 ++ a.1,
      record { asked = a.0; says_asked = a.2; reports = a.1; says_reports = a.3; parts = refl },
      sent c.flush.result c.new-writer.result c.put_asked.new.writer c.flush.new.self _ c.new-writer.ensures.failed (search rules) (search rules) (search rules) (search rules)
          (writes_is (sym (append_assoc block a.0 a.1)) (writes_then c.put_block.ensures a.4)) c.flush.ensures.text c.flush.ensures.ok c.flush.ensures.sent c.flush.ensures.err,
    )
