use Rattle.std.proofs.Common.{ap}
use Rattle.line_io.proofs.WriterLemmas.{writes_is, writes_then}
use Rattle.edit_session.specs.Sessions.{SessionView}
use Rattle.session_text.specs.StateTexts.{block_text}
use Rattle.talk.proofs.replans.speaker.put_advanced.Goals as goal

pub returns : goal.returns
returns g c =
    let t = c.put_gone.ensures in
    let block = writes_is (ap (λ (v : SessionView). block_text c.args.talk.now.desk.index v.state) c.session.ensures) c.put_block.ensures in
    (t.0, t.1, writes_then t.2 block)
