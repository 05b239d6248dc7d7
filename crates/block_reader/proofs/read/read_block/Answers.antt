use Rattle.std.proofs.Common.{refl}
use Rattle.line_io.proofs.HearingLemmas.{caused-rose, caused-same, rests-open}
use Rattle.block_reader.proofs.BlockReadLemmas.{closed-so, reads-all, reads-block, reads-fits, reads-labels, reads-lines}
use Rattle.block_reader.proofs.GivesBack.{gives-back}
use Rattle.block_reader.proofs.read.read_block.Goals as goal

pub conclude-requires-clause-draft : goal.conclude-requires-clause-draft
conclude-requires-clause-draft g c = λ is. closed-so c.args.model.now c.listen-ending.result _ _ _ _ _ _ c.listen-ending.ensures.listens (refl, c.new.ensures) is

pub returns : goal.returns
returns g c =
    let m = c.args.model.now in
    let listens = c.listen-ending.ensures.listens in
    let conclude = c.conclude.ensures in
    let by = reads-all m c.listen-ending.result _ _ _ _ _ _ listens c.requires.valid (refl, c.new.ensures) _ _ conclude.answer c.number.ensures.number in
    let reading = reads-block m _ _ _ _ _ by in
    record {
      reading = reading;
      block = reads-fits m _ _ _ _ _ by;
      labels = reads-labels m _ _ _ _ _ by;
      back = gives-back m c.conclude.result _ _ _ _ c.requires.valid reading;
      bytes = reads-lines m _ _ _ _ _ by;
      drained = c.listen-ending.ensures.drained;
      asks = c.listen-ending.ensures.asks;
      cause = record {
        rose = λ is. caused-rose _ _ _ (conclude.caused is) c.listen-ending.ensures.cause;
        same = λ other. caused-same _ _ _ (λ is. other (conclude.quiet is)) c.listen-ending.ensures.cause;
      };
      unfinished = λ is. rests-open _ _ (conclude.caused is) listens.rests;
    }
