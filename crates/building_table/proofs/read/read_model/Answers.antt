use Rattle.std.proofs.Common.{refl}
use Rattle.line_io.proofs.CallLemmas.{asks-none}
use Rattle.line_io.proofs.HearingLemmas.{caused-rose, caused-same, rests-open}
use Rattle.building_table.proofs.ReadLemmas.{reads-all, reads-lines, reads-memory, reads-model, reads-names, reads-valid}
use Rattle.building_table.proofs.read.read_model.Goals as goal

pub returns-in_default-clause-bytes : goal.returns-in_default-clause-bytes
returns-in_default-clause-bytes g c = reads-lines c.args.lines.now c.args.lines.now _ _ _ (reads-memory c.args.lines.now (g.S.Source.left c.args.source.now))

pub returns : goal.returns
returns g c =
    let listens = c.listen-ending.ensures.listens in
    let caused = c.conclude.ensures.caused in
    let by = reads-all c.listen-ending.result _ _ _ _ _ _ listens (refl, c.in-Ok.ensures) _ _ c.conclude.ensures.answer c.number.ensures.number in
    record {
      reading = reads-model _ _ _ _ _ by;
      valid = reads-valid _ _ _ _ _ by;
      names = reads-names _ _ _ _ _ by;
      bytes = reads-lines _ _ _ _ _ by;
      drained = c.listen-ending.ensures.drained;
      asks = c.listen-ending.ensures.asks;
      cause = record {
        rose = λ is. caused-rose _ _ _ (caused is) c.listen-ending.ensures.cause;
        same = λ other. caused-same _ _ _ (λ is. other (c.conclude.ensures.quiet is)) c.listen-ending.ensures.cause;
      };
      unfinished = λ is. rests-open _ _ (caused is) listens.rests;
    }

pub returns-in_default-clause-asks : goal.returns-in_default-clause-asks
returns-in_default-clause-asks g c = asks-none g.S.Source.takes c.args.lines.now c.args.source.now
