use Rattle.line_io.proofs.HearingLemmas.{caused-rose, caused-same, rests-open}
use Rattle.evac_top.proofs.TailLemmas.{passes-tail, reads-tail}
use Rattle.evac_top.proofs.read.read_tail.Goals as goal

pub returns-clause-tail : goal.returns-clause-tail
returns-clause-tail g c = reads-tail c.listen-ending.result _ _ _ _ _ _ c.listen-ending.ensures.listens _ _ c.conclude_tail.ensures.answer c.number.ensures.number

pub returns-clause-passes : goal.returns-clause-passes
returns-clause-passes g c = passes-tail c.listen-ending.result _ _ _ _ _ _ c.conclude_tail.result c.listen-ending.ensures.listens c.conclude_tail.ensures.caused

pub returns-clause-cause : goal.returns-clause-cause
returns-clause-cause g c =
    let ending = c.listen-ending.ensures.cause in record {
      rose = λ is. caused-rose _ _ _ (c.conclude_tail.ensures.caused is) ending;
      same = λ other. caused-same _ _ _ (λ is. other (c.conclude_tail.ensures.quiet is)) ending;
    }

pub returns-clause-unfinished : goal.returns-clause-unfinished
returns-clause-unfinished g c = λ is. rests-open _ _ (c.conclude_tail.ensures.caused is) c.listen-ending.ensures.listens.rests
