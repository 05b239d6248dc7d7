use Rattle.std.proofs.Common.{rules, ap}
use Rattle.talk.specs.Speaking.{HearsLine, Shown, shown}
use Rattle.talk.specs.declared.talker.Talker.{Talker}
use Rattle.talk.proofs.Answering.{map-listens, shown-so}
use Rattle.talk.proofs.talker.converse.Goals as goal

pub returns-clause-hears : goal.returns-clause-hears
returns-clause-hears g c =
    let t = g.T.Speaker in
    let same = c.listen.ensures.kept in
    let shows : Talker g.row.T.Denot g.row.K.Denot g.row.L.Denot → Shown t.Kept t.State =
    λ s. shown (t.kept s.speaker.now) (t.state s.speaker.now) (g.K.Sink.held s.sink.now) s.out.now (g.K.Sink.faults s.sink.now) s.steps.now in
    let end = c.listen.new.listener in
    λ names m. (
      end.speaker.now,
      map-listens shows _ (HearsLine (t.talk names m) (t.Reaches names m)) (λ x y line text result h. h names m) c.listen.result _ _ _ _ _ _ _ c.listen.ensures.listens
          (shown-so (t.kept end.speaker.now) (t.state end.speaker.now) _ _ _ _ _ _ _ _ (ap g.K.Sink.held (let n = ap (λ k. k.1) same in search rules)) (let n = ap (λ k. k.0) same in search rules)
          (ap g.K.Sink.faults (let n = ap (λ k. k.1) same in search rules)) (let n = ap (λ k. k.2) same in search rules)),
    )
