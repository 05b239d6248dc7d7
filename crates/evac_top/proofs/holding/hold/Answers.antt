use Rattle.std.proofs.Common.{◌≡◌, ℕ, List, ap, rules, subst}
use Rattle.std.specs.declared.option.Option.{Option}
use Rattle.line_io.specs.Calls.{Asks, Taking}
use Rattle.line_io.specs.Reader.{Drained, HasRoom}
use Rattle.line_io.specs.View.{Reader}
use Rattle.line_io.specs.declared.outside.Sink.{Ghosts as SinkGhosts}
use Rattle.line_io.specs.declared.outside.Source.{Ghosts as SourceGhosts}
use Rattle.line_io.proofs.CallLemmas.{asked-none}
use Rattle.evac_top.proofs.TakeLemmas.{asked-fresh, asked-then, fresh-drained}
use Rattle.evac_top.proofs.TalkLemmas.{not-read, talk-held, talk-reads}
use Rattle.evac_top.proofs.TellLemmas.{no-memory}
use Rattle.talk.specs.Held.{HoldsTalk, around, met_on}
use Rattle.talk.specs.Statuses.{status_number}
use Rattle.talk.specs.Talks.{Talk}
use Rattle.talk.specs.declared.channel.Channel.{Channel}
use Rattle.evac_top.proofs.holding.hold.Goals as goal

-- what was held on a channel, by equal values at its ends
module _ {S K : Type 0} (a b : Channel S K) {r : Reader} {s s' : S} {k k' : K} (lines : a.lines.now ≡ r) (source : a.source.now ≡ s) (sink : a.sink.now ≡ k)
    (source' : b.source.now ≡ s') (sink' : b.sink.now ≡ k') where
  held-by : {T : Type 0} (talk : Talk T) (status : ℕ) (e : SourceGhosts S) (f : SinkGhosts K) (n j : ℕ)
      → HoldsTalk talk status (met_on e f a n) (met_on e f b j)
      → HoldsTalk talk status (around r (e.left s) (e.faults s) (f.held k) (f.faults k) n) (around b.lines.now (e.left s') (e.faults s') (f.held k') (f.faults k') j)
  held-by talk status e f n j h = rw (← lines, ← source, ← sink, ← source', ← sink') h

-- and what was asked of the source
module _ {S K : Type 0} (a b : Channel S K) {r : Reader} {s s' : S} (lines : a.lines.now ≡ r) (source : a.source.now ≡ s) (source' : b.source.now ≡ s') where
  drained-by : (left : S → Option (List ℕ)) → (Drained a.lines.now (left a.source.now) → Drained b.lines.now (left b.source.now)) → Drained r (left s) → Drained b.lines.now (left s')
  drained-by left h = rw (← lines, ← source, ← source') h

  asked-by : {takes : Taking S} → Asks takes a.lines.now a.source.now b.lines.now b.source.now → Asks takes r s b.lines.now s'
  asked-by h = rw (← lines, ← source, ← source') h

room-by : {q r t : Reader} → q ≡ r → (HasRoom q → HasRoom t) → HasRoom r → HasRoom t
room-by {t = t} e h = subst (λ (x : Reader). HasRoom x → HasRoom t) e h

pub returns-in_default-clause-run : goal.returns-in_default-clause-run
returns-in_default-clause-run g c = λ mode m. no-memory mode (talk-reads mode g.T.Speaker.talk m) _

pub returns-in-Ok-read_model-clause-run : goal.returns-in-Ok-read_model-clause-run
returns-in-Ok-read_model-clause-run g c =
    let read = c.in-Ok-read_model.ensures in
    let fresh = c.in-Ok.ensures.fresh in
    let b = c.in-Ok-read_model.building in
    let s = g.S.Source in
    let k = g.K.Sink in
    let new = c.new-channel.ensures in
    let h = c.hold_talk.ensures in
    let a = c.new-channel.result in
    let z = c.hold_talk.new.channel in
    λ mode m. talk-held mode g.T.Speaker.talk m b (status_number c.hold_talk.result) c.in-Ok.lines c.read_model.new.lines z.lines.now _ _ _ _ (record {
      fresh = fresh;
      read = read.bytes;
      reading = read.reading;
      cause = read.cause;
      held = held-by a z (ap (λ x. x.now) new.lines) (ap (λ x. x.now) new.source) (ap (λ x. x.now) new.sink) (let n = h.ends.source in search rules) (let n = h.ends.sink in search rules)
          (g.T.Speaker.talk b.names b.model) (status_number c.hold_talk.result) s k _ _ h.held;
      drained = drained-by a z (ap (λ x. x.now) new.lines) (ap (λ x. x.now) new.source) (let n = h.ends.source in search rules) s.left h.drained (read.drained (fresh-drained _ _ fresh));
    })

pub returns-clause-run : goal.returns-clause-run
returns-clause-run g c =
    let read = c.in-Err.ensures in
    λ mode m. not-read mode g.T.Speaker.talk m c.in-Err.fault (status_number c.stop.result) c.in-Ok.lines c.read_model.new.lines c.args.steps.now _ _ _ _ c.in-Ok.ensures.fresh read.bytes
    read.reading read.unfinished read.cause c.stop.ensures

pub returns-in_default-clause-asked : goal.returns-in_default-clause-asked
returns-in_default-clause-asked g c = asked-none g.S.Source.takes _ _

pub returns-in-Ok-read_model-clause-asked : goal.returns-in-Ok-read_model-clause-asked
returns-in-Ok-read_model-clause-asked g c =
    let read = c.in-Ok-read_model.ensures in
    let new = c.new-channel.ensures in
    let h = c.hold_talk.ensures in
    let a = c.new-channel.result in
    let z = c.hold_talk.new.channel in
    asked-then c.in-Ok.ensures.fresh read.asks read.bytes.passes.room
    (asked-by a z (ap (λ x. x.now) new.lines) (ap (λ x. x.now) new.source) (let n = h.ends.source in search rules) h.asks)
    (room-by (ap (λ x. x.now) new.lines) h.held.passes.room)

pub returns-clause-asked : goal.returns-clause-asked
returns-clause-asked g c = asked-fresh c.in-Ok.ensures.fresh c.in-Err.ensures.asks c.in-Err.ensures.bytes.passes.room
