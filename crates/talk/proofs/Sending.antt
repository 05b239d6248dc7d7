-- A text that is put and flushed, and the refusal of a model that can't be cleared.
use Rattle.std.proofs.Common.{◌≡◌, ℕ, ◌+◌, true, false, List, [], Result, Ok, Err, OnOk, OnErr, refl, subst, append-nil}
use Rattle.std.specs.declared.option.Option.{Option}
use Rattle.evac_law.specs.declared.model.Model.{Model}
use Rattle.evac_law.specs.Certificates.{label_cut}
use Rattle.line_io.specs.Causes.{Count}
use Rattle.line_io.specs.View.{Reader}
use Rattle.line_io.specs.Writer.{Writes}
use Rattle.line_io.specs.declared.out.WriteFault.{WriteFault}
use Rattle.line_io.specs.declared.outside.Sink.{Ghosts}
use Rattle.line_io.specs.declared.writer.Writer.{Writer}
use Rattle.line_io.proofs.WriterLemmas.{writes_is, writes_then}
use Rattle.certificate_text.specs.BlockText.{shortfall_text}
use Rattle.edit_session.specs.declared.faults.BeginFault.{BeginFault}
use Rattle.edit_session.specs.declared.faults.BeginFault.TheVariants.{NotCleared}
use Rattle.edit_session.specs.declared.faults.Short.{Short}
use Rattle.edit_session.specs.Sessions.{BeginEnds}
use Rattle.talk.specs.Held.{HoldsTalk, RefusesBy, SendsBy, around, status_after}
use Rattle.talk.specs.Short.{OpensShort}
use Rattle.talk.specs.Talks.{Spoken, Talk}
use Rattle.talk.proofs.Holding.{held_as, held_refused}

-- a text that was put and flushed by a writer before a sink
pub sent : {X : Type 0} {G : Ghosts X} (result : Result (Unit {0}) WriteFault) (a b c : Writer X) (text : List ℕ) {s s' : X} {p p' : List ℕ} → a.failed ≡ false → a.sink.now ≡ s
    → a.out.now ≡ p → c.sink.now ≡ s' → c.out.now ≡ p' → Writes G a text b → Writes G b [] c → OnOk result (c.failed ≡ false) → OnOk result (c.out.now ≡ []) → OnErr result (c.failed ≡ true)
    → SendsBy result text (G.held s) p (G.faults s) (G.held s') p' (G.faults s')
sent {X} {G} result a b c text {s} {s'} {p} {p'} fresh e f i j put flush fine gone failed = rw (← e, ← f, ← i, ← j) (by_result result fine gone failed)
  where
    all : Writes G a text c
    all = writes_is (append-nil text) (writes_then put flush)

    by_result : (r : Result (Unit {0}) WriteFault) → OnOk r (c.failed ≡ false) → OnOk r (c.out.now ≡ []) → OnErr r (c.failed ≡ true)
        → SendsBy r text (G.held a.sink.now) a.out.now (G.faults a.sink.now) (G.held c.sink.now) c.out.now (G.faults c.sink.now)
    by_result (Ok done) fine gone failed = record { put = record { ok = all.whole fresh fine; err = tt }; flushed = gone; cause = record { same = all.same fine; failed = tt } }
    by_result (Err fault) fine gone failed =
        record { put = record { ok = tt; err = all.front fresh failed }; flushed = tt; cause = record { same = tt; failed = all.rose fresh failed } }

-- ---- the refusal of a model that can't be cleared

short_opens : (m : Model) (s : Short) (line n : ℕ) → BeginEnds m (Err (NotCleared s)) n
    → OpensShort m line (record { status = 1; text = shortfall_text line m (label_cut m s.labels m.horizon) s.most; steps = n })
short_opens m s line n h = record {
  most = s.most;
  refused = refl;
  short = record { cut = label_cut m s.labels m.horizon; barred_by = h.2.barred_by; block = refl };
  spent = h.3;
}

-- a talk that is refused so
pub short_held : {S : Type 0} (talk : Talk S) (m : Model) (why : BeginFault) (s : Short) (status line n k j : ℕ) (r : Reader) (left : Option (List ℕ)) (reads : Count)
    (held held' : Option (List ℕ)) (pending pending' : List ℕ) (writes writes' : Count) → ((l : ℕ) (x : Spoken) → OpensShort m l x → talk.Refuses l x) → why ≡ NotCleared s
    → BeginEnds m (Err why) n → line ≡ r.number → j ≡ k + n → pending ≡ []
    → RefusesBy (shortfall_text line s.model (label_cut s.model s.labels s.model.horizon) s.most) status held pending writes held' pending' writes'
    → HoldsTalk talk status (around r left reads held writes k) (around r left reads held' writes' j)
short_held talk m why s status line n k j r left reads held held' pending pending' writes writes' barred named refused at counted none refuses =
    let h = subst (λ (w : BeginFault). BeginEnds m (Err w) n) named refused in
    let text = shortfall_text r.number m (label_cut m s.labels m.horizon) s.most in
    let here = subst (λ (x : Model). RefusesBy (shortfall_text line x (label_cut x s.labels x.horizon) s.most) status held pending writes held' pending' writes') h.0 refuses in
    let there = subst (λ (x : ℕ). RefusesBy (shortfall_text x m (label_cut m s.labels m.horizon) s.most) status held pending writes held' pending' writes') at here in
    let a = around r left reads held writes k in
    let b = around r left reads held' writes' j in
    held_as talk status (status_after there.sent 1) a b there.over
    (held_refused talk there.sent text r left reads held held' pending pending' writes writes' k j n counted none there.sends (barred r.number _ (short_opens m s r.number n h)))
