-- The lines that were heard got their replies, one after another.
use Rattle.std.proofs.Common.{◌≡◌, ℕ, ◌+◌, true, false, List, [], ◌∷◌, length, Result, Ok, Err, refl, sym, ap, subst, ◌∙◌, arith, append-nil}
use Rattle.std.proofs.Math.Nat.{add-zero}
use Rattle.std.specs.declared.option.Option.{Option}
use Rattle.line_io.specs.Causes.{Count}
use Rattle.line_io.specs.Hearing.{EndsBy, Hearing, HearsAll, Listens}
use Rattle.line_io.specs.Line.{Line}
use Rattle.line_io.specs.View.{Reader}
use Rattle.line_io.specs.Writer.{Puts, Writes}
use Rattle.line_io.specs.declared.hearing.Ending.{Ending}
use Rattle.line_io.specs.declared.hearing.Ending.TheVariants.{Finished, Failed, InputEnded, Fault}
use Rattle.line_io.specs.declared.hearing.Heard.{Heard}
use Rattle.line_io.specs.declared.hearing.Heard.TheVariants.{More, Last}
use Rattle.line_io.specs.declared.lines.LineFault.TheVariants.{ReadFault, LineTooLong, InputTooLong}
use Rattle.line_io.specs.declared.out.WriteFault.{WriteFault}
use Rattle.line_io.specs.declared.outside.Sink.{Ghosts}
use Rattle.line_io.specs.declared.writer.Writer.{Writer}
use Rattle.line_io.proofs.TextLemmas.{puts-none, puts-then}
use Rattle.line_io.proofs.WriterLemmas.{writes_is, writes_none, writes_then}
use Rattle.talk.specs.declared.fault.AnswerFault.{AnswerFault}
use Rattle.talk.specs.declared.fault.AnswerFault.TheVariants.{Write}
use Rattle.talk.specs.Speaking.{HearsLine, HearsText, PutsReply, PutsSome, Says, SaysFront, Shown, Speaking, shown}
use Rattle.talk.specs.Talks.{RepliesTo, Reply, Talk, followed, says}

-- ---- a reply that is put and flushed

module _ {N S X : Type 0} (G : Ghosts X) where
  pub reply_said : (x y : Speaking N S X) (r : Reply S) (w : Writer X) {s : X} {p : List ℕ} → x.writer.failed ≡ false → x.writer.sink.now ≡ s → x.writer.out.now ≡ p → PutsReply G x r y
      → Writes G y.writer [] w → w.failed ≡ false → Says (shown x.kept x.state (G.held s) p (G.faults s) x.steps) r (shown y.kept y.state (G.held w.sink.now) w.out.now (G.faults w.sink.now) y.steps)
  reply_said x y r w {s} {p} fresh e f puts flush fine =
      let all = writes_is (append-nil r.text) (writes_then puts.put flush) in
      rw (← e, ← f) (record { state = puts.state; put = all.whole fresh fine; faults = all.same fine; steps = puts.steps })

  pub reply_unsaid : (x y : Speaking N S X) (r : Reply S) (w : Writer X) {s : X} {p : List ℕ} → x.writer.failed ≡ false → x.writer.sink.now ≡ s → x.writer.out.now ≡ p → PutsReply G x r y
      → Writes G y.writer [] w → w.failed ≡ true → SaysFront (shown x.kept x.state (G.held s) p (G.faults s) x.steps) r (shown y.kept y.state (G.held w.sink.now) w.out.now (G.faults w.sink.now) y.steps)
  reply_unsaid x y r w {s} {p} fresh e f puts flush failed =
      let all = writes_is (append-nil r.text) (writes_then puts.put flush) in
      rw (← e, ← f) (record { put = all.front fresh failed; rose = all.rose fresh failed; steps = puts.steps })

  -- nothing is put to a line that gets nothing
  pub put_nothing : (Gets : Reply S → Type 0) (x : Speaking N S X) → Gets (says x.state []) → PutsSome G Gets x x
  put_nothing Gets x gets = (says x.state [], gets, record { kept = refl; state = refl; put = writes_none x.writer; steps = sym (add-zero x.steps) })

-- what is heard where the sink failed, by an equal result
pub hears_fault : {N S : Type 0} (talk : Talk S) (Reaches : ℕ → N → S → Type 0) (r : Result Heard AnswerFault) (x z : Shown N S) (line : ℕ) (text : List ℕ) (fault : WriteFault)
    → r ≡ Err (Write fault) → HearsText talk Reaches x line text (Err (Write fault)) z → HearsText talk Reaches x line text r z
hears_fault talk Reaches r x z line text fault is h = grind arith

-- ---- a listener that shows what it is

-- what a state hears, what it shows of itself hears too
module _ {S T F : Type 0} (f : S → T) (from : Hearing S F) (hears : Hearing T F)
    (shows : (x y : S) (line : ℕ) (text : List ℕ) (result : Result Heard F) → from x line text result y → hears (f x) line text result (f y)) where
  map-goes : (s s' : S) (n : ℕ) (texts : List (List ℕ)) → HearsAll from s n texts s' → HearsAll hears (f s) n texts (f s')
  unfolding HearsAll
  map-goes s s' n [] g = ap f g
  map-goes s s' n (t ∷ ts) g = (f g.0, shows s g.0 (n + 1) t (Ok More) g.1, map-goes g.0 s' (n + 1) ts g.2)

  map-ends : (ending : Ending F) (s s' : S) (n : ℕ) (last : List (List ℕ)) (rest : List Line) → EndsBy from ending s n last rest s' → EndsBy hears ending (f s) n last rest (f s')
  map-ends Finished s s' n last rest e = (e.0, e.1, shows s s' (n + 1) e.0 (Ok Last) e.2)
  map-ends (Failed fault) s s' n last rest e = (e.0, e.1, shows s s' (n + 1) e.0 (Err fault) e.2)
  map-ends InputEnded s s' n last rest e = (e.0, e.1, ap f e.2)
  map-ends (Fault LineTooLong) s s' n last rest e = (e.0, e.1, ap f e.2)
  map-ends (Fault InputTooLong) s s' n last rest e = (e.0, e.1, ap f e.2)
  map-ends (Fault ReadFault) s s' n last rest e = (e.0, ap f e.1)

  pub map-listens : (ending : Ending F) (s s' : S) (t' : T) (a c : Reader) (l n : Option (List ℕ)) → Listens from ending s s' a c l n → t' ≡ f s' → Listens hears ending (f s) t' a c l n
  map-listens ending s s' t' a c l n h is = record {
    texts = h.texts;
    last = h.last;
    rest = h.rest;
    at = f h.at;
    goes = map-goes s h.at a.number h.texts h.goes;
    ends = subst (EndsBy hears ending (f h.at) (a.number + length h.texts) h.last h.rest) (sym is) (map-ends ending h.at s' (a.number + length h.texts) h.last h.rest h.ends);
    passes = h.passes;
    is_left = h.is_left;
    rests = h.rests;
  }

pub shown-so : {N S : Type 0} (i : N) (s : S) (a b : Option (List ℕ)) (p q : List ℕ) (f g : Count) (n k : ℕ) → a ≡ b → p ≡ q → f ≡ g → n ≡ k → shown i s a p f n ≡ shown i s b q g k
shown-so i s a b p q f g n k e h j l = grind arith

-- ---- the replies to all lines

module _ {N S : Type 0} (talk : Talk S) (Reaches : ℕ → N → S → Type 0) where
  -- the replies to some lines were said
  pub record Said (before : ℕ) (s : Shown N S) (lines : List (List ℕ)) (s' : Shown N S) : Type 0 where
    pub reply : Reply S
    pub replies : RepliesTo talk.Gets before s.state lines reply
    pub state : s'.state ≡ reply.after
    pub put : Puts s.held s.pending reply.text s'.held s'.pending
    pub flushed : s.pending ≡ [] → s'.pending ≡ []
    pub faults : s'.faults ≡ s.faults
    pub steps : s'.steps ≡ s.steps + reply.steps
    pub reaches : Reaches (before + length lines) s'.kept s'.state

  said-none : (n : ℕ) (s : Shown N S) → Reaches n s.kept s.state → Said n s [] s
  unfolding RepliesTo
  said-none n s reaches = record {
    reply = says s.state [];
    replies = refl;
    state = refl;
    put = puts-none s.held s.pending;
    flushed = λ e. e;
    faults = refl;
    steps = sym (add-zero s.steps);
    reaches = let P : ℕ → Type 0 = λ i. Reaches i s.kept s.state in subst P (sym (add-zero n)) reaches;
  }

  said-more : (n : ℕ) (s mid s' : Shown N S) (t : List ℕ) (ts : List (List ℕ)) (first : HearsText talk Reaches s (n + 1) t (Ok More) mid) → Said (n + 1) mid ts s' → Said n s (t ∷ ts) s'
  unfolding RepliesTo
  said-more n s mid s' t ts first more =
      let r = first.0 in
      let w : Says s r mid = first.2 in
      let two = let P : S → Type 0 = λ x. RepliesTo talk.Gets (n + 1) x ts more.reply in subst P w.state more.replies in
      let e : n + 1 + length ts ≡ n + length (t ∷ ts) = omega arith in
      record {
        reply = followed r more.reply;
        replies = (r, first.1, (more.reply, two, refl));
        state = more.state;
        put = puts-then w.put more.put;
        flushed = λ e. more.flushed first.4;
        faults = more.faults ∙ w.faults;
        steps = omega (arith, more.steps, w.steps);
        reaches = let P : ℕ → Type 0 = λ i. Reaches i s'.kept s'.state in subst P e more.reaches;
      }

  -- the lines from which a talk goes on get their replies, one after another
  pub goes-said : (s s' : Shown N S) (n : ℕ) (texts : List (List ℕ)) → HearsAll {F = AnswerFault} (HearsLine talk Reaches) s n texts s' → Reaches n s.kept s.state → Said n s texts s'
  unfolding HearsAll
  goes-said s s' n [] g reaches = subst (Said n s []) (sym g) (said-none n s reaches)
  goes-said s s' n (t ∷ ts) g reaches =
      let first = g.1 n refl reaches in
      said-more n s g.0 s' t ts first (goes-said g.0 s' (n + 1) ts g.2 first.3)
