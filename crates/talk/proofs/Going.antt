-- A talk that is opened and listens goes over its lines.
use Rattle.std.proofs.Common.{◌≡◌, ℕ, ◌+◌, ◌-◌, ◌≤◌, List, [], ◌∷◌, ◌++◌, length, Result, Ok, Err, refl, sym, ap, subst, ◌∙◌, arith, append-nil, append_assoc, inl, inr}
use Rattle.std.specs.declared.option.Option.{Option}
use Rattle.std.specs.Io.KnownBytes.{Appends}
use Rattle.std.proofs.KnownBytes.{Appends-trans}
use Rattle.evac_law.specs.declared.code.Code.{Code}
use Rattle.evac_law.specs.declared.code.Code.TheVariants as codes
use Rattle.line_io.specs.Causes.{Count, Rose}
use Rattle.line_io.specs.Hearing.{IsCaused, Listens}
use Rattle.line_io.specs.Line.{Line, text_lines}
use Rattle.line_io.specs.Passes.{IsLeft, Passes}
use Rattle.line_io.specs.Reader.{lines_left}
use Rattle.line_io.specs.View.{Reader}
use Rattle.line_io.specs.declared.hearing.Ending.{Ending}
use Rattle.line_io.specs.declared.hearing.Ending.TheVariants.{Finished, Failed, InputEnded, Fault}
use Rattle.line_io.specs.declared.lines.LineFault.TheVariants.{ReadFault, LineTooLong, InputTooLong}
use Rattle.line_io.specs.declared.out.WriteFault.{WriteFault}
use Rattle.talk.specs.declared.fault.AnswerFault.{AnswerFault}
use Rattle.talk.specs.declared.fault.AnswerFault.TheVariants.{Write, Memory}
use Rattle.line_io.proofs.LineLemmas.{text_lines-push}
use Rattle.line_io.proofs.PassLemmas.{passes-none}
use Rattle.certificate_text.specs.BlockText.{refusal_line}
use Rattle.talk.specs.Held.{ConcludesTalk, HoldsTalk, RefusesBy, SendsBy, around, status_after}
use Rattle.talk.specs.Speaking.{HearsLine, SaysFront, Shown, shown}
use Rattle.talk.specs.Talks.{RepliesTo, Reply, Spoken, Talk, TalkAnswers, TalkFront, TalkGoes, TalkGoesOn, TalkRun, followed, over_with, says}
use Rattle.talk.proofs.Answering.{Said, goes-said}
use Rattle.talk.proofs.Holding.{all_lines_so, at_0, at_1, at_3, at_4, at_5, front_over, held_as, of_lines, over_behind, some_lines, went_over}
use Rattle.talk.proofs.TalkLemmas.{followed_assoc, replies_join, replies_one}

-- a talk went over the lines that a listener went on from
pub record Went {N S : Type 0} (talk : Talk S) (Reaches : ℕ → N → S → Type 0) (before : ℕ) (lines : List (List ℕ)) (held : Option (List ℕ)) (faults : Count) (k : ℕ) (at : Shown N S) : Type 0 where
  pub replies : Reply S
  pub goes : TalkGoes talk before lines replies
  pub state : replies.after ≡ at.state
  pub written : Appends held at.held replies.text
  pub flushed : at.pending ≡ []
  pub faults_same : at.faults ≡ faults
  pub counted : at.steps ≡ k + replies.steps
  pub reaches : Reaches (before + length lines) at.kept at.state

no-last : (texts last : List (List ℕ)) → last ≡ [] → texts ++ last ≡ texts
no-last texts last is = ap (λ (l : List (List ℕ)). texts ++ l) is ∙ append-nil texts

number_of : (a c : Reader) (l n : Option (List ℕ)) (texts last : List (List ℕ)) → Passes a c l n (texts ++ last) → last ≡ [] → c.number ≡ a.number + length texts
number_of a c l n texts last passes none = passes.number ∙ ap (λ (x : List (List ℕ)). a.number + length x) (no-last texts last none)

-- one more line is answered
one-more : {S : Type 0} (talk : Talk S) (before : ℕ) (lines : List (List ℕ)) (line : List ℕ) (s : S) (r more : Reply S) → TalkGoes talk before lines r → r.after ≡ s
    → talk.Gets (before + length lines + 1) s line more → TalkGoes talk before (lines ++ (line ∷ [])) (followed r (followed more (says more.after [])))
one-more {S} talk before lines line s r more g is h =
    let last = replies_one talk.Gets (before + length lines) s line more h in
    let inner : g.more.after ≡ s = sym (ap (λ (x : Reply S). x.after) g.all) ∙ is in
    let from = let P : S → Type 0 = λ x. RepliesTo talk.Gets (before + length lines) x (line ∷ []) (followed more (says more.after [])) in subst P (sym inner) last in
    let all = replies_join talk.Gets before g.opening.after lines (line ∷ []) g.more (followed more (says more.after [])) g.replies from in record {
      opening = g.opening;
      more = followed g.more (followed more (says more.after []));
      opens = g.opens;
      replies = all;
      all = ap (λ (x : Reply S). followed x (followed more (says more.after []))) g.all ∙ followed_assoc g.opening g.more (followed more (says more.after []));
    }

-- a line that has a fault ends the talk
refused_run : {S : Type 0} (talk : Talk S) (code : Code) (a c : Reader) (l n : Option (List ℕ)) (texts last : List (List ℕ)) (rest : List Line) (r : Reply S) → TalkGoes talk a.number texts r
    → Passes a c l n (texts ++ last) → last ≡ [] → rest ≡ Err code ∷ []
    → (lines : List Line) → lines ≡ text_lines (texts ++ last) ++ rest → TalkRun talk a.number lines (record { status = 1; text = r.text ++ refusal_line code (c.number + 1); steps = r.steps })
refused_run talk code a c l n texts last rest r goes passes none is lines e = record {
  answered = texts;
  rest = Err code ∷ [];
  replies = r;
  parts = e ∙ ap (λ (x : List (List ℕ)). text_lines x ++ rest) (no-last texts last none) ∙ ap (λ (x : List Line). text_lines texts ++ x) is;
  goes = goes;
  ends = ap (λ (i : ℕ). let x : Spoken = record { status = 1; text = r.text ++ refusal_line code (i + 1); steps = r.steps } in x) (number_of a c l n texts last passes none);
}

module _ {N S : Type 0} (talk : Talk S) (Reaches : ℕ → N → S → Type 0) (i : N) (o : Reply S) (opens : talk.Opens o) where
  abbrev hears_line : Shown N S → ℕ → List ℕ → Result Rattle.line_io.specs.declared.hearing.Heard.Heard AnswerFault → Shown N S → Type 0
  hears_line = HearsLine talk Reaches

  -- an opening with no line after it
  goes_none : (before : ℕ) → TalkGoes talk before [] (followed o (says o.after []))
  unfolding RepliesTo
  goes_none before = record { opening = o; more = says o.after []; opens = opens; replies = refl; all = refl }

  -- the sink failed at the opening
  pub held_unopened : (fault : WriteFault) (k j : ℕ) (r : Reader) (left : Option (List ℕ)) (reads : Count) (held held' : Option (List ℕ)) (pending pending' : List ℕ) (writes writes' : Count)
      → j ≡ k + o.steps → pending ≡ [] → SendsBy {T = Unit {0}} (Err fault) o.text held pending writes held' pending' writes'
      → HoldsTalk talk 4 (around r left reads held writes k) (around r left reads held' writes' j)
  held_unopened fault k j r left reads held held' pending pending' writes writes' counted none sends =
      let x = front_over held held' pending pending' o.text sends.put.err none in
      let text : o.text ++ [] ≡ x.front ++ x.rest = append-nil o.text ∙ x.parts in
      let did : Spoken = record { status = 4; text = x.front; steps = o.steps } in
      at_4 talk (around r left reads held writes k) (around r left reads held' writes' j) did []
      (record { passes = passes-none r left; written = x.over; counted = counted })
      refl refl sends.cause.failed (all_lines_so (lines_left r left) (λ lines. TalkFront talk r.number lines did) (λ lines. inr (
        4,
        x.rest,
        record { answered = []; rest = lines; parts = refl; goes = record { replies = followed o (says o.after []); goes = goes_none r.number; text_said = sym text; counted = omega arith } },
      )))

  went : (before : ℕ) (lines : List (List ℕ)) (k : ℕ) (held held' : Option (List ℕ)) (faults : Count) (at : Shown N S) → Appends held held' o.text
      → Said talk Reaches before (shown i o.after held' [] faults (k + o.steps)) lines at → Went talk Reaches before lines held faults k at
  went before lines k held held' faults at block w =
      let flushed = w.flushed refl in record {
        replies = followed o w.reply;
        goes = record { opening = o; more = w.reply; opens = opens; replies = w.replies; all = refl };
        state = sym w.state;
        written = Appends-trans held held' at.held o.text w.reply.text block (went_over held' at.held [] at.pending w.reply.text w.put refl flushed);
        flushed = flushed;
        faults_same = w.faults;
        counted = omega (arith, w.steps);
        reaches = w.reaches;
      }

  module _ (held : Option (List ℕ)) (faults : Count) (k : ℕ) (from to : Shown N S) (a c : Reader) (l n : Option (List ℕ)) (reads reads' : Count) where
    -- the input ended
    held_ended : (h : Listens {F = AnswerFault} hears_line InputEnded from to a c l n) → Went talk Reaches a.number h.texts held faults k h.at → reads' ≡ reads
        → HoldsTalk talk 0 (around a l reads held faults k) (around c n reads' to.held to.faults to.steps)
    held_ended h w same =
        let is : h.at ≡ to = sym h.ends.2 in
        let did : Spoken = over_with 0 w.replies in
        let none = no-last h.texts h.last h.ends.0 in
        at_0 talk (around a l reads held faults k) (around c n reads' to.held to.faults to.steps) did (h.texts ++ h.last)
        (record { passes = h.passes; written = subst (λ (x : Shown N S). Appends held x.held w.replies.text) is w.written; counted = sym (ap (λ (x : Shown N S). x.steps) is) ∙ w.counted })
        refl same (sym (ap (λ (x : Shown N S). x.faults) is) ∙ w.faults_same)
        (of_lines (h.texts ++ h.last) (lines_left a l) (lines_left c n) h.rest (λ lines. TalkAnswers talk a.number lines did) h.passes.follows h.is_left
        (λ lines e. inl (record { answered = h.texts; rest = []; replies = w.replies; parts = e ∙ ap (λ (x : List (List ℕ)). text_lines x ++ h.rest) none ∙ ap (λ (x : List Line). text_lines h.texts ++ x) h.ends.1; goes = w.goes; ends = refl })))
        (inl h.rests)

    -- a line quit
    held_quit : (h : Listens {F = AnswerFault} hears_line Finished from to a c l n) → Went talk Reaches a.number h.texts held faults k h.at → reads' ≡ reads
        → HoldsTalk talk 0 (around a l reads held faults k) (around c n reads' to.held to.faults to.steps)
    held_quit h w same =
        let line = h.ends.0 in
        let quits = h.ends.2 (a.number + length h.texts) refl w.reaches in
        let is : h.at ≡ to = sym quits.1 in
        let did : Spoken = over_with 0 w.replies in
        let last = ap (λ (x : List (List ℕ)). h.texts ++ x) h.ends.1 in
        at_0 talk (around a l reads held faults k) (around c n reads' to.held to.faults to.steps) did (h.texts ++ h.last)
        (record { passes = h.passes; written = subst (λ (x : Shown N S). Appends held x.held w.replies.text) is w.written; counted = sym (ap (λ (x : Shown N S). x.steps) is) ∙ w.counted })
        refl same (sym (ap (λ (x : Shown N S). x.faults) is) ∙ w.faults_same)
        (of_lines (h.texts ++ h.last) (lines_left a l) (lines_left c n) h.rest (λ lines. TalkAnswers talk a.number lines did) h.passes.follows h.is_left
        (λ lines e. inl (record {
          answered = h.texts;
          rest = Ok line ∷ h.rest;
          replies = w.replies;
          parts = e ∙ ap (λ (x : List (List ℕ)). text_lines x ++ h.rest) last ∙ ap (λ (x : List Line). x ++ h.rest) (text_lines-push h.texts line) ∙ append_assoc (text_lines h.texts) (Ok line ∷ []) h.rest;
          goes = w.goes;
          ends = (quits.0, refl);
        })))
        (inr (h.texts, line, last, quits.0))

    -- the source failed
    held_read : (h : Listens {F = AnswerFault} hears_line (Fault ReadFault) from to a c l n) → Went talk Reaches a.number h.texts held faults k h.at → Rose reads reads'
        → HoldsTalk talk 3 (around a l reads held faults k) (around c n reads' to.held to.faults to.steps)
    held_read h w rose =
        let is : h.at ≡ to = sym h.ends.1 in
        let did : Spoken = over_with 3 w.replies in
        let none = no-last h.texts h.last h.ends.0 in
        at_3 talk (around a l reads held faults k) (around c n reads' to.held to.faults to.steps) did (h.texts ++ h.last)
        (record { passes = h.passes; written = subst (λ (x : Shown N S). Appends held x.held w.replies.text) is w.written; counted = sym (ap (λ (x : Shown N S). x.steps) is) ∙ w.counted })
        refl rose (sym (ap (λ (x : Shown N S). x.faults) is) ∙ w.faults_same)
        (subst (λ (x : List (List ℕ)). TalkGoesOn talk a.number x did) (sym none) (record { replies = w.replies; goes = w.goes; text_said = refl; counted = refl }))
        h.rests

    -- the sink failed at a reply
    held_unsaid : (fault : WriteFault) (h : Listens {F = AnswerFault} hears_line (Failed (Write fault)) from to a c l n) → Went talk Reaches a.number h.texts held faults k h.at → reads' ≡ reads
        → HoldsTalk talk 4 (around a l reads held faults k) (around c n reads' to.held to.faults to.steps)
    held_unsaid fault h w same =
        let line = h.ends.0 in
        let heard = h.ends.2 (a.number + length h.texts) refl w.reaches in
        let r = heard.0 in
        let front : SaysFront h.at r to = heard.2 in
        let x = over_behind held h.at.held to.held w.replies.text r.text w.written (front_over h.at.held to.held h.at.pending to.pending r.text front.put w.flushed) in
        let last = ap (λ (z : List (List ℕ)). h.texts ++ z) h.ends.1 in
        let goes = one-more talk a.number h.texts line h.at.state w.replies r w.goes w.state heard.1 in
        let whole = followed w.replies (followed r (says r.after [])) in
        let did : Spoken = record { status = 4; text = x.front; steps = w.replies.steps + r.steps } in
        let text : whole.text ≡ x.front ++ x.rest = ap (λ (z : List ℕ). w.replies.text ++ z) (append-nil r.text) ∙ x.parts in
        at_4 talk (around a l reads held faults k) (around c n reads' to.held to.faults to.steps) did (h.texts ++ h.last)
        (record { passes = h.passes; written = x.over; counted = omega (arith, front.steps, w.counted) })
        refl same (subst (λ (z : Count). Rose z to.faults) w.faults_same front.rose)
        (some_lines (h.texts ++ h.last) (lines_left a l) (lines_left c n) (λ lines. TalkFront talk a.number lines did) h.passes.follows
        (λ lines rest e. inr (
          4,
          x.rest,
          record {
            answered = h.texts ++ (line ∷ []);
            rest = rest;
            parts = e ∙ ap (λ (z : List (List ℕ)). text_lines z ++ rest) last;
            goes = record { replies = whole; goes = goes; text_said = sym text; counted = omega arith };
          },
        )))

    -- a line wanted memory that wasn't there
    held_wanting : (h : Listens {F = AnswerFault} hears_line (Failed Memory) from to a c l n) → Went talk Reaches a.number h.texts held faults k h.at → reads' ≡ reads
        → HoldsTalk talk 5 (around a l reads held faults k) (around c n reads' to.held to.faults to.steps)
    held_wanting h w same =
        let line = h.ends.0 in
        let heard = h.ends.2 (a.number + length h.texts) refl w.reaches in
        let quiet = heard.1 in
        let spent : w.replies.steps ≤ to.steps - k = omega (arith, quiet.steps, w.counted) in
        let last = ap (λ (z : List (List ℕ)). h.texts ++ z) h.ends.1 in
        let did : Spoken = record { status = 5; text = w.replies.text; steps = to.steps - k } in
        at_5 talk (around a l reads held faults k) (around c n reads' to.held to.faults to.steps) did (h.texts ++ h.last)
        (record { passes = h.passes; written = subst (λ (z : Option (List ℕ)). Appends held z w.replies.text) (sym quiet.held) w.written; counted = omega (arith, quiet.steps, w.counted) })
        refl same (quiet.faults ∙ w.faults_same)
        (inr (record {
          answered = h.texts;
          line = line;
          parts = last;
          replies = w.replies;
          goes = w.goes;
          text_said = refl;
          counted = spent;
          wants = subst (λ (z : S). talk.Wants (a.number + length h.texts + 1) z line) (sym w.state) heard.0;
        }))

  -- a line had a fault, and its refusal was sent
  held_fault : (sent : Result (Unit {0}) WriteFault) (held : Option (List ℕ)) (faults : Count) (k : ℕ) (code : Code) (at : Shown N S) (a c : Reader) (l n : Option (List ℕ)) (reads reads' : Count)
      (texts last : List (List ℕ)) (rest : List Line) (held' : Option (List ℕ)) (pending' : List ℕ) (faults' : Count) → Went talk Reaches a.number texts held faults k at → reads' ≡ reads
      → Passes a c l n (texts ++ last) → IsLeft (lines_left a l) (lines_left c n) rest → last ≡ [] → rest ≡ Err code ∷ []
      → SendsBy sent (refusal_line code (c.number + 1)) at.held at.pending at.faults held' pending' faults'
      → HoldsTalk talk (status_after sent 1) (around a l reads held faults k) (around c n reads' held' faults' at.steps)
  held_fault (Ok done) held faults k code at a c l n reads reads' texts last rest held' pending' faults' w same passes is_left none is sends =
      let line = refusal_line code (c.number + 1) in
      let did : Spoken = record { status = 1; text = w.replies.text ++ line; steps = w.replies.steps } in
      at_1 talk (around a l reads held faults k) (around c n reads' held' faults' at.steps) did (texts ++ last)
      (record { passes = passes; written = Appends-trans held at.held held' w.replies.text line w.written (went_over at.held held' at.pending pending' line sends.put.ok w.flushed sends.flushed); counted = w.counted })
      refl same (sends.cause.same ∙ w.faults_same)
      (of_lines (texts ++ last) (lines_left a l) (lines_left c n) rest (λ lines. TalkAnswers talk a.number lines did) passes.follows is_left
      (λ lines e. inl (refused_run talk code a c l n texts last rest w.replies w.goes passes none is lines e)))
  held_fault (Err fault) held faults k code at a c l n reads reads' texts last rest held' pending' faults' w same passes is_left none is sends =
      let line = refusal_line code (c.number + 1) in
      let x = over_behind held at.held held' w.replies.text line w.written (front_over at.held held' at.pending pending' line sends.put.err w.flushed) in
      let did : Spoken = record { status = 4; text = x.front; steps = w.replies.steps } in
      at_4 talk (around a l reads held faults k) (around c n reads' held' faults' at.steps) did (texts ++ last)
      (record { passes = passes; written = x.over; counted = w.counted })
      refl same (subst (λ (z : Count). Rose z faults') w.faults_same sends.cause.failed)
      (of_lines (texts ++ last) (lines_left a l) (lines_left c n) rest (λ lines. TalkFront talk a.number lines did) passes.follows is_left
      (λ lines e. let P : List ℕ → Type 0 = λ t. TalkRun talk a.number lines (record { status = 1; text = t; steps = w.replies.steps }) in
      inl (1, x.rest, inl (subst P x.parts (refused_run talk code a c l n texts last rest w.replies w.goes passes none is lines e)))))

  held_line : (code : Code) (status : ℕ) (held held'' : Option (List ℕ)) (faults faults'' : Count) (pending'' : List ℕ) (k : ℕ) (at to : Shown N S) (a c : Reader) (l n : Option (List ℕ))
      (reads reads' : Count) (texts last : List (List ℕ)) (rest : List Line) → Went talk Reaches a.number texts held faults k at → reads' ≡ reads → Passes a c l n (texts ++ last)
      → IsLeft (lines_left a l) (lines_left c n) rest → last ≡ [] → rest ≡ Err code ∷ [] → to ≡ at
      → RefusesBy (refusal_line code (c.number + 1)) status to.held to.pending to.faults held'' pending'' faults''
      → HoldsTalk talk status (around a l reads held faults k) (around c n reads' held'' faults'' to.steps)
  held_line code status held held'' faults faults'' pending'' k at to a c l n reads reads' texts last rest w same passes is_left none is there refuses =
      let here = subst (Went talk Reaches a.number texts held faults k) (sym there) w in
      held_as talk status (status_after refuses.sent 1) (around a l reads held faults k) (around c n reads' held'' faults'' to.steps) refuses.over
      (held_fault refuses.sent held faults k code to a c l n reads reads' texts last rest held'' pending'' faults'' here same passes is_left none is refuses.sends)

  -- the same with what the sink holds then, by equal words
  so : (status known : ℕ) (held held'' : Option (List ℕ)) (faults faults'' : Count) (k : ℕ) (to : Shown N S) (a c : Reader) (l n : Option (List ℕ)) (reads reads' : Count) → status ≡ known
      → held'' ≡ to.held → faults'' ≡ to.faults → HoldsTalk talk known (around a l reads held faults k) (around c n reads' to.held to.faults to.steps)
      → HoldsTalk talk status (around a l reads held faults k) (around c n reads' held'' faults'' to.steps)
  so status known held held'' faults faults'' k to a c l n reads reads' is same quiet h =
      let P : Option (List ℕ) → Type 0 = λ x. HoldsTalk talk known (around a l reads held faults k) (around c n reads' x to.faults to.steps) in
      let Q : Count → Type 0 = λ x. HoldsTalk talk known (around a l reads held faults k) (around c n reads' held'' x to.steps) in
      held_as talk status known (around a l reads held faults k) (around c n reads' held'' faults'' to.steps) is (subst Q (sym quiet) (subst P (sym same) h))

  -- the state from which it went on is where it showed itself last, but where the sink failed
  went_of : (ending : Ending AnswerFault) (k : ℕ) (held held' : Option (List ℕ)) (faults : Count) (to : Shown N S) (a c : Reader) (l n : Option (List ℕ))
      (h : Listens hears_line ending (shown i o.after held' [] faults (k + o.steps)) to a c l n) → Reaches a.number i o.after → Appends held held' o.text
      → Went talk Reaches a.number h.texts held faults k h.at
  went_of ending k held held' faults to a c l n h reaches block =
      went a.number h.texts k held held' faults h.at block (goes-said talk Reaches (shown i o.after held' [] faults (k + o.steps)) h.at a.number h.texts h.goes reaches)

  held_by : (ending : Ending AnswerFault) (status k : ℕ) (held held' held'' : Option (List ℕ)) (faults faults'' : Count) (pending'' : List ℕ)
      (to : Shown N S) (a c : Reader) (l n : Option (List ℕ)) (reads reads' : Count) → Reaches a.number i o.after → Appends held held' o.text
      → Listens hears_line ending (shown i o.after held' [] faults (k + o.steps)) to a c l n → IsCaused ending reads reads'
      → ConcludesTalk ending c.number status to.held to.pending to.faults held'' pending'' faults''
      → HoldsTalk talk status (around a l reads held faults k) (around c n reads' held'' faults'' to.steps)
  held_by Finished status k held held' held'' faults faults'' pending'' to a c l n reads reads' reaches block h cause ends =
      so status 0 held held'' faults faults'' k to a c l n reads reads' ends.0 ends.1 ends.2
      (held_quit held faults k (shown i o.after held' [] faults (k + o.steps)) to a c l n reads reads' h (went_of Finished k held held' faults to a c l n h reaches block) cause)
  held_by InputEnded status k held held' held'' faults faults'' pending'' to a c l n reads reads' reaches block h cause ends =
      so status 0 held held'' faults faults'' k to a c l n reads reads' ends.0 ends.1 ends.2
      (held_ended held faults k (shown i o.after held' [] faults (k + o.steps)) to a c l n reads reads' h (went_of InputEnded k held held' faults to a c l n h reaches block) cause)
  held_by (Failed (Write fault)) status k held held' held'' faults faults'' pending'' to a c l n reads reads' reaches block h cause ends =
      so status 4 held held'' faults faults'' k to a c l n reads reads' ends.0 ends.1 ends.2
      (held_unsaid held faults k (shown i o.after held' [] faults (k + o.steps)) to a c l n reads reads' fault h (went_of (Failed (Write fault)) k held held' faults to a c l n h reaches block) cause)
  held_by (Failed Memory) status k held held' held'' faults faults'' pending'' to a c l n reads reads' reaches block h cause ends =
      so status 5 held held'' faults faults'' k to a c l n reads reads' ends.0 ends.1 ends.2
      (held_wanting held faults k (shown i o.after held' [] faults (k + o.steps)) to a c l n reads reads' h (went_of (Failed Memory) k held held' faults to a c l n h reaches block) cause)
  held_by (Fault ReadFault) status k held held' held'' faults faults'' pending'' to a c l n reads reads' reaches block h cause ends =
      so status 3 held held'' faults faults'' k to a c l n reads reads' ends.0 ends.1 ends.2
      (held_read held faults k (shown i o.after held' [] faults (k + o.steps)) to a c l n reads reads' h (went_of (Fault ReadFault) k held held' faults to a c l n h reaches block) cause)
  held_by (Fault LineTooLong) status k held held' held'' faults faults'' pending'' to a c l n reads reads' reaches block h cause ends =
      let w = went_of (Fault LineTooLong) k held held' faults to a c l n h reaches block in
      held_line codes.LineTooLong status held held'' faults faults'' pending'' k h.at to a c l n reads reads' h.texts h.last h.rest w cause h.passes h.is_left h.ends.0 h.ends.1 h.ends.2 ends
  held_by (Fault InputTooLong) status k held held' held'' faults faults'' pending'' to a c l n reads reads' reaches block h cause ends =
      let w = went_of (Fault InputTooLong) k held held' faults to a c l n h reaches block in
      held_line codes.InputTooLong status held held'' faults faults'' pending'' k h.at to a c l n reads reads' h.texts h.last h.rest w cause h.passes h.is_left h.ends.0 h.ends.1 h.ends.2 ends

  -- the same from the opening on
  pub held_all : (ending : Ending AnswerFault) (status number k j : ℕ) (held held' held'' : Option (List ℕ)) (pending pending' pending'' : List ℕ)
      (faults faults' faults'' : Count) (to : Shown N S) (a c : Reader) (l n : Option (List ℕ)) (reads reads' : Count) (done : Unit {0}) → Reaches a.number i o.after → j ≡ k + o.steps → pending ≡ []
      → SendsBy {T = Unit {0}} (Ok done) o.text held pending faults held' pending' faults' → Listens hears_line ending (shown i o.after held' pending' faults' j) to a c l n
      → IsCaused ending reads reads' → number ≡ c.number → ConcludesTalk ending number status to.held to.pending to.faults held'' pending'' faults''
      → HoldsTalk talk status (around a l reads held faults k) (around c n reads' held'' faults'' to.steps)
  held_all ending status number k j held held' held'' pending pending' pending'' faults faults' faults'' to a c l n reads reads' done reaches counted none sends h cause at ends =
      let block = went_over held held' pending pending' o.text sends.put.ok none sends.flushed in
      let P : List ℕ → Type 0 = λ x. Listens hears_line ending (shown i o.after held' x faults' j) to a c l n in
      let Q : Count → Type 0 = λ x. Listens hears_line ending (shown i o.after held' [] x j) to a c l n in
      let R : ℕ → Type 0 = λ x. Listens hears_line ending (shown i o.after held' [] faults x) to a c l n in
      let listened = subst R counted (subst Q sends.cause.same (subst P sends.flushed h)) in
      let over = subst (λ (x : ℕ). ConcludesTalk ending x status to.held to.pending to.faults held'' pending'' faults'') at ends in
      held_by ending status k held held' held'' faults faults'' pending'' to a c l n reads reads' reaches block listened cause over
