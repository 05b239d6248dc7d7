-- The lines of settled bytes are those of the first piece and of what follows it.
use Rattle.std.proofs.Common.{◌<◌, ◌≤◌, ◌+◌, [], refl, ap, ◌∙◌, arith, length, take}
use Rattle.std.proofs.lemmas.List.{length-take-le}
use Rattle.line_io.specs.Line.{content, input_limit, line_limit}
use Rattle.line_io.proofs.Pieces.{first_size-le, content-size}
use Rattle.line_io.proofs.ReaderLemmas.{Front, front-end, front-long, front-far, front-found, answer-at}
use Rattle.line_io.proofs.GivenLemmas.{first-IsGiven}
use Rattle.line_io.proofs.lines.Lines.give.Goals as goal

pub returns-then-size-eq0-clause-line : goal.returns-then-size-eq0-clause-line
returns-then-size-eq0-clause-line c = λ rest last. ((front-end c.args.self.now c.args.size rest c.requires.size c.requires.settled last c.if-size-eq0.true).1, refl)

pub returns-then-size-eq0-clause-end : goal.returns-then-size-eq0-clause-end
returns-then-size-eq0-clause-end c = λ _. (front-end c.args.self.now c.args.size [] c.requires.size c.requires.settled (λ _. refl) c.if-size-eq0.true).0

pub returns-then-size-eq0-clause-answer : goal.returns-then-size-eq0-clause-answer
returns-then-size-eq0-clause-answer c =
    answer-at c.args.self.now _ (front-end c.args.self.now c.args.size [] c.requires.size c.requires.settled (λ _. refl) c.if-size-eq0.true).1

pub slice_bounds-content_size-end : goal.slice_bounds-content_size-end
slice_bounds-content_size-end c = grind (arith, length-take-le, first_size-le)

pub returns-then-kept-gt-LINE_LIMIT-clause-line : goal.returns-then-kept-gt-LINE_LIMIT-clause-line
unfolding line_limit
returns-then-kept-gt-LINE_LIMIT-clause-line c = λ rest last.
    let f : Front c.args.self.now c.args.size c.content_size-kept.result =
    record { whole = c.requires.size; text = c.content_size-kept.ensures ∙ ap (λ b. length (content (take c.args.size b))) c.pending.ensures.bytes } in
    (front-long c.args.self.now _ _ rest f c.requires.settled last (omega arith) c.if-kept-gt-LINE_LIMIT.true, refl)

pub returns-then-kept-gt-LINE_LIMIT-clause-answer : goal.returns-then-kept-gt-LINE_LIMIT-clause-answer
unfolding line_limit
returns-then-kept-gt-LINE_LIMIT-clause-answer c =
    let f : Front c.args.self.now c.args.size c.content_size-kept.result =
    record { whole = c.requires.size; text = c.content_size-kept.ensures ∙ ap (λ b. length (content (take c.args.size b))) c.pending.ensures.bytes } in
    answer-at c.args.self.now _ (front-long c.args.self.now _ _ [] f c.requires.settled (λ _. refl) (omega arith) c.if-kept-gt-LINE_LIMIT.true)

pub overflow_cast-size : goal.overflow_cast-size
overflow_cast-size c = omega (arith, first_size-le c.args.self.now.pending, c.requires.size, ap length c.pending.ensures.bytes, c.pending.ensures.few)

pub overflow_sub-self-inside : goal.overflow_sub-self-inside
unfolding input_limit
overflow_sub-self-inside c = c.self.invariant.limited

pub returns-then-size-self-clause-line : goal.returns-then-size-self-clause-line
unfolding line_limit input_limit
returns-then-size-self-clause-line c = λ rest last.
    let given = ap (λ r. r.given) c.self.view_is in
    let f : Front c.args.self.now c.args.size c.content_size-kept.result =
    record { whole = c.requires.size; text = c.content_size-kept.ensures ∙ ap (λ b. length (content (take c.args.size b))) c.pending.ensures.bytes } in
    (front-far c.args.self.now _ _ rest f c.requires.settled last (omega arith) (omega arith) (omega arith), refl)

pub returns-then-size-self-clause-answer : goal.returns-then-size-self-clause-answer
unfolding line_limit input_limit
returns-then-size-self-clause-answer c =
    let given = ap (λ r. r.given) c.self.view_is in
    let f : Front c.args.self.now c.args.size c.content_size-kept.result =
    record { whole = c.requires.size; text = c.content_size-kept.ensures ∙ ap (λ b. length (content (take c.args.size b))) c.pending.ensures.bytes } in
    answer-at c.args.self.now _ (front-far c.args.self.now _ _ [] f c.requires.settled (λ _. refl) (omega arith) (omega arith) (omega arith))

pub keep-requires-clause-pending : goal.keep-requires-clause-pending
keep-requires-clause-pending c = omega (arith, first_size-le c.args.self.now.pending, c.requires.size)

pub keep-requires-clause-kept : goal.keep-requires-clause-kept
unfolding line_limit
keep-requires-clause-kept c = grind (arith, first_size-le, content-size, length-take-le)

pub keep-requires-clause-limit : goal.keep-requires-clause-limit
unfolding input_limit
keep-requires-clause-limit c = let given = ap (λ r. r.given) c.self.view_is in let limited = c.self.invariant.limited in omega arith

pub returns : goal.returns
unfolding input_limit line_limit
returns c =
    let r = c.args.self.now in
    let size = c.args.size in
    let f : Front r size c.content_size-kept.result =
    record { whole = c.requires.size; text = c.content_size-kept.ensures ∙ ap (λ b. length (content (take size b))) c.pending.ensures.bytes } in
    let given = ap (λ r. r.given) c.self.view_is in
    let limited = c.self.invariant.limited in
    let near : r.given + size ≤ input_limit = omega arith in
    let some : 0 < size = omega arith in
    record {
      line = λ rest last. front-found r c.keep.new.self size _ rest f c.requires.settled last some c.if-kept-gt-LINE_LIMIT.false near c.keep.ensures;
      ended = ap (λ a. a.ended) c.keep.ensures;
      found = λ _. (ap (λ a. a.number) c.keep.ensures, first-IsGiven r c.keep.new.self size _ f c.requires.settled some c.if-kept-gt-LINE_LIMIT.false near c.keep.ensures);
      gone = λ _. (ap (λ a. a.given) c.keep.ensures, ap (λ a. a.pending) c.keep.ensures);
      small = λ _. near;
      stays = λ h. absurd (h refl);
      answer = answer-at r _ (front-found r c.keep.new.self size _ [] f c.requires.settled (λ _. refl) some c.if-kept-gt-LINE_LIMIT.false near c.keep.ensures);
      end = λ h. cc;
      no_read = λ h. cc;
    }
