-- A refill moves the pending bytes to the front and takes more after them.
use Rattle.std.proofs.KnownBytes.{Consumes-kept, Consumes-nil}
use Rattle.std.proofs.Common.{◌≡◌, [], append-nil, Ok, ◌+◌, ◌-◌, ◌++◌, ◌∙◌, refl, ap, sym, arith, length, take, drop}
use Rattle.std.specs.Vec.{with_items}
use Rattle.std.proofs.lemmas.List.{with_items_is, length-drop, length-take}
use Rattle.line_io.specs.Line.{line_limit}
use Rattle.line_io.proofs.CallLemmas.{asks-one}
use Rattle.line_io.proofs.LineLemmas.{unsettled-open, unsettled-few}
use Rattle.line_io.proofs.ReaderLemmas.{keeps-taken, part-length, refilled}
use Rattle.line_io.proofs.lines.Lines.refill.Goals as goal

pub refill-requires : goal.refill-requires
unfolding line_limit
refill-requires g c = grind (arith, unsettled-few, length-take, length-drop)

pub returns-clause-bytes : goal.returns-clause-bytes
returns-clause-bytes g c =
    let b = c.self.inside in
    let e = b.end - b.start in
    let n = c.in_ok-count.count in
    let now = c.refill.new.buffer in
    let there : (with_items b.buffer now).items ≡ now = with_items_is b.buffer now (omega (arith, c.as_mut_slice.ensures.len, c.refill.auto.buffer)) in
    let pending : take (e + n - 0) (with_items b.buffer now).items ≡ take e (drop b.start b.buffer.items) ++ take n (drop e now) =
    ap (take (e + n - 0)) there ∙ refilled _ now b.start e n (c.refill.ensures.front ∙ ap (λ l. take e (drop b.start l)) c.as_mut_slice.ensures.value) in
    let on = ap (λ r. r.ended) c.self.view_is ∙ (unsettled-open c.args.self.now c.requires).0 in
    rw (← c.self.view_is, on) (keeps-taken _ _ (take n (drop e now)) _ _ n pending c.in_ok-count.ensures.bytes.0 c.in_ok-count.ensures.end)

pub returns-clause-taken : goal.returns-clause-taken
returns-clause-taken g c = grind (arith, with_items_is, refilled)

pub returns-in_err-count-clause-asks : goal.returns-in_err-count-clause-asks
returns-in_err-count-clause-asks g c =
    let b = c.self.inside in
    let e = b.end - b.start in
    let off = (unsettled-open c.args.self.now c.requires).0 in
    let now = c.refill.new.buffer in
    let there = with_items_is b.buffer now (omega (arith, c.as_mut_slice.ensures.len, c.refill.auto.buffer)) in
    let room = ap length there ∙ c.refill.auto.buffer ∙ ap length c.as_mut_slice.ensures.value ∙ c.self.invariant.room in
    let was = sym (ap (λ r. length r.pending) c.self.view_is) ∙ part-length b.buffer.items b.start b.end (omega (arith, c.self.invariant.room, c.self.invariant.in_buffer)) in
    let left = part-length (with_items b.buffer now).items 0 e (omega (arith, room, c.self.invariant.in_buffer)) in
    asks-one g.S.Source.takes c.args.source.now c.refill.new.source c.args.self.now _ _ off c.in_err-count.ensures.offered (ap (λ r. r.ended) c.self.view_is ∙ off)
    (ap (λ r. r.given) c.self.view_is) (omega (arith, left, was))

pub returns-clause-asks : goal.returns-clause-asks
returns-clause-asks g c =
    let b = c.self.inside in
    let e = b.end - b.start in
    let n = c.in_ok-count.count in
    let off = (unsettled-open c.args.self.now c.requires).0 in
    let now = c.refill.new.buffer in
    let there = with_items_is b.buffer now (omega (arith, c.as_mut_slice.ensures.len, c.refill.auto.buffer)) in
    let was = sym (ap (λ r. length r.pending) c.self.view_is) ∙ part-length b.buffer.items b.start b.end (omega (arith, c.self.invariant.room, c.self.invariant.in_buffer)) in
    let left = part-length (with_items b.buffer now).items 0 (e + n) (omega (arith, ap length there, c.in_ok-count.ensures.bound)) in
    let given = ap (λ r. r.given) c.self.view_is in
    let grown : length (take (e + n - 0) (with_items b.buffer now).items) ≡ length c.args.self.now.pending + n = omega (arith, left, was) in
    asks-one g.S.Source.takes c.args.source.now c.refill.new.source c.args.self.now _ (Ok n) off c.in_ok-count.ensures.offered refl given grown

pub returns-in_err-count-clause-bounds : goal.returns-in_err-count-clause-bounds
returns-in_err-count-clause-bounds g c =
    let b = c.self.inside in
    let now = c.refill.new.buffer in
    let there = with_items_is b.buffer now (omega (arith, c.as_mut_slice.ensures.len, c.refill.auto.buffer)) in
    let room = ap length there ∙ c.refill.auto.buffer ∙ ap length c.as_mut_slice.ensures.value ∙ c.self.invariant.room in
    omega (arith, length-take (b.end - b.start - 0) (with_items b.buffer now).items, room)

pub returns-clause-bounds : goal.returns-clause-bounds
returns-clause-bounds g c =
    let b = c.self.inside in
    let now = c.refill.new.buffer in
    let there = with_items_is b.buffer now (omega (arith, c.as_mut_slice.ensures.len, c.refill.auto.buffer)) in
    let room = ap length there ∙ c.refill.auto.buffer ∙ ap length c.as_mut_slice.ensures.value ∙ c.self.invariant.room in
    omega (arith, length-take (b.end - b.start + c.in_ok-count.count - 0) (with_items b.buffer now).items, room)

pub returns-in_err-count-clause-taken : goal.returns-in_err-count-clause-taken
returns-in_err-count-clause-taken g c =
    let b = c.self.inside in
    let e = b.end - b.start in
    let now = c.refill.new.buffer in
    let there = with_items_is b.buffer now (omega (arith, c.as_mut_slice.ensures.len, c.refill.auto.buffer)) in
    let front : e - 0 ≡ e = omega arith in
    let kept = ap (λ k. take k (with_items b.buffer now).items) front ∙ ap (take e) there ∙ c.refill.ensures.front ∙ ap (λ l. take e (drop b.start l)) c.as_mut_slice.ensures.value ∙ ap (λ r. r.pending) c.self.view_is in
    record { taken = []; consumed = Consumes-kept _ _ _ [] (Consumes-nil _) c.in_err-count.ensures.bytes; behind = kept ∙ sym (append-nil _) }
