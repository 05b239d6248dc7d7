-- What calls of a source over std add up to.
use Rattle.std.proofs.Common.{ℕ, ◌+◌, ◌≤◌, Bool, false, List, [], ◌∷◌, Result, Ok, Err, ap, arith}
use Rattle.line_io.specs.Calls.{AsksAtMost, Take, TakesAll, bytes_given, gave_none, given_by}
use Rattle.line_io.specs.Memory.{AdapterTakes}
use Rattle.line_io.specs.View.{Adapter}
use Rattle.line_io.specs.declared.outside.Failed.{Failed}

one_call : {T : Type 0} (s s' : Adapter T) (room : ℕ) (answer : Result ℕ Failed) → AdapterTakes s room answer s' → s'.bytes ≤ s.bytes + given_by answer
one_call s s' room (Ok n) h = omega (arith, h.2)
one_call s s' room (Err fault) h = omega (arith, h.1)

all_calls : {T : Type 0} (calls : List Take) (ended ended' : Bool) (s s' : Adapter T) → TakesAll AdapterTakes ended s calls ended' s'
    → s'.bytes ≤ s.bytes + bytes_given calls
unfolding TakesAll bytes_given
all_calls [] ended ended' s s' h = omega (arith, ap (λ x. x.bytes) h.1)
all_calls (call ∷ calls) ended ended' s s' h =
    let mid = h.2.0 in
    omega (
      arith,
      one_call s mid call.room call.answer h.2.1,
      all_calls calls (gave_none call.answer) ended' mid s' h.2.2,
    )

pub bytes_are_counted : {T : Type 0} (s s' : Adapter T) (limit : ℕ) → AsksAtMost AdapterTakes limit s s' → s'.bytes ≤ s.bytes + limit
bytes_are_counted s s' limit h = omega (arith, all_calls h.calls false h.ended s s' h.all, h.few)
