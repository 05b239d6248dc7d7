-- Calls of a source or a sink, one after another.
use Rattle.std.proofs.Common.{◌≡◌, ℕ, ◌+◌, ◌≤◌, Bool, false, List, [], ◌∷◌, ◌++◌, length, Result, refl, subst, arith}
use Rattle.line_io.specs.declared.limits.TheConstants.{BUFFER_SIZE, LEAST_OFFER}
use Rattle.line_io.specs.declared.outside.Failed.{Failed}
use Rattle.line_io.specs.Calls.{Asks, AsksAtMost, Offers, Putting, PutsAll, Take, Taking, TakesAll, behind_put, bytes_given, gave_none, given_by}
use Rattle.line_io.specs.Line.{input_limit}
use Rattle.line_io.specs.Reader.{HasRoom}
use Rattle.line_io.specs.View.{Reader}

pub asks-none : {S : Type 0} (takes : Taking S) (r : Reader) (s : S) → Asks takes r s r s
unfolding TakesAll bytes_given
asks-none takes r s = record { calls = []; all = (refl, refl); counted = omega arith }

-- one call, of a source that hadn't ended
pub asks-one : {S : Type 0} (takes : Taking S) (s s' : S) (a b : Reader) (answer : Result ℕ Failed) → a.ended ≡ false → (room : ℕ) × (LEAST_OFFER ≤ room) × takes s room answer s'
    → b.ended ≡ gave_none answer → b.given ≡ a.given → length b.pending ≡ length a.pending + given_by answer → Asks takes a s b s'
unfolding TakesAll bytes_given
asks-one takes s s' a b answer off did is given grown = record {
  calls = record { room = did.0; answer = answer } ∷ [];
  all = (off, did.1, (s', did.2, (is, refl)));
  counted = omega arith;
}

takes-append : {S : Type 0} (takes : Taking S) (x y z : Bool) (s mid s' : S) (calls more : List Take) → TakesAll takes x s calls y mid → TakesAll takes y mid more z s'
    → TakesAll takes x s (calls ++ more) z s'
unfolding TakesAll
takes-append takes x y z s mid s' [] more h k = subst (λ (b : Bool). TakesAll takes b s more z s') h.0 (subst (λ (t : _). TakesAll takes y t more z s') h.1 k)
takes-append takes x y z s mid s' (call ∷ calls) more h k =
    (h.0, h.1, (h.2.0, h.2.1, takes-append takes (gave_none call.answer) y z h.2.0 mid s' calls more h.2.2 k))

bytes_given-append : (calls more : List Take) → bytes_given (calls ++ more) ≡ bytes_given calls + bytes_given more
unfolding bytes_given
bytes_given-append [] more = omega arith
bytes_given-append (call ∷ calls) more = omega (arith, bytes_given-append calls more)

-- some calls, and then others
pub asks-then : {S : Type 0} {takes : Taking S} {a b c : Reader} {s mid s' : S} → Asks takes a s b mid → Asks takes b mid c s' → Asks takes a s c s'
asks-then {S} {takes} {a} {b} {c} {s} {mid} {s'} h k = record {
  calls = h.calls ++ k.calls;
  all = takes-append takes a.ended b.ended c.ended s mid s' h.calls k.calls h.all k.all;
  counted = omega (arith, bytes_given-append h.calls k.calls, h.counted, k.counted);
}

-- the same calls, where as many bytes are given on or pending as before
pub asks-same : {S : Type 0} {takes : Taking S} {a b c : Reader} {s s' : S} → Asks takes a s b s' → c.ended ≡ b.ended → c.given + length c.pending ≡ b.given + length b.pending → Asks takes a s c s'
asks-same {S} {takes} {a} {b} {c} {s} {s'} h same count = grind arith

-- calls that began at a fresh reader gave no more than an input may have, and a buffer
pub asked-most : {S : Type 0} {takes : Taking S} {a b : Reader} {s s' : S} → Asks takes a s b s' → a.ended ≡ false → a.given ≡ 0 → a.pending ≡ [] → HasRoom b
    → AsksAtMost takes (input_limit + BUFFER_SIZE) s s'
asked-most {S} {takes} {a} {b} {s} {s'} h going given empty room = grind arith

pub asked-none : {S : Type 0} (takes : Taking S) (limit : ℕ) (s : S) → AsksAtMost takes limit s s
unfolding TakesAll bytes_given
asked-none takes limit s = record { calls = []; ended = false; all = (refl, refl); few = omega arith }

pub offers-none : {S : Type 0} (puts : Putting S) (bytes : List ℕ) (s : S) → Offers puts bytes s bytes s
unfolding PutsAll
offers-none puts bytes s = record { answers = []; all = (refl, refl) }

puts-push : {S : Type 0} (puts : Putting S) (bytes rest : List ℕ) (s mid s' : S) (answers : List (Result ℕ Failed)) (answer : Result ℕ Failed) → PutsAll puts bytes s answers rest mid
    → puts mid rest answer s' → PutsAll puts bytes s (answers ++ (answer ∷ [])) (behind_put rest answer) s'
unfolding PutsAll
puts-push puts bytes rest s mid s' [] answer h did = grind arith
puts-push puts bytes rest s mid s' (first ∷ answers) answer h did = (h.0, h.1, puts-push puts (behind_put bytes first) rest h.0 mid s' answers answer h.2 did)

-- one call more
pub offers-push : {S : Type 0} (puts : Putting S) (bytes rest : List ℕ) (s mid s' : S) (answer : Result ℕ Failed) → Offers puts bytes s rest mid → puts mid rest answer s'
    → Offers puts bytes s (behind_put rest answer) s'
offers-push puts bytes rest s mid s' answer h did = record { answers = h.answers ++ (answer ∷ []); all = puts-push puts bytes rest s mid s' h.answers answer h.all did }
