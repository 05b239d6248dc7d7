-- What a reader gives from settled bytes, and what a refill keeps.
use Rattle.std.proofs.Common.{◌≡◌, ℕ, zero, suc, ◌+◌, ◌-◌, ◌<◌, ◌≤◌, true, if◌then◌else◌, ◌==◌, List, [], ◌∷◌, ◌++◌, length, take, drop, Some, None, refl, sym, ap, ◌∙◌, arith, Ok, Err, append-nil, append_assoc}
use Rattle.std.specs.declared.option.Option.{Option}
use Rattle.std.specs.Io.KnownBytes.{Keeps, Consumes, IsAtEnd, prepend_known}
use Rattle.std.proofs.lemmas.Bool.{ne_eqb}
use Rattle.std.proofs.lemmas.List.{drop-take, drop-drop, take_rest, take-append-drop, length-drop, length-take-le}
use Rattle.std.proofs.Math.Seq.{take-append_seam, take-add}
use Rattle.line_io.specs.Line.{Line, pieces, content, line_of, lines_after, then_lines, line_limit, input_limit}
use Rattle.line_io.specs.Scan.{first_size, Refills}
use Rattle.line_io.specs.View.{Reader}
use Rattle.std.specs.declared.result.Result.{Result}
use Rattle.line_io.specs.declared.lines.Found.{Found}
use Rattle.line_io.specs.declared.lines.LineFault.{LineFault}
use Rattle.std.proofs.KnownBytes.{Consumes-nil, Consumes-trans}
use Rattle.evac_law.specs.declared.code.Code.TheVariants as codes
use Rattle.line_io.specs.declared.lines.Found.TheVariants.{Text, End}
use Rattle.line_io.specs.Reader.{is_settled, Gone, GivesAway, IsGiven, answer_at, settled_answer}
use Rattle.line_io.proofs.Pieces.{settled-line, settled-end, first_size-zero, first_size-le, take-first, line-long, line-far, line-good}

-- what follows the pending bytes: nothing, once the source has ended
abbrev pub Follows : Reader → List ℕ → Type 0
Follows r rest = r.ended ≡ true → rest ≡ []

abbrev pub lines_with : Reader → List ℕ → List Line
lines_with r rest = lines_after r.given (pieces (r.pending ++ rest))

-- the size of the first pending line, and of what it says
pub record Front (r : Reader) (size kept : ℕ) : Type 0 where
  pub whole : size ≡ first_size r.pending
  pub text : kept ≡ length (content (take size r.pending))

pub front-end : (r : Reader) (size : ℕ) (rest : List ℕ) → size ≡ first_size r.pending → is_settled r ≡ true → Follows r rest → size ≡ 0 → (r.ended ≡ true) × (lines_with r rest ≡ [])
front-end r size rest whole settled last none = settled-end r.given r.ended r.pending rest settled last (first_size-zero r.pending (sym whole ∙ none))

-- the lines, by the first one, where what it is is known
front-line : (r : Reader) (size kept : ℕ) (rest : List ℕ) (line : Line) → Front r size kept → is_settled r ≡ true → Follows r rest → 0 < size → line_of (r.given + size) (take size r.pending) ≡ line
    → lines_with r rest ≡ then_lines line (lines_after (r.given + size) (pieces (drop size r.pending ++ rest)))
front-line r size kept rest line f settled last some is =
    let all = settled-line r.given r.ended r.pending rest settled last (omega (arith, f.whole, first_size-le r.pending)) in
    (rw (← f.whole) at all) ∙ ap (λ l. then_lines l (lines_after (r.given + size) (pieces (drop size r.pending ++ rest)))) is

pub front-long : (r : Reader) (size kept : ℕ) (rest : List ℕ) → Front r size kept → is_settled r ≡ true → Follows r rest → 0 < size → line_limit < kept → lines_with r rest ≡ Err codes.LineTooLong ∷ []
front-long r size kept rest f settled last some long = front-line r size kept rest _ f settled last some (line-long (r.given + size) (take size r.pending) (omega (arith, f.text)))

pub front-far : (r : Reader) (size kept : ℕ) (rest : List ℕ) → Front r size kept → is_settled r ≡ true → Follows r rest → 0 < size → kept ≤ line_limit → input_limit < r.given + size → lines_with r rest ≡ Err codes.InputTooLong ∷ []
front-far r size kept rest f settled last some short far = front-line r size kept rest _ f settled last some (line-far (r.given + size) (take size r.pending) (omega (arith, f.text)) far)

-- the reader after its first pending line
abbrev pub after_first : Reader → ℕ → ℕ → Reader
after_first r size kept = record { pending = drop size r.pending; ended = r.ended; given = r.given + size; number = r.number + 1; text = take kept r.pending }

pub front-found : (r after : Reader) (size kept : ℕ) (rest : List ℕ) → Front r size kept → is_settled r ≡ true → Follows r rest → 0 < size → kept ≤ line_limit → r.given + size ≤ input_limit
    → after ≡ after_first r size kept → lines_with r rest ≡ Ok after.text ∷ lines_with after rest
front-found r after size kept rest f settled last some short near is =
    let good = line-good (r.given + size) (take size r.pending) (omega (arith, f.text)) near in
    let said : content (take size r.pending) ≡ take kept r.pending = rw (f.text, f.whole) (take-first r.pending) in
    rw is (front-line r size kept rest _ f settled last some (good ∙ ap (λ t. Ok t) said))

-- the answer at the lines to come, where nothing follows the pending bytes
pub answer-at : (r : Reader) (lines : List Line) → lines_with r [] ≡ lines → answer_at lines ≡ settled_answer r
answer-at r lines e = ap answer_at (sym e) ∙ ap (λ p. answer_at (lines_after r.given (pieces p))) (append-nil r.pending)

-- what is pending after the first n bytes
pub pending-drops : (xs : List ℕ) (start end n : ℕ) → n ≤ end - start → take (end - (start + n)) (drop (start + n) xs) ≡ drop n (take (end - start) (drop start xs))
pending-drops xs start end n h =
    let m = end - (start + n) in
    let split : end - start ≡ n + m = omega arith in
    ap (take m) (sym (drop-drop n start xs)) ∙ sym (drop-take n m (drop start xs)) ∙ ap (λ k. drop n (take k (drop start xs))) (sym split)

-- a part of a buffer has as many bytes as lie between its places
pub part-length : (xs : List ℕ) (start end : ℕ) → end ≤ length xs → length (take (end - start) (drop start xs)) ≡ end - start
part-length xs start end h = length-take-le (end - start) (drop start xs) (omega (arith, length-drop start xs))

pub take_at-front : (xs ys : List ℕ) (n : ℕ) → length xs ≡ n → take n (xs ++ ys) ≡ xs
take_at-front xs ys n e = ap (λ m. take m (xs ++ ys)) (sym e) ∙ take-append_seam xs ys

-- ---- a refill

-- the pending bytes moved to the front, and those that were taken after them
pub refilled : (bytes now : List ℕ) (start count n : ℕ) → take count now ≡ take count (drop start bytes) → take (count + n - 0) now ≡ take count (drop start bytes) ++ take n (drop count now)
refilled bytes now start count n kept = ap (λ m. take m now) (let z : count + n - 0 ≡ count + n = omega arith in z) ∙ take-add count n now ∙ ap (λ l. l ++ take n (drop count now)) kept

keeps-end : (p q got : List ℕ) (a b : Option (List ℕ)) → q ≡ p ++ got → Consumes a b got → IsAtEnd b → Keeps (prepend_known p a) (Some q)
keeps-end p q got None b e took at_end = tt
keeps-end p q got (Some x) None e took at_end = absurd took
keeps-end p q got (Some x) (Some y) e took at_end = e ∙ ap (λ l. p ++ l) (sym (took ∙ ap (λ l. got ++ l) at_end ∙ append-nil got))

keeps-more : (p q got : List ℕ) (a b : Option (List ℕ)) → q ≡ p ++ got → Consumes a b got → Keeps (prepend_known p a) (prepend_known q b)
keeps-more p q got None b e took = tt
keeps-more p q got (Some x) None e took = absurd took
keeps-more p q got (Some x) (Some y) e took = ap (λ l. l ++ y) e ∙ append_assoc p got y ∙ ap (λ l. p ++ l) (sym took)

-- a source that gave no byte has ended
pub keeps-taken : (p q got : List ℕ) (a b : Option (List ℕ)) (n : ℕ) → q ≡ p ++ got → Consumes a b got → (n ≡ 0 → IsAtEnd b) → Keeps (prepend_known p a) (if n == 0 then Some q else prepend_known q b)
keeps-taken p q got a b zero e took at_end = keeps-end p q got a b e took (at_end refl)
keeps-taken p q got a b (suc n) e took at_end = rw (ne_eqb (suc n) 0 (omega arith)) (keeps-more p q got a b e took)

-- what two sends took, one after the other
pub sent-more : (xs : List ℕ) (s n : ℕ) → take s xs ++ take n (take (length xs - s) (drop s xs)) ≡ take (s + n) xs
sent-more xs s n = ap (λ l. take s xs ++ take n l) (take_rest xs s) ∙ sym (take-add s n xs)

-- a source in memory gives what stands in front
pub given-front : (xs into got : List ℕ) (at n : ℕ) → got ≡ take n (drop at xs) → length got ≡ n → drop at xs ≡ take n (got ++ drop n into) ++ drop (at + n) xs
given-front xs into got at n e size =
    sym (take-append-drop n (drop at xs)) ∙ ap (λ l. l ++ drop n (drop at xs)) (sym e ∙ sym (take_at-front got (drop n into) n size)) ∙ ap (λ l. take n (got ++ drop n into) ++ l) (drop-drop n at xs)

-- ---- taken bytes

pub refills-none : (r : Reader) (a : Option (List ℕ)) → Refills r r a a
refills-none r a = record { taken = []; consumed = Consumes-nil a; behind = sym (append-nil r.pending) }

pub refills-more : (r s t : Reader) (a b c : Option (List ℕ)) → Refills r s a b → Refills s t b c → Refills r t a c
refills-more r s t a b c f g = record {
  taken = f.taken ++ g.taken;
  consumed = Consumes-trans a b c f.taken g.taken f.consumed g.consumed;
  behind = g.behind ∙ ap (λ l. l ++ g.taken) f.behind ∙ append_assoc r.pending f.taken g.taken;
}

-- no line was found, and no byte went away
pub gives-none : (result : Result Found LineFault) (r s t : Reader) (a b : Option (List ℕ)) → Refills r s a b → s.given ≡ r.given → t ≡ s → Gone result t [] → GivesAway result r t a b
gives-none result r s t a b f given same none = record {
  taken = f.taken;
  gone = [];
  consumed = f.consumed;
  tied = sym f.behind ∙ ap (λ x. x.pending) (sym same);
  counted = ap (λ x. x.given) same ∙ given ∙ (let z : r.given ≡ r.given + 0 = omega arith in z);
  line = none;
}

-- the first pending line went away where it was found
pub gives-first : (result : Result Found LineFault) (r s t : Reader) (a b : Option (List ℕ)) (size : ℕ) → Refills r s a b → s.given ≡ r.given → size ≡ first_size s.pending
    → (result ≡ Ok Text → IsGiven t (take size s.pending)) → (result ≡ Ok Text → (t.given ≡ s.given + size) × (t.pending ≡ drop size s.pending))
    → ((result ≡ Ok Text → ⊥) → t ≡ s) → GivesAway result r t a b
gives-first (Ok Text) r s t a b size f given is found gone stays = record {
  taken = f.taken;
  gone = take size s.pending;
  consumed = f.consumed;
  tied = sym f.behind ∙ sym (take-append-drop size s.pending) ∙ ap (λ l. take size s.pending ++ l) (sym (gone refl).1);
  counted = (gone refl).0 ∙ (let z : s.given + size ≡ r.given + length (take size s.pending) = omega (arith, length-take-le size s.pending (omega (arith, first_size-le s.pending))) in z);
  line = found refl;
}
gives-first (Ok End) r s t a b size f given is found gone stays = gives-none (Ok End) r s t a b f given (stays (λ e. cc)) refl
gives-first (Err e) r s t a b size f given is found gone stays = gives-none (Err e) r s t a b f given (stays (λ e. cc)) refl

-- a line that went away is counted, and nothing else goes away
pub counts-first : (result : Result Found LineFault) (s t : Reader) (size : ℕ) → size ≡ first_size s.pending → (result ≡ Ok Text → (t.given ≡ s.given + size) × (t.pending ≡ drop size s.pending))
    → ((result ≡ Ok Text → ⊥) → t ≡ s) → t.given + length t.pending ≡ s.given + length s.pending
counts-first (Ok Text) s t size is gone stays =
    omega (arith, (gone refl).0, ap length (gone refl).1, length-drop size s.pending, first_size-le s.pending)
counts-first (Ok End) s t size is gone stays = ap (λ r. r.given + length r.pending) (stays (λ e. cc))
counts-first (Err fault) s t size is gone stays = ap (λ r. r.given + length r.pending) (stays (λ e. cc))
