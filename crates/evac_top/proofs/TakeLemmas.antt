-- What a fresh reader took, by the lines that went by.
use Rattle.std.proofs.Common.{◌≡◌, ℕ, ◌+◌, ◌≤◌, true, false, true≢false, List, [], ◌∷◌, ◌++◌, length, Result, Ok, Err, OnOk, refl, sym, ap, subst, ◌∙◌, arith, inl, inr, ◌⊎◌}
use Rattle.std.specs.declared.option.Option.{Option}
use Rattle.std.specs.Io.KnownBytes.{IsAtEnd}
use Rattle.line_io.specs.Calls.{Asks, AsksAtMost, Taking}
use Rattle.line_io.specs.Causes.{Count, Rose}
use Rattle.line_io.specs.Sides.{RoseIf}
use Rattle.line_io.specs.Line.{IsWhole, input_limit, Line, lines_after, lines_of, pieces, text_lines, whole_part}
use Rattle.line_io.specs.Passes.{Passes}
use Rattle.line_io.specs.Reader.{Drained, HasRoom, is_settled}
use Rattle.line_io.specs.declared.limits.TheConstants.{BUFFER_SIZE}
use Rattle.line_io.specs.View.{Reader}
use Rattle.line_io.proofs.CallLemmas.{asked-most, asks-then}
use Rattle.line_io.proofs.LineLemmas.{unsettled-open, whole_part-unsettled}
use Rattle.line_io.proofs.PassLemmas.{passes-few}
use Rattle.building_table.specs.declared.building.Building.{Building}
use Rattle.building_table.specs.declared.faults.ModelFault.{ModelFault}
use Rattle.building_table.specs.declared.faults.ModelFault.TheVariants.{ReadFault}
use Rattle.evac_top.specs.Reads.{IsFresh, Takes}
use Rattle.talk.specs.Held.{IsReadOut}

length-text_lines : (texts : List (List ℕ)) → length (text_lines texts) ≡ length texts
length-text_lines [] = refl
length-text_lines (t ∷ ts) = omega (arith, length-text_lines ts)

-- ---- a read that failed

abbrev pub Failed : {T : Type 0} → Result T ModelFault → Type 0
Failed result = result ≡ Err ReadFault

pub not-failed : {T : Type 0} (value : T) → Failed (Ok value) → ⊥
not-failed value e = cc

pub read-fault : {T : Type 0} (fault : ModelFault) → Failed {T = T} (Err fault) → fault ≡ ReadFault
read-fault fault e = cc

-- the result of a read fails just by its fault
pub rises-at : {T : Type 0} (fault : ModelFault) {n k : Count} → RoseIf (Failed {T = T} (Err fault)) n k → RoseIf (fault ≡ ReadFault) n k
rises-at {T} fault h = record { rose = λ e. h.rose (ap Err e); same = λ other. h.same (λ e. other (read-fault {T = T} fault e)) }

-- a fault is handed on
pub rises-on : {T U : Type 0} (fault : ModelFault) {n k : Count} → RoseIf (Failed {T = T} (Err fault)) n k → RoseIf (Failed {T = U} (Err fault)) n k
rises-on {T} {U} fault h = record {
  rose = λ e. h.rose (ap Err (read-fault {T = U} fault e));
  same = λ other. h.same (λ e. other (ap Err (read-fault {T = T} fault e)));
}

-- after a model that was read without a fault
pub rises-then : {T : Type 0} (building : Building) (result : Result T ModelFault) {n0 n1 n2 : Count} → RoseIf (Failed {T = Building} (Ok building)) n0 n1
    → RoseIf (Failed result) n1 n2 → RoseIf (Failed result) n0 n2
rises-then building result {n0} {n1} {n2} first second = record {
  rose = λ e. subst (λ (n : Count). Rose n n2) (first.same (not-failed building)) (second.rose e);
  same = λ other. second.same other ∙ first.same (not-failed building);
}

-- ---- the lines of the bytes taken

whole-there : (r : Reader) (gone : List ℕ) → IsWhole gone ⊎ IsReadOut r → is_settled r ≡ false → IsWhole gone
whole-there r gone (inl whole) u = whole
whole-there r gone (inr over) u = absurd (true≢false (sym over.0 ∙ (unsettled-open r u).0))

-- up to their last LF they are the lines that went by
pub whole-lines : (r0 r1 : Reader) (l0 l1 : Option (List ℕ)) (texts : List (List ℕ)) → IsFresh r0 → (p : Passes r0 r1 l0 l1 texts)
    → is_settled r1 ≡ false → lines_of (whole_part p.taken) ≡ text_lines texts
whole-lines r0 r1 l0 l1 texts fresh p u =
    let bytes : p.taken ≡ p.gone ++ r1.pending = ap (λ r. r.pending ++ p.taken) (sym fresh) ∙ p.tied in
    ap (λ b. lines_of (whole_part b)) bytes ∙ ap lines_of (whole_part-unsettled p.gone r1 (whole-there r1 p.gone p.whole u) u)
    ∙ ap (λ r. lines_after r.given (pieces p.gone)) (sym fresh) ∙ p.said

-- so many lines went by
pub lines-count : (r0 r1 : Reader) (l0 l1 : Option (List ℕ)) (texts : List (List ℕ)) → IsFresh r0 → Passes r0 r1 l0 l1 texts → r1.number ≡ length (text_lines texts)
lines-count r0 r1 l0 l1 texts fresh p =
    p.number ∙ ap (λ r. r.number + length texts) fresh ∙ (let e : 0 + length texts ≡ length texts = omega arith in e) ∙ sym (length-text_lines texts)

-- a fresh reader has room
fresh-room : (r : Reader) → IsFresh r → HasRoom r
unfolding input_limit
fresh-room r fresh = subst HasRoom (sym fresh) (record { pending = omega arith; given = omega arith })

pub few-taken : (r0 r1 : Reader) (l0 l1 : Option (List ℕ)) (texts : List (List ℕ)) → IsFresh r0 → (p : Passes r0 r1 l0 l1 texts)
    → length p.taken ≤ input_limit + BUFFER_SIZE
few-taken r0 r1 l0 l1 texts fresh p = omega (arith, passes-few r0 r1 l0 l1 texts p (fresh-room r0 fresh))

-- a fresh reader took what it took by some lines
pub takes : {T : Type 0} (IsOpen : List Line → Type 0) (result : Result T ModelFault) (r0 r1 : Reader) (l0 l1 : Option (List ℕ)) (texts : List (List ℕ)) → IsFresh r0
    → Passes r0 r1 l0 l1 texts → OnOk result (IsAtEnd l1) → (result ≡ Err ReadFault → (is_settled r1 ≡ false) × IsOpen (text_lines texts)) → Takes IsOpen result l0 l1
takes IsOpen result r0 r1 l0 l1 texts fresh p all is_open = record {
  taken = p.taken;
  consumed = p.consumed;
  few = few-taken r0 r1 l0 l1 texts fresh p;
  all = all;
  open_lines = λ e. (let (u, o) = is_open e in subst IsOpen (sym (whole-lines r0 r1 l0 l1 texts fresh p u)) o);
}

-- the same of a value that was read
pub takes-value : {T : Type 0} (IsOpen : List Line → Type 0) (value : T) (r0 r1 : Reader) (l0 l1 : Option (List ℕ)) (texts : List (List ℕ)) → IsFresh r0
    → Passes r0 r1 l0 l1 texts → IsAtEnd l1 → Takes {T = T} IsOpen (Ok value) l0 l1
takes-value IsOpen value r0 r1 l0 l1 texts fresh p all = takes IsOpen (Ok value) r0 r1 l0 l1 texts fresh p all (λ e. absurd (not-failed value e))

-- a fresh reader's source isn't known to have ended
pub fresh-drained : (r : Reader) (left : Option (List ℕ)) → IsFresh r → Drained r left
fresh-drained r left fresh = λ e. absurd (true≢false (sym e ∙ ap (λ (x : Reader). x.ended) fresh))

-- ---- the bytes that a source gave, also where it doesn't tell them

pub asked-fresh : {S : Type 0} {takes : Taking S} {r0 r1 : Reader} {s s' : S} → IsFresh r0 → Asks takes r0 s r1 s' → (HasRoom r0 → HasRoom r1)
    → AsksAtMost takes (input_limit + BUFFER_SIZE) s s'
asked-fresh {S} {takes} {r0} fresh asks room =
    asked-most asks (ap (λ (r : Reader). r.ended) fresh) (ap (λ (r : Reader). r.given) fresh) (ap (λ (r : Reader). r.pending) fresh) (room (fresh-room r0 fresh))

-- the same in two parts
pub asked-then : {S : Type 0} {takes : Taking S} {r0 r1 r2 : Reader} {s mid s' : S} → IsFresh r0 → Asks takes r0 s r1 mid → (HasRoom r0 → HasRoom r1)
    → Asks takes r1 mid r2 s' → (HasRoom r1 → HasRoom r2) → AsksAtMost takes (input_limit + BUFFER_SIZE) s s'
asked-then fresh first room more still = asked-fresh fresh (asks-then first more) (λ h. still (room h))
