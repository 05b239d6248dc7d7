-- Where the source failed, no whole line of a model ended the run.
use Rattle.std.proofs.Common.{◌≡◌, ℕ, ◌+◌, false, true, List, [], ◌++◌, length, Result, Ok, Err, None, refl, sym, ap, subst, ◌∙◌, append-nil}
use Rattle.std.specs.declared.option.Option.{Option}
use Rattle.evac_law.specs.declared.code.Code.TheVariants.{MissingEnd}
use Rattle.line_io.specs.Line.{Line, text_lines}
use Rattle.line_io.specs.Reader.{Drained, is_settled}
use Rattle.line_io.specs.View.{Reader}
use Rattle.line_io.proofs.PassLemmas.{passes-then, text_lines-append}
use Rattle.building_table.specs.Passes.{ReadsLines}
use Rattle.building_table.specs.declared.building.Building.{Building}
use Rattle.building_table.specs.declared.faults.ModelFault.{ModelFault}
use Rattle.building_table.specs.declared.faults.ModelFault.TheVariants.{ReadFault}
use Rattle.model_text.specs.Readings.{Described, Refused, AtStart, model_of, opening_of}
use Rattle.model_text.specs.Taken.{Description}
use Rattle.model_text.proofs.ReadingLemmas.{reading-further}
use Rattle.evac_top.specs.Inputs.{IsOpenClaim, IsOpenInput, NoneRefused, ClaimsBehind, input_by, tail_fault, unless_fault}
use Rattle.evac_top.specs.Reads.{IsFresh, PassesTail, Takes}
use Rattle.evac_top.proofs.TakeLemmas.{Failed, fresh-drained, lines-count, read-fault, takes, takes-value}

-- lines that end too early, and have no fault before
abbrev pub IsUndecided : List Line → Type 0
IsUndecided lines = model_of lines ≡ Refused MissingEnd (length lines + 1)

-- ---- in the model

pub model-missing : (r0 r1 : Reader) (l0 l1 : Option (List ℕ)) (result : Result Building ModelFault) → IsFresh r0 → (h : ReadsLines result r0 r1 l0 l1)
    → result ≡ Err ReadFault → IsUndecided (text_lines h.texts)
model-missing r0 r1 l0 l1 result fresh h is =
    ap (λ r. opening_of r.number (text_lines h.texts)) (sym fresh) ∙ h.undecided is ∙ ap (λ n. Refused MissingEnd (n + 1)) (lines-count r0 r1 l0 l1 h.texts fresh h.passes)

pub missing-input : (lines : List Line) → IsUndecided lines → IsOpenInput lines
missing-input lines e = subst (λ r. NoneRefused r (length lines)) (sym (ap input_by e)) refl

pub missing-claim : (lines : List Line) → IsUndecided lines → IsOpenClaim lines
missing-claim lines e = (Err (MissingEnd, length lines + 1), subst (λ r. ClaimsBehind r (Err (MissingEnd, length lines + 1))) (sym e) refl, refl)

-- what was taken of an input whose model isn't read
pub takes-model : {T : Type 0} (IsOpen : List Line → Type 0) → ((lines : List Line) → IsUndecided lines → IsOpen lines) → (fault : ModelFault) (r0 r1 : Reader)
    (l0 l1 : Option (List ℕ)) → IsFresh r0 → ReadsLines (Err fault) r0 r1 l0 l1 → (Failed {T = Building} (Err fault) → is_settled r1 ≡ false)
    → Takes {T = T} IsOpen (Err fault) l0 l1
takes-model {T} IsOpen open_lines fault r0 r1 l0 l1 fresh read unfinished =
    takes {T = T} IsOpen (Err fault) r0 r1 l0 l1 read.texts fresh read.passes tt
    (λ e. (let f : Failed {T = Building} (Err fault) = ap Err (read-fault {T = T} fault e) in
    (unfinished f, open_lines (text_lines read.texts) (model-missing r0 r1 l0 l1 (Err fault) fresh read f))))

-- ---- after the model

-- what lines described they describe with further lines after them
pub opening-further : (before : ℕ) (xs ys : List Line) (d : Description) (last : ℕ) (rest : List Line)
    → opening_of before xs ≡ Described d last rest → opening_of before (xs ++ ys) ≡ Described d last (rest ++ ys)
opening-further before xs ys d last rest h = reading-further AtStart before xs ys d last rest h

pub described-lines : (r0 r1 : Reader) (l0 l1 : Option (List ℕ)) (building : Building) → IsFresh r0 → (h : ReadsLines (Ok building) r0 r1 l0 l1)
    → opening_of 0 (text_lines h.texts) ≡ Described h.described.0 r1.number []
described-lines r0 r1 l0 l1 building fresh h = ap (λ r. opening_of r.number (text_lines h.texts)) (sym fresh) ∙ h.described.1

-- lines that say nothing have no fault
pub tail-none : (result : Result (Unit {0}) ModelFault) (r1 r2 : Reader) (l1 l2 : Option (List ℕ)) (t : PassesTail result r1 r2 l1 l2) → result ≡ Err ReadFault
    → tail_fault r1.number (text_lines t.texts) ≡ None
unfolding tail_fault
tail-none result r1 r2 l1 l2 t is = ap (tail_fault r1.number) (sym (append-nil (text_lines t.texts))) ∙ t.nothing is []

pub open-behind : (r0 r1 r2 : Reader) (l0 l1 l2 : Option (List ℕ)) (building : Building) (result : Result (Unit {0}) ModelFault) → IsFresh r0
    → (h : ReadsLines (Ok building) r0 r1 l0 l1) → (t : PassesTail result r1 r2 l1 l2) → result ≡ Err ReadFault → IsOpenInput (text_lines (h.texts ++ t.texts))
open-behind r0 r1 r2 l0 l1 l2 building result fresh h t is =
    let xs = text_lines h.texts in
    let ys = text_lines t.texts in
    let d = h.described.0 in
    let further = opening-further 0 xs ys d r1.number [] (described-lines r0 r1 l0 l1 building fresh h) in
    let all = ap input_by further ∙ ap (λ f. unless_fault f (record { building = d; last = r1.number })) (tail-none result r1 r2 l1 l2 t is) in
    subst IsOpenInput (sym (text_lines-append h.texts t.texts)) (subst (λ r. NoneRefused r (length (xs ++ ys))) (sym all) tt)

-- what was taken of an input with a model: all, or some lines after it
pub takes-tail : {T : Type 0} (value : T) (r0 r1 r2 : Reader) (l0 l1 l2 : Option (List ℕ)) (building : Building) → IsFresh r0 → ReadsLines (Ok building) r0 r1 l0 l1
    → PassesTail (Ok tt) r1 r2 l1 l2 → (Drained r0 l0 → Drained r1 l1) → (Drained r1 l1 → Drained r2 l2) → r2.ended ≡ true → Takes {T = T} IsOpenInput (Ok value) l0 l2
takes-tail value r0 r1 r2 l0 l1 l2 building fresh h t first second ended =
    takes-value IsOpenInput value r0 r2 l0 l2 (h.texts ++ t.texts) fresh (passes-then r0 r1 r2 l0 l1 l2 h.texts t.texts h.passes t.passes)
    (second (first (fresh-drained r0 l0 fresh)) ended)

pub takes-tail-fault : {T : Type 0} (fault : ModelFault) (r0 r1 r2 : Reader) (l0 l1 l2 : Option (List ℕ)) (building : Building) → IsFresh r0
    → ReadsLines (Ok building) r0 r1 l0 l1 → PassesTail (Err fault) r1 r2 l1 l2 → (Failed {T = Unit {0}} (Err fault) → is_settled r2 ≡ false)
    → Takes {T = T} IsOpenInput (Err fault) l0 l2
takes-tail-fault {T} fault r0 r1 r2 l0 l1 l2 building fresh h t unfinished =
    takes {T = T} IsOpenInput (Err fault) r0 r2 l0 l2 (h.texts ++ t.texts) fresh (passes-then r0 r1 r2 l0 l1 l2 h.texts t.texts h.passes t.passes) tt
    (λ e. (let f : Failed {T = Unit {0}} (Err fault) = ap Err (read-fault {T = T} fault e) in
    (unfinished f, open-behind r0 r1 r2 l0 l1 l2 building (Err fault) fresh h t f)))
