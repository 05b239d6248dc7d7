-- Where the source failed, no whole line of a block ended the run.
use Rattle.std.proofs.Common.{◌≡◌, ℕ, ◌+◌, false, true, List, [], ◌++◌, Result, Ok, Err, refl, sym, ap, subst, ◌∙◌, append_assoc}
use Rattle.std.specs.declared.option.Option.{Option}
use Rattle.evac_law.specs.declared.code.Code.{Code}
use Rattle.evac_law.specs.declared.code.Code.TheVariants.{BadBlock}
use Rattle.evac_law.specs.declared.model.Model.{Model}
use Rattle.line_io.specs.Causes.{Count, Rose}
use Rattle.line_io.specs.Sides.{RoseIf}
use Rattle.line_io.specs.Line.{Line, text_lines}
use Rattle.line_io.specs.Reader.{Drained, is_settled}
use Rattle.line_io.specs.View.{Reader}
use Rattle.line_io.proofs.PassLemmas.{passes-then, text_lines-append}
use Rattle.building_table.specs.Passes.{ReadsLines}
use Rattle.building_table.specs.declared.building.Building.{Building}
use Rattle.building_table.specs.declared.faults.ModelFault.{ModelFault}
use Rattle.building_table.specs.declared.faults.ModelFault.TheVariants.{ReadFault}
use Rattle.model_text.specs.Readings.{Described, opening_of}
use Rattle.model_text.specs.Taken.{Description}
use Rattle.certificate_text.specs.declared.block.Block.{Block}
use Rattle.block_reader.specs.declared.fault.BlockFault.{BlockFault}
use Rattle.block_reader.specs.declared.fault.BlockFault.TheVariants as block_faults
use Rattle.certificate_text.specs.BlockReadings as blocks
use Rattle.certificate_text.specs.BlockReadings.{ReadsAs}
use Rattle.block_reader.specs.BlockReads.{ReadsBlockLines}
use Rattle.evac_top.specs.Inputs.{Claimed, ClaimsBehind, IsClaimOf, IsOpenClaim, unless_fault}
use Rattle.evac_top.specs.Reads.{IsFresh, PassesTail, Takes, block_fault}
use Rattle.evac_top.proofs.OpenLemmas.{described-lines, opening-further, tail-none}
use Rattle.evac_top.proofs.TakeLemmas.{Failed, fresh-drained, lines-count, read-fault, takes, takes-value}

-- ---- in the block

-- the claim of a building's lines with further ones
claim-further : (xs ys : List Line) (d : Description) (n : ℕ) (claim : Result Claimed (Code × ℕ)) → opening_of 0 xs ≡ Described d n [] → ClaimsBehind (Described d n ys) claim → IsClaimOf (xs ++ ys) claim
claim-further xs ys d n claim e h = subst (λ r. ClaimsBehind r claim) (sym (opening-further 0 xs ys d n [] e)) h

pub open-in-block : (r0 r1 r2 : Reader) (l0 l1 l2 : Option (List ℕ)) (building : Building) (fault : BlockFault) → IsFresh r0 → (h : ReadsLines (Ok building) r0 r1 l0 l1)
    → (g : ReadsBlockLines building.model (Err fault) r1 r2 l1 l2) → fault ≡ block_faults.ReadFault → IsOpenClaim (text_lines (h.texts ++ g.texts))
open-in-block r0 r1 r2 l0 l1 l2 building fault fresh h g is =
    let d = h.described.0 in
    let texts = h.texts ++ g.texts in
    let p = passes-then r0 r1 r2 l0 l1 l2 h.texts g.texts h.passes g.passes in
    let claim : Result Claimed (Code × ℕ) = Err (BadBlock, r2.number + 1) in
    let undecided : ReadsAs d.model r1.number (text_lines g.texts) (blocks.Refused BadBlock (r2.number + 1)) =
    subst (λ (m : Model). ReadsAs m r1.number (text_lines g.texts) (blocks.Refused BadBlock (r2.number + 1))) h.described.2.model (g.undecided (ap Err is)) in
    let claimed : IsClaimOf (text_lines texts) claim =
    subst (λ l. IsClaimOf l claim) (sym (text_lines-append h.texts g.texts))
    (claim-further (text_lines h.texts) (text_lines g.texts) d r1.number claim (described-lines r0 r1 l0 l1 building fresh h) (blocks.Refused BadBlock (r2.number + 1), undecided, refl)) in
    (claim, claimed, ap (λ k. k + 1) (lines-count r0 r2 l0 l2 texts fresh p))

-- ---- after the block

-- a block that lines stated stays stated, with the further lines after it
block-further : (m : Model) (before : ℕ) (xs ys : List Line) (block : Block) (last : ℕ) (rest : List Line) → ReadsAs m before xs (blocks.Stated block last rest)
    → ReadsAs m before (xs ++ ys) (blocks.Stated block last (rest ++ ys))
block-further m before xs ys block last rest h = record {
  texts = h.texts;
  behind = h.behind ++ ys;
  parts = ap (λ l. l ++ ys) h.parts ∙ append_assoc (text_lines h.texts) h.behind ys;
  begins = h.begins;
  ends = (h.ends.0, (h.ends.1.0, ap (λ l. l ++ ys) h.ends.1.1, h.ends.1.2));
}

pub open-behind-block : (r0 r1 r2 r3 : Reader) (l0 l1 l2 l3 : Option (List ℕ)) (building : Building) (block : Block) (result : Result (Unit {0}) ModelFault) → IsFresh r0
    → (h : ReadsLines (Ok building) r0 r1 l0 l1) → (g : ReadsBlockLines building.model (Ok block) r1 r2 l1 l2) → (t : PassesTail result r2 r3 l2 l3) → result ≡ Err ReadFault
    → IsOpenClaim (text_lines (h.texts ++ (g.texts ++ t.texts)))
open-behind-block r0 r1 r2 r3 l0 l1 l2 l3 building block result fresh h g t is =
    let d = h.described.0 in
    let ys = text_lines g.texts in
    let zs = text_lines t.texts in
    let behind = g.texts ++ t.texts in
    let claim : Claimed = record { building = d; block = block } in
    let stated : ReadsAs d.model r1.number ys (blocks.Stated block r2.number []) =
    subst (λ (m : Model). ReadsAs m r1.number ys (blocks.Stated block r2.number [])) h.described.2.model g.stated in
    let read : ReadsAs d.model r1.number (text_lines behind) (blocks.Stated block r2.number zs) =
    subst (λ l. ReadsAs d.model r1.number l (blocks.Stated block r2.number zs)) (sym (text_lines-append g.texts t.texts)) (block-further d.model r1.number ys zs block r2.number [] stated) in
    let claimed : IsClaimOf (text_lines (h.texts ++ behind)) (Ok claim) =
    subst (λ l. IsClaimOf l (Ok claim)) (sym (text_lines-append h.texts behind))
    (claim-further (text_lines h.texts) (text_lines behind) d r1.number (Ok claim) (described-lines r0 r1 l0 l1 building fresh h)
    (blocks.Stated block r2.number zs, read, sym (ap (λ f. unless_fault f claim) (tail-none result r2 r3 l2 l3 t is)))) in
    (Ok claim, claimed, tt)

-- ---- what was taken

-- a block isn't read because of a read fault only where there is one
failed-reading : (fault : BlockFault) → block_fault fault ≡ ReadFault → fault ≡ block_faults.ReadFault
failed-reading block_faults.ReadFault e = refl
failed-reading _ e = cc

-- the source failed in a block
abbrev pub BlockFailed : Result Block BlockFault → Type 0
BlockFailed result = result ≡ Err block_faults.ReadFault

-- the fault of an input is that of a block only where the source failed in the block
block-failed : {T : Type 0} (found : ModelFault) (fault : BlockFault) → found ≡ block_fault fault → Failed {T = T} (Err found) → fault ≡ block_faults.ReadFault
block-failed {T} found fault is e = failed-reading fault (sym is ∙ read-fault {T = T} found e)

block-fault : (fault : BlockFault) → BlockFailed (Err fault) → fault ≡ block_faults.ReadFault
block-fault fault e = cc

pub block-not-failed : (block : Block) → BlockFailed (Ok block) → ⊥
block-not-failed block e = cc

pub rises-as-block : {T : Type 0} (found : ModelFault) (fault : BlockFault) {n k : Count} → found ≡ block_fault fault → RoseIf (BlockFailed (Err fault)) n k
    → RoseIf (Failed {T = T} (Err found)) n k
rises-as-block {T} found fault is h = record {
  rose = λ e. h.rose (ap Err (block-failed {T = T} found fault is e));
  same = λ other. h.same (λ e. other (ap Err (is ∙ ap block_fault (block-fault fault e))));
}

-- after a block that was read without a fault
pub rises-after-block : {T : Type 0} (block : Block) (fault : ModelFault) {n0 n1 n2 : Count} → RoseIf (BlockFailed (Ok block)) n0 n1
    → RoseIf (Failed {T = Unit {0}} (Err fault)) n1 n2 → RoseIf (Failed {T = T} (Err fault)) n0 n2
rises-after-block {T} block fault {n0} {n1} {n2} first second = record {
  rose = λ e. subst (λ (n : Count). Rose n n2) (first.same (block-not-failed block)) (second.rose (ap Err (read-fault {T = T} fault e)));
  same = λ other. second.same (λ e. other (ap Err (read-fault {T = Unit {0}} fault e))) ∙ first.same (block-not-failed block);
}

pub takes-block-fault : {T : Type 0} (found : ModelFault) (r0 r1 r2 : Reader) (l0 l1 l2 : Option (List ℕ)) (building : Building) (fault : BlockFault)
    → found ≡ block_fault fault → IsFresh r0 → ReadsLines (Ok building) r0 r1 l0 l1 → ReadsBlockLines building.model (Err fault) r1 r2 l1 l2
    → (BlockFailed (Err fault) → is_settled r2 ≡ false) → Takes {T = T} IsOpenClaim (Err found) l0 l2
takes-block-fault {T} found r0 r1 r2 l0 l1 l2 building fault is fresh h g unfinished =
    takes {T = T} IsOpenClaim (Err found) r0 r2 l0 l2 (h.texts ++ g.texts) fresh (passes-then r0 r1 r2 l0 l1 l2 h.texts g.texts h.passes g.passes) tt
    (λ e. (let f : fault ≡ block_faults.ReadFault = block-failed {T = T} found fault is e in
    (unfinished (ap Err f), open-in-block r0 r1 r2 l0 l1 l2 building fault fresh h g f)))

pub takes-block : {T : Type 0} (value : T) (r0 r1 r2 r3 : Reader) (l0 l1 l2 l3 : Option (List ℕ)) (building : Building) (block : Block)
    → IsFresh r0 → ReadsLines (Ok building) r0 r1 l0 l1 → ReadsBlockLines building.model (Ok block) r1 r2 l1 l2 → PassesTail (Ok tt) r2 r3 l2 l3 → (Drained r0 l0 → Drained r1 l1)
    → (Drained r1 l1 → Drained r2 l2) → (Drained r2 l2 → Drained r3 l3) → r3.ended ≡ true → Takes {T = T} IsOpenClaim (Ok value) l0 l3
takes-block value r0 r1 r2 r3 l0 l1 l2 l3 building block fresh h g t first second third ended =
    takes-value IsOpenClaim value r0 r3 l0 l3 (h.texts ++ (g.texts ++ t.texts)) fresh
    (passes-then r0 r1 r3 l0 l1 l3 h.texts (g.texts ++ t.texts) h.passes (passes-then r1 r2 r3 l1 l2 l3 g.texts t.texts g.passes t.passes))
    (third (second (first (fresh-drained r0 l0 fresh))) ended)

pub takes-block-tail : {T : Type 0} (fault : ModelFault) (r0 r1 r2 r3 : Reader) (l0 l1 l2 l3 : Option (List ℕ)) (building : Building) (block : Block)
    → IsFresh r0 → ReadsLines (Ok building) r0 r1 l0 l1 → ReadsBlockLines building.model (Ok block) r1 r2 l1 l2 → PassesTail (Err fault) r2 r3 l2 l3
    → (Failed {T = Unit {0}} (Err fault) → is_settled r3 ≡ false) → Takes {T = T} IsOpenClaim (Err fault) l0 l3
takes-block-tail {T} fault r0 r1 r2 r3 l0 l1 l2 l3 building block fresh h g t unfinished =
    takes {T = T} IsOpenClaim (Err fault) r0 r3 l0 l3 (h.texts ++ (g.texts ++ t.texts)) fresh
    (passes-then r0 r1 r3 l0 l1 l3 h.texts (g.texts ++ t.texts) h.passes (passes-then r1 r2 r3 l1 l2 l3 g.texts t.texts g.passes t.passes)) tt
    (λ e. (let f : Failed {T = Unit {0}} (Err fault) = ap Err (read-fault {T = T} fault e) in
    (unfinished f, open-behind-block r0 r1 r2 r3 l0 l1 l2 l3 building block (Err fault) fresh h g t f)))
