-- The block of a plan, put into a sink, read back and right.
use Rattle.std.proofs.Common.{◌≡◌, ℕ, ◌+◌, ◌≤◌, false, List, [], ◌++◌, Result, Ok, Err, OnOk, IfOk, Some, slice_index, map, arith, refl, sym, ap, ◌∙◌, subst, append-nil}
use Rattle.std.specs.Prelude.{◌↔◌}
use Rattle.std.specs.declared.option.Option.{Option}
use Rattle.std.specs.Io.KnownBytes.{Appends}
use Rattle.std.proofs.lemmas.List.FromFn.{get_or-map-range_with_len}
use Rattle.evac_law.specs.declared.model.Model.{Model}
use Rattle.evac_law.specs.declared.plan.Move.{Move}
use Rattle.evac_law.specs.Certificates.{IsCertified}
use Rattle.evac_law.specs.LabelTable.{LabelTable}
use Rattle.evac_law.specs.Plans.{out_by}
use Rattle.evac_law.specs.Sums.{moments_to}
use Rattle.line_io.specs.Line.{Line, input_limit, lines_of}
use Rattle.line_io.specs.Writer.{Writes}
use Rattle.line_io.specs.declared.outside.Sink.{Ghosts}
use Rattle.line_io.specs.declared.writer.Writer.{Writer}
use Rattle.line_io.proofs.WriterLemmas.{writes_then}
use Rattle.certificate_text.specs.declared.block.Block.{Block}
use Rattle.certificate_text.specs.BlockLaws.{IsAnswerBlock, block_limit}
use Rattle.block_reader.specs.declared.fault.BlockFault.{BlockFault}
use Rattle.block_reader.specs.declared.fault.BlockFault.TheVariants as faults
use Rattle.block_reader.specs.ReaderLaws.{GivesBack, IsBack}
use Rattle.plan_checker.specs.declared.verdict.Verdict.{Verdict}
use Rattle.plan_checker.specs.declared.verdict.Verdict.TheVariants.{Yes}
use Rattle.plan_checker.specs.Parts.{OutsRight}
use Rattle.plan_checker.specs.Verdicts.{IsRight}
use Rattle.edit_session.specs.Sessions.{IsSolved, SessionState}
use Rattle.session_text.specs.StateTexts.{block_text}

-- a text that a writer put into an empty buffer is over once that is flushed
pub flushed : {X E : Type 0} {G : Ghosts X} (r : Result (Unit {0}) E) (a b c : Writer X) (text : List ℕ) {s s' : X} {p : List ℕ} → a.failed ≡ false → a.sink.now ≡ s
    → c.sink.now ≡ s' → a.out.now ≡ p → p ≡ [] → Writes G a text b → Writes G b [] c → OnOk r (c.failed ≡ false) → OnOk r (c.out.now ≡ []) → OnOk r (Appends (G.held s) (G.held s') text)
flushed (Err e) a b c text fresh is to from empty put flush fine gone = tt
flushed {X} {E} {G} (Ok x) a b c text fresh is to from empty put flush fine gone =
    let both = (writes_then put flush).whole fresh fine in
    let whole : both.sent ≡ text =
    sym (append-nil both.sent) ∙ ap (λ (l : List ℕ). both.sent ++ l) (sym gone) ∙ sym both.order ∙ ap (λ (l : List ℕ). l ++ (text ++ [])) (from ∙ empty) ∙ append-nil text in
    rw (← is, ← to) (subst (λ (l : List ℕ). Appends (G.held a.sink.now) (G.held c.sink.now) l) whole both.over)

-- the block of a certified plan is right
outs-right : (m : Model) (p q : List Move) (c d : ℕ) (outs : List ℕ) → outs ≡ map (out_by m p) (moments_to c) → q ≡ p → d ≡ c → OutsRight m q d outs
outs-right m p q c d outs same moves last = λ k within.
    ap (λ (xs : List ℕ). slice_index xs k) same ∙ get_or-map-range_with_len (out_by m p) 0 (c + 1) k k 0 (omega (arith, within, last)) (omega arith)
    ∙ ap (λ (x : List Move). out_by m x k) (sym moves)

pub answer-right : (index : ℕ) (m : Model) (p : List Move) (l : LabelTable) (c : ℕ) (b : Block) → IsAnswerBlock index m p l c b → IsRight m b
answer-right index m p l c b h =
    let here = subst (λ (d : ℕ). IsCertified m p b.labels d) (sym h.cleared_same) h.certified in
    record {
      people = h.people_same;
      outs = outs-right m p b.moves c b.cleared b.outs h.outs_same h.moves_same h.cleared_same;
      certified = subst (λ (q : List Move). IsCertified m q b.labels b.cleared) (sym h.moves_same) here;
    }

-- a block is within an input
block_within : 0 + block_limit ≤ input_limit
unfolding block_limit input_limit
block_within = omega arith

-- the block of a session's plan is read back from its text
pub own-back : (s : SessionState) (m : Model) (before after : Option (List Line)) (text : List ℕ) (result : Result Block BlockFault) → IsSolved s → m ≡ s.model
    → before ≡ Some (lines_of text) → text ≡ block_text 0 s → GivesBack m result before after → IsBack 0 s.model s.plan s.labels s.last result after []
own-back s m before after text result h same left said back =
    let here = subst (λ (x : Model). GivesBack x result before after) same back in
    let whole = left ∙ ap (λ (x : List ℕ). Some (lines_of x)) said ∙ ap (λ (x : List Line). Some x) (sym (append-nil (lines_of (block_text 0 s)))) in
    here 0 s.plan s.labels s.last 0 [] (omega arith) h.certified h.ordered block_within whole

-- where it isn't read back, there was no memory, or the source failed
pub only-memory : (index : ℕ) (m : Model) (p : List Move) (l : LabelTable) (c : ℕ) (fault : BlockFault) (left : Option (List Line)) → IsBack index m p l c (Err fault) left []
    → (fault ≡ faults.ReadFault → ⊥) → fault ≡ faults.Memory
only-memory index m p l c faults.ReadFault left back read = absurd (read refl)
only-memory index m p l c faults.Memory left back read = refl
only-memory index m p l c _ left back read = absurd back

-- of a block that is right the checker says yes
pub says-yes : {E : Type 0} (m : Model) (b : Block) (result : Result Verdict E) → IsRight m b → IfOk result (λ v. (v ≡ Yes) ↔ IsRight m b) → IfOk result (λ v. v ≡ Yes)
says-yes m b (Ok v) right says = says.1 right
says-yes m b (Err fault) right says = tt
