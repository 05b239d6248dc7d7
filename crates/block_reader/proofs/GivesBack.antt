-- A call that reads the text of an answer gives that answer.
use Rattle.std.proofs.Common.{◌≡◌, ℕ, List, ◌++◌, Result, Ok, Err, Some, None, ap, subst}
use Rattle.std.specs.declared.option.Option.{Option}
use Rattle.evac_law.specs.declared.code.Code.{Code}
use Rattle.evac_law.specs.declared.model.Model.{Model}
use Rattle.evac_law.specs.declared.plan.Move.{Move}
use Rattle.evac_law.specs.Building.{IsValid}
use Rattle.evac_law.specs.LabelTable.{LabelTable}
use Rattle.line_io.specs.Line.{Line, lines_after, pieces}
use Rattle.certificate_text.specs.declared.block.Block.{Block}
use Rattle.block_reader.specs.declared.fault.BlockFault.{BlockFault}
use Rattle.block_reader.specs.declared.fault.BlockFault.TheVariants as faults
use Rattle.certificate_text.specs.BlockReadings.{ReadsAs, Refused, Stated}
use Rattle.certificate_text.specs.BlockLaws.{IsAnswerBlock, ReadsBack}
use Rattle.block_reader.specs.ReaderLaws.{GivesBack, IsBack}
use Rattle.block_reader.specs.BlockReads.{ReadsBlock}
use Rattle.certificate_text.specs.BlockText.{answer_text}
use Rattle.certificate_text.proofs.AnswerBack.{reads_back}
use Rattle.block_reader.proofs.OneReading.{one-reading}

stated-not : (m : Model) (first : ℕ) (lines : List Line) (block : Block) (at : ℕ) (behind : List Line) (code : Code) (line : ℕ) → IsValid m → ReadsAs m first lines (Stated block at behind)
    → ReadsAs m first lines (Refused code line) → ⊥
stated-not m first lines block at behind code line valid is h =
    let same : Stated block at behind ≡ Refused code line = one-reading m first lines (Stated block at behind) (Refused code line) valid is h in cc

back-by : (index : ℕ) (m : Model) (p : List Move) (l : LabelTable) (c : ℕ) → IsValid m → (back : ReadsBack index m p l c) (first last at : ℕ) (lines behind : List Line)
    → ReadsAs m first lines (Stated back.block at behind) → (result : Result Block BlockFault) (after : Option (List Line)) → ReadsBlock m result first last (Some lines) after
    → IsBack index m p l c result after behind
back-by index m p l c valid back first last at lines behind is result None h = absurd h
back-by index m p l c valid back first last at lines behind is (Ok block) (Some left) h =
    let same : Stated back.block at behind ≡ Stated block last left = one-reading m first lines (Stated back.block at behind) (Stated block last left) valid is h in
    let block_is : back.block ≡ block = cc in
    (subst (IsAnswerBlock index m p l c) block_is back.answer, (let e : left ≡ behind = cc in ap (λ x. Some x) e))
back-by index m p l c valid back first last at lines behind is (Err faults.ReadFault) (Some left) h = tt
back-by index m p l c valid back first last at lines behind is (Err faults.Memory) (Some left) h = tt
back-by index m p l c valid back first last at lines behind is (Err _) (Some left) h = stated-not m first lines back.block at behind _ _ valid is h

pub gives-back : (m : Model) (result : Result Block BlockFault) (first last : ℕ) (before after : Option (List Line)) → IsValid m → ReadsBlock m result first last before after
    → GivesBack m result before after
gives-back m result first last before after valid reads = λ index p l c given behind few cert ordered room is.
    let back = reads_back index m p l c few valid cert ordered in
    back-by index m p l c valid back first last _ (lines_after given (pieces (answer_text index m p l c)) ++ behind) behind (back.reads given first behind room) result after
    (subst (λ (x : Option (List Line)). ReadsBlock m result first last x after) is reads)
