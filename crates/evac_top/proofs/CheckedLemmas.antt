-- Whatever block `solve` writes of a building is answered by yes after it.
use Rattle.std.specs.List.{All}
use Rattle.std.proofs.Common.{◌≡◌, ℕ, ◌+◌, ◌≤◌, false, List, [], ◌++◌, length, slice_index, Result, Ok, Err, refl, sym, ap, subst, ◌∙◌, arith, append-nil, inl, inr}
use Rattle.std.proofs.lemmas.List.FromFn.{get_or-map-range_with_len}
use Rattle.evac_law.specs.declared.code.Code.{Code}
use Rattle.evac_law.specs.declared.model.Model.{Model}
use Rattle.evac_law.specs.declared.plan.Move.{Move}
use Rattle.evac_law.specs.Building.{IsValid}
use Rattle.evac_law.specs.Certificates.{IsCertified}
use Rattle.evac_law.specs.LabelTable.{LabelTable}
use Rattle.evac_law.specs.Plans.{out_by}
use Rattle.line_io.specs.Line.{IsWhole, Line, input_limit, lines_after, lines_of, pieces, text_lines}
use Rattle.line_io.proofs.LineLemmas.{lines_after-whole}
use Rattle.line_io.proofs.PassLemmas.{text_lines-append}
use Rattle.model_text.specs.Readings.{AtStart, Described, Reading, model_of}
use Rattle.model_text.specs.Taken.{Description}
use Rattle.model_text.proofs.ReadingLemmas.{reading-further}
use Rattle.certificate_text.specs.declared.block.Block.{Block}
use Rattle.certificate_text.specs.BlockLaws.{IsAnswerBlock, ReadsBack, block_limit}
use Rattle.certificate_text.specs.BlockReadings as blocks
use Rattle.certificate_text.specs.BlockReadings.{ReadsAs}
use Rattle.certificate_text.proofs.AnswerBack.{reads_back}
use Rattle.building_table.specs.Names.{names_of}
use Rattle.block_reader.proofs.OneReading.{one-reading}
use Rattle.plan_checker.specs.Verdicts.{IsRight}
use Rattle.edit_session.specs.Sessions.{IsSolved, SessionState}
use Rattle.session_text.specs.StateTexts.{block_text}
use Rattle.evac_top.specs.Accounts.{Account}
use Rattle.evac_top.specs.Answers.{ChecksInput}
use Rattle.evac_top.specs.Check.{Checks}
use Rattle.evac_top.specs.Inputs.{Asked, Claimed, ClaimsBehind, claim_by, input_of, tail_fault}
use Rattle.evac_top.specs.Solve.{Solves}
use Rattle.evac_top.specs.TwoRuns.{SolvedIsChecked}
use Rattle.evac_top.specs.Words.{asking}
use Rattle.evac_top.proofs.PlanLemmas.{block-alone}
use Rattle.evac_top.proofs.PromiseLemmas.{check-answered}
use Rattle.evac_top.proofs.QuietLemmas.{IsQuiet, lines-described, quiet-reads, quiet-tail}
use Rattle.evac_top.proofs.TwoRunsLemmas.{solve-answered}
use Rattle.evac_top.proofs.UpgradeLemmas.{building-of}

-- a block that is an answer is right
is-right : (m : Model) (p : List Move) (l : LabelTable) (c : ℕ) (b : Block) → IsAnswerBlock 0 m p l c b → IsRight m b
is-right m p l c b h = record {
  people = h.people_same;
  outs = λ k i.
      let e = get_or-map-range_with_len (out_by m p) 0 (c + 1) k k 0 (omega (arith, i, h.cleared_same)) (omega arith) in
      ap (λ outs. slice_index outs k) h.outs_same ∙ e ∙ ap (λ q. out_by m q k) (sym h.moves_same);
  certified =
      let P : List Move → Type 0 = λ q. IsCertified m q b.labels b.cleared in
      let C : ℕ → Type 0 = λ z. IsCertified m p b.labels z in
      subst P (sym h.moves_same) (subst C (sym h.cleared_same) h.certified);
}

-- lines after a building that are read as a right block, with nothing after it, are answered by yes
by-claim : (bytes : List ℕ) (d : Description) (last end : ℕ) (lines : List Line) (b : Block) (claim : Result Claimed (Code × ℕ)) (x : Account) → IsValid d.model
    → ReadsAs d.model last lines (blocks.Stated b end []) → IsRight d.model b → ClaimsBehind (Described d last lines) claim → Checks bytes claim x → x.status ≡ 0
unfolding tail_fault
by-claim bytes d last end lines b claim x valid reads right (reading, other, is) checks =
    let same : reading ≡ blocks.Stated b end [] = one-reading d.model last lines reading (blocks.Stated b end []) valid other reads in
    let C : Result Claimed (Code × ℕ) → Type 0 = λ c. Checks bytes c x in
    let found : Checks bytes (Ok (record { building = d; block = b })) x = subst C (is ∙ ap (claim_by d) same) checks in
    found.1.right right

-- the text of a solved state's block, after a building's lines and others that say nothing
behind : (bytes : List ℕ) (texts quiet : List (List ℕ)) (d : Description) (last : ℕ) (s : SessionState) (x : Account) → IsWhole bytes
    → length bytes + block_limit ≤ input_limit → lines_of bytes ≡ text_lines texts → model_of (lines_of bytes) ≡ Described d last (text_lines quiet)
    → All IsQuiet quiet → s.model ≡ d.model → IsSolved s → ChecksInput (bytes ++ block_text 0 s) x → x.status ≡ 0
behind bytes texts quiet d last s x whole room lines described all of solved (claim, is_claim, checks) =
    let w = block_text 0 s in
    let more = lines_after (length bytes) (pieces w) in
    let start = last + length quiet in
    let none : 0 + length bytes ≡ length bytes = omega arith in
    let parts : lines_of (bytes ++ w) ≡ lines_of bytes ++ more =
    lines_after-whole 0 bytes w texts whole lines ∙ ap (λ n. text_lines texts ++ lines_after n (pieces w)) none ∙ ap (λ ls. ls ++ more) (sym lines) in
    let read : model_of (lines_of (bytes ++ w)) ≡ Described d last (text_lines quiet ++ more) =
    ap model_of parts ∙ reading-further AtStart 0 (lines_of bytes) more d last (text_lines quiet) described in
    let back : ReadsBack 0 s.model s.plan s.labels s.last = reads_back 0 s.model s.plan s.labels s.last (omega arith) solved.valid solved.certified solved.ordered in
    let finish = start + back.count in
    let block = subst (λ ls. ReadsAs s.model start ls (blocks.Stated back.block finish [])) (append-nil more) (back.reads (length bytes) start [] room) in
    let R : Model → Type 0 = λ m. ReadsAs m last (text_lines quiet ++ more) (blocks.Stated back.block finish []) in
    let reads = subst R of (quiet-reads s.model last quiet more back.block finish [] all block) in
    let right = subst (λ m. IsRight m back.block) of (is-right s.model s.plan s.labels s.last back.block back.answer) in
    let claims : ClaimsBehind (Described d last (text_lines quiet ++ more)) claim = subst (λ (r : Reading). ClaimsBehind r claim) read is_claim in
    by-claim (bytes ++ w) d last finish (text_lines quiet ++ more) back.block claim x (subst IsValid of solved.valid) reads right claims checks

-- by what an input says
checked : (input : List ℕ) (result : Result Asked (Code × ℕ)) (x y : Account) → IsWhole input → length input + block_limit ≤ input_limit
    → input_of (lines_of input) ≡ result → Solves (asking false false) input result x → x.status ≡ 0 → ChecksInput (input ++ x.written) y → y.status ≡ 0
checked input (Ok asked) x y whole room e (taken, inl h) done checks =
    let is = building-of (model_of (lines_of input)) asked e in
    let front = lines-described AtStart 0 (lines_of input) asked.building asked.last is.0 is.1 in
    let tail = quiet-tail asked.last is.0 is.2 in
    let texts = front.0 ++ tail.texts in
    let lines : lines_of input ≡ text_lines texts =
    front.1 ∙ ap (λ ls. text_lines front.0 ++ ls) tail.parts ∙ sym (text_lines-append front.0 tail.texts) in
    let described = is.1 ∙ ap (λ ls. Described asked.building asked.last ls) tail.parts in
    let says = subst (λ w. ChecksInput (input ++ w) y) (block-alone (names_of asked.building) h.opening x.written h.says) checks in
    behind input texts tail.texts asked.building asked.last h.opening y whole room lines described tail.quiet h.begins.begun h.begins.solved says
checked input (Ok asked) x y whole room e (taken, inr short) done checks = absurd (omega (arith, done, short.refused))
checked input (Err fault) x y whole room e ends done checks = absurd (omega (arith, done, ends.over))

pub solved_is_checked : SolvedIsChecked
solved_is_checked input x y whole room solves done checks =
    checked input (input_of (lines_of input)) x y whole room refl (solve-answered (asking false false) input x solves) done
    (check-answered (input ++ x.written) y checks)
