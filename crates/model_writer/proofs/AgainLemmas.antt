-- The text of a building that lines describe, described again.
use Rattle.std.proofs.Common.{◌≡◌, ℕ, ◌+◌, ◌≤◌, List, [], ◌∷◌, length, map, sym, ap, subst, ◌∙◌, arith, length-append}
use Rattle.std.specs.List.{All, flat_map}
use Rattle.std.proofs.lemmas.List.{length-map}
use Rattle.std.proofs.lemmas.List.Elements.{All-map, All-weaker}
use Rattle.std.proofs.lemmas.List.Folds.{flat_map-map}
use Rattle.line_io.specs.Line.{Line, input_limit, line_limit, lines_of, text_lines}
use Rattle.model_text.specs.Grammar.{Said, Part, End}
use Rattle.model_text.specs.Plain.{IsPlain}
use Rattle.model_text.specs.Readings.{Described, model_of}
use Rattle.model_text.specs.Taken.{Description}
use Rattle.model_text.proofs.PlainLemmas.{opening-plain}
use Rattle.model_writer.specs.Laws.{DescribesAgain, IsContent}
use Rattle.model_writer.specs.ModelText.{ended, model_text, parts_said, said_line, said_of, said_text}
use Rattle.model_writer.proofs.EndedLemmas.{lines-ended}
use Rattle.model_writer.proofs.LinesWithin.{lines-within}
use Rattle.model_writer.proofs.PlainGo.{said-again}
use Rattle.model_writer.proofs.ReadBack.{parts_back}
use Rattle.model_writer.proofs.SizeLemmas.{contents, text-fits}

-- lines with their ends that keep the limits are read back
lines-back : (ss : List Said) → All (λ s. IsContent (said_line s)) ss → length (flat_map said_text ss) ≤ input_limit → lines_of (flat_map said_text ss) ≡ text_lines (map said_line ss)
lines-back ss each fits =
    let spelled : flat_map ended (map said_line ss) ≡ flat_map said_text ss = flat_map-map ended said_line ss in
    let P : List ℕ → Type 0 = λ l. 0 + length l ≤ input_limit in
    ap lines_of (sym spelled) ∙ lines-ended 0 (map said_line ss) (All-map IsContent said_line ss each) (subst P (sym spelled) (omega arith))

-- the text of a plain building
pub plain-again : (d : Description) → IsPlain line_limit d → DescribesAgain d
unfolding model_text
plain-again d plain =
    let said = said-again line_limit d plain in
    let each = contents d plain said.fine in
    let fits = text-fits d plain each in
    let count : length (parts_said d) + 2 ≡ length (said_of d) = (let size = length-append (map Part (parts_said d)) (End ∷ []) in let same = length-map (parts_said d) Part in omega arith) in
    record {
      lines_fit = All-weaker (λ s. IsContent (said_line s)) (λ s. length (said_line s) ≤ line_limit) (λ s is. is.0) (said_of d) each;
      fits = fits;
      again = ap model_of (lines-back (said_of d) each fits) ∙ parts_back (parts_said d) said.fine said.may_end
          ∙ ap (λ e. Described e (length (parts_said d) + 2) []) said.same ∙ ap (λ n. Described d n []) count;
    }

-- the text of a building that the lines of an input describe
pub texts-again : (bytes : List ℕ) (d : Description) (last : ℕ) (rest : List Line) → model_of (lines_of bytes) ≡ Described d last rest → DescribesAgain d
texts-again bytes d last rest h = plain-again d (opening-plain line_limit (lines_of bytes) 0 d last rest (lines-within bytes) h)
