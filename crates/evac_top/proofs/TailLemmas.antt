-- The lines after a model's end, one by one.
use Rattle.std.proofs.Common.{◌≡◌, ℕ, ◌+◌, false, List, [], ◌∷◌, ◌++◌, length, Result, Ok, Err, Some, None, refl, sym, ap, subst, ◌∙◌}
use Rattle.std.specs.declared.option.Option.{Option}
use Rattle.evac_law.specs.declared.code.Code.TheVariants as codes
use Rattle.evac_law.specs.declared.code.Code.{Code}
use Rattle.line_io.specs.Hearing.{Hearing, Listens}
use Rattle.line_io.specs.Line.{text_lines}
use Rattle.line_io.specs.Passes.{Follows, IsLeft}
use Rattle.line_io.specs.Reader.{lines_left}
use Rattle.line_io.specs.View.{Reader}
use Rattle.line_io.specs.declared.hearing.Ending.{Ending}
use Rattle.line_io.specs.declared.hearing.Ending.TheVariants.{Finished, Failed, InputEnded, Fault}
use Rattle.line_io.specs.declared.lines.LineFault.TheVariants as faults
use Rattle.line_io.proofs.HearingLemmas.{Comes, GoesOn, comes, last-number, means-last, means-rest}
use Rattle.building_table.specs.declared.faults.ModelFault.{ModelFault}
use Rattle.building_table.specs.declared.faults.ModelFault.TheVariants.{ReadFault}
use Rattle.model_text.specs.Grammar.{statement_of}
use Rattle.model_text.specs.Readings.{Line}
use Rattle.evac_top.specs.declared.read.Tail.{Tail}
use Rattle.evac_top.specs.declared.read.TextFound.{TextFound}
use Rattle.evac_top.specs.Inputs.{says_nothing, tail_fault}
use Rattle.evac_top.specs.Reads.{HearsTail, PassesTail, ReadsTail, TailIs, tail_by}

abbrev pub Hears : Hearing Tail TextFound
Hears tail line text result new = HearsTail (statement_of text) result

abbrev pub IsAt : Tail → Unit {0} → Type 0
IsAt r u = Unit {0}

abbrev pub meaning : Unit {0} → ℕ → List Line → Option (Code × ℕ)
meaning u n lines = tail_fault n lines

goes-on : GoesOn Hears IsAt meaning
unfolding tail_fault
goes-on s s' x n t is heard = (tt, tt, λ rest. rw heard refl)

found-text : (n : ℕ) (t : List ℕ) (rest : List Line) → says_nothing (statement_of t) ≡ false → tail_fault n (Ok t ∷ rest) ≡ Some (codes.TextAfterEnd, n + 1)
unfolding tail_fault
found-text n t rest e = rw e refl

no-line : (n : ℕ) → tail_fault n [] ≡ None
unfolding tail_fault
no-line n = refl

bad-line : (n : ℕ) (k : Code) → tail_fault n (Err k ∷ []) ≡ Some (k, n + 1)
unfolding tail_fault
bad-line n k = refl

tail-is : (ending : Ending TextFound) (from to : Tail) (a c : Reader) (l n : Option (List ℕ)) (h : Listens Hears ending from to a c l n) → Comes IsAt meaning tt a.number h.texts h.at
    → TailIs (tail_by ending c.number) a.number (text_lines (h.texts ++ h.last) ++ h.rest)
tail-is InputEnded from to a c l n h w = means-rest IsAt meaning h tt w h.ends.0 h.rest ∙ ap (tail_fault c.number) h.ends.1 ∙ no-line c.number
tail-is Finished from to a c l n h w = absurd h.ends.2
tail-is (Failed f) from to a c l n h w =
    means-last IsAt meaning h tt w h.ends.0 h.ends.1 h.rest ∙ found-text (a.number + length h.texts) h.ends.0 h.rest h.ends.2 ∙ ap (λ k. Some (codes.TextAfterEnd, k)) (last-number h h.ends.0 h.ends.1)
tail-is (Fault faults.LineTooLong) from to a c l n h w = means-rest IsAt meaning h tt w h.ends.0 h.rest ∙ ap (tail_fault c.number) h.ends.1 ∙ bad-line c.number codes.LineTooLong
tail-is (Fault faults.InputTooLong) from to a c l n h w = means-rest IsAt meaning h tt w h.ends.0 h.rest ∙ ap (tail_fault c.number) h.ends.1 ∙ bad-line c.number codes.InputTooLong
tail-is (Fault faults.ReadFault) from to a c l n h w = tt

tail-told : (texts : List (List ℕ)) (k : ℕ) (x y : Option (List Line)) (rest : List Line) (result : Result (Unit {0}) ModelFault) → Follows texts x y → IsLeft x y rest
    → TailIs result k (text_lines texts ++ rest) → ReadsTail result k x
tail-told texts k None y rest result f e h = tt
tail-told texts k (Some x) None rest result f e h = absurd f
tail-told texts k (Some x) (Some y) rest result f e h = subst (TailIs result k) (sym (f ∙ ap (λ z. text_lines texts ++ z) e)) h

-- the first fault of the lines
pub reads-tail : (ending : Ending TextFound) (from to : Tail) (a c : Reader) (l n : Option (List ℕ)) → Listens Hears ending from to a c l n → (k : ℕ) (result : Result (Unit {0}) ModelFault)
    → result ≡ tail_by ending k → k ≡ c.number → ReadsTail result a.number (lines_left a l)
reads-tail ending from to a c l n h k result is at =
    let by : result ≡ tail_by ending c.number = is ∙ ap (tail_by ending) at in
    tail-told (h.texts ++ h.last) a.number (lines_left a l) (lines_left c n) h.rest result h.passes.follows h.is_left
    (subst (λ (r : Result (Unit {0}) ModelFault). TailIs r a.number (text_lines (h.texts ++ h.last) ++ h.rest)) (sym by)
    (tail-is ending from to a c l n h (comes Hears IsAt meaning goes-on h tt tt)))

-- the reader went on by the lines; where the source failed, they say nothing
pub passes-tail : (ending : Ending TextFound) (from to : Tail) (a c : Reader) (l n : Option (List ℕ)) (result : Result (Unit {0}) ModelFault)
    → Listens Hears ending from to a c l n → (result ≡ Err ReadFault → ending ≡ Fault faults.ReadFault) → PassesTail result a c l n
passes-tail ending from to a c l n result h caused = record {
  texts = h.texts ++ h.last;
  passes = h.passes;
  nothing = λ is. nothing ending (caused is) h;
}
  where
    nothing : (ending : Ending TextFound) → ending ≡ Fault faults.ReadFault → (h : Listens Hears ending from to a c l n) → (rest : List Line)
        → tail_fault a.number (text_lines (h.texts ++ h.last) ++ rest) ≡ tail_fault c.number rest
    nothing (Fault faults.ReadFault) e h = means-rest IsAt meaning h tt (comes Hears IsAt meaning goes-on h tt tt) h.ends.0
    nothing _ e h = cc
