-- Reading a model, line by line.
use Rattle.std.proofs.Common.{◌≡◌, ℕ, ◌+◌, List, [], ◌∷◌, ◌++◌, length, Result, Ok, Err, Some, None, IfOk, refl, sym, ap, subst, ◌∙◌, append-nil}
use Rattle.std.specs.declared.option.Option.{Option}
use Rattle.evac_law.specs.declared.code.Code.{Code}
use Rattle.evac_law.specs.declared.code.Code.TheVariants.{LineTooLong, InputTooLong, MissingEnd}
use Rattle.line_io.specs.Hearing.{Listens}
use Rattle.line_io.specs.Line.{text_lines}
use Rattle.line_io.specs.Passes.{Follows, IsLeft, Passes}
use Rattle.line_io.specs.Reader.{lines_left, pending_lines}
use Rattle.line_io.specs.View.{Reader}
use Rattle.line_io.specs.declared.hearing.Ending.{Ending}
use Rattle.line_io.specs.declared.hearing.Ending.TheVariants.{Finished, Failed, InputEnded, Fault}
use Rattle.line_io.specs.declared.hearing.Refusal.{Refusal}
use Rattle.line_io.specs.declared.hearing.Refusal.TheVariants as refusals
use Rattle.line_io.specs.declared.lines.LineFault.TheVariants as line_faults
use Rattle.line_io.proofs.HearingLemmas.{Comes, GoesOn, comes, last-number, means-last, means-rest}
use Rattle.line_io.proofs.PassLemmas.{none-pending-lines, passes-none, passes-taken}
use Rattle.evac_law.specs.Building.{IsValid}
use Rattle.model_text.proofs.ReadingLemmas.{opening-valid}
use Rattle.building_table.specs.declared.building.Building.{Building}
use Rattle.building_table.specs.declared.faults.ModelFault.{ModelFault}
use Rattle.building_table.specs.declared.faults.ModelFault.TheVariants.{Named, ReadFault, Memory}
use Rattle.building_table.specs.declared.read.ModelReader.{ModelReader}
use Rattle.building_table.specs.Built.{IsBuilding}
use Rattle.building_table.specs.Names.{NameTable, NamesFit, arc_ends, node_names}
use Rattle.building_table.specs.Passes.{ReadsLines, ReadsModel}
use Rattle.building_table.specs.Reads.{IsInState, HearsModel, Finishes, AnswersBy, ConcludesModel}
use Rattle.model_text.specs.Grammar.{SaidPart}
use Rattle.model_text.specs.Readings.{Line, Refused, ReadingState, AtStart, Step, Ended, Stopped, step_unless, end_step, step_at, after_step, reading_at, opening_of}
use Rattle.model_text.specs.Taken.{Description, description_of}

-- ---- what a line makes of a reading

line-step : (x : ReadingState) (n : ℕ) (t : List ℕ) (rest : List Line) → reading_at x n (Ok t ∷ rest) ≡ after_step (step_at x (Ok t)) (n + 1) rest (λ y. reading_at y (n + 1) rest)
unfolding reading_at
line-step x n t rest = refl

no-line : (x : ReadingState) (n : ℕ) → reading_at x n [] ≡ Refused MissingEnd (n + 1)
unfolding reading_at
no-line x n = refl

bad-line : (x : ReadingState) (n : ℕ) (k : Code) → reading_at x n (Err k ∷ []) ≡ Refused k (n + 1)
unfolding reading_at
bad-line x n k = refl

goes-on : GoesOn HearsModel IsInState reading_at
goes-on s s' x n t is heard =
    let h = heard x is in
    (h.0, h.2, λ rest. line-step x n t rest ∙ ap (λ step. after_step step (n + 1) rest (λ y. reading_at y (n + 1) rest)) h.1)

-- ---- the answer

-- lines went by, and this is the answer
pub record ReadsBy (result : Result Building ModelFault) (before after : Reader) (left left' : Option (List ℕ)) : Type 0 where
  pub texts : List (List ℕ)
  pub passes : Passes before after left left' texts
  pub answer : AnswersBy before.number result after (lines_left before left) (lines_left after left') texts

-- the lines that went by with the one answered last, by its step
step-last : {ending : Ending Refusal} {from to : ModelReader} {a c : Reader} {l n : Option (List ℕ)} (h : Listens HearsModel ending from to a c l n) (w : Comes IsInState reading_at AtStart a.number h.texts h.at)
    (t : List ℕ) → h.last ≡ t ∷ [] → (step : Step) → step_at w.place (Ok t) ≡ step
    → (rest : List Line) → opening_of a.number (text_lines (h.texts ++ h.last) ++ rest) ≡ after_step step c.number rest (λ y. reading_at y c.number rest)
step-last {ending} {from} {to} {a} {c} h w t is step steps rest =
    means-last IsInState reading_at h AtStart w t is rest ∙ line-step w.place (a.number + length h.texts) t rest
    ∙ ap (λ k. after_step (step_at w.place (Ok t)) k rest (λ y. reading_at y k rest)) (last-number h t is) ∙ ap (λ s. after_step s c.number rest (λ y. reading_at y c.number rest)) steps

-- the end of the model
ends-model : (a c : Reader) (l n : Option (List ℕ)) (texts : List (List ℕ)) (taken : List SaidPart) (rest : List Line) → Passes a c l n texts → IsLeft (lines_left a l) (lines_left c n) rest
    → ((more : List Line) → opening_of a.number (text_lines texts ++ more) ≡ after_step (end_step taken) c.number more (λ y. reading_at y c.number more))
    → (result : Result Building ModelFault) → Finishes result taken c.number → ReadsBy result a c l n
ends-model a c l n texts taken rest p left means (Ok b) h = record {
  texts = texts;
  passes = p;
  answer = (description_of taken, (h.1, λ more. means more ∙ ap (λ o. after_step (step_unless o (Ended (description_of taken))) c.number more (λ y. reading_at y c.number more)) h.0));
}
ends-model a c l n texts taken rest p left means (Err (Named code number)) h =
    let refused : (more : List Line) → opening_of a.number (text_lines texts ++ more) ≡ Refused code number =
    λ more. means more ∙ ap (λ o. after_step (step_unless o (Ended (description_of taken))) c.number more (λ y. reading_at y c.number more)) h.0 ∙ ap (Refused code) (sym h.1) in
    record { texts = texts; passes = p; answer = record { rest = rest; left_is = left; left = refused rest; pending = refused (pending_lines c) } }
ends-model a c l n texts taken rest p left means (Err ReadFault) h = absurd h
ends-model a c l n texts taken rest p left means (Err Memory) h = record { texts = texts; passes = p; answer = tt }

-- the lines are refused, where such lines follow those that went by
refuses : (code : Code) (line : ℕ) {ending : Ending Refusal} {from to : ModelReader} {a c : Reader} {l n : Option (List ℕ)} (h : Listens HearsModel ending from to a c l n) (Behind : List Line → Type 0)
    → ((rest : List Line) → Behind rest → opening_of a.number (text_lines (h.texts ++ h.last) ++ rest) ≡ Refused code line) → Behind h.rest → Behind (pending_lines c)
    → (result : Result Building ModelFault) → result ≡ Err (Named code line) → ReadsBy result a c l n
refuses code line {ending} {from} {to} {a} {c} {l} {n} h behind refused left pending result is = subst (λ (r : Result Building ModelFault). ReadsBy r a c l n) (sym is) (record {
  texts = h.texts ++ h.last;
  passes = h.passes;
  answer = record { rest = h.rest; left_is = h.is_left; left = refused h.rest left; pending = refused (pending_lines c) pending };
})

reads-by : (ending : Ending Refusal) (a c : Reader) (l n : Option (List ℕ)) (from to : ModelReader) (h : Listens HearsModel ending from to a c l n) → Comes IsInState reading_at AtStart a.number h.texts h.at → (result : Result Building ModelFault)
    → ConcludesModel ending to c.number result → ReadsBy result a c l n
reads-by Finished a c l n from to h w result done =
    let t = h.ends.0 in
    let heard = h.ends.2 w.place w.is in
    ends-model a c l n (h.texts ++ h.last) heard.0 h.rest h.passes h.is_left (step-last h w t h.ends.1 (end_step heard.0) heard.1) result (done heard.0 heard.2 heard.3)
reads-by (Failed (refusals.Code code)) a c l n from to h w result done =
    let heard = h.ends.2 w.place w.is in
    refuses code c.number h (λ _. Unit {0}) (λ rest _. step-last h w h.ends.0 h.ends.1 (Stopped code) heard rest) tt tt result done
reads-by (Failed refusals.Memory) a c l n from to h w result done =
    subst (λ (r : Result Building ModelFault). ReadsBy r a c l n) (sym done) (record { texts = h.texts ++ h.last; passes = h.passes; answer = tt })
reads-by InputEnded a c l n from to h w result done =
    refuses MissingEnd (c.number + 1) h (λ rest. rest ≡ []) (λ rest none. means-rest IsInState reading_at h AtStart w h.ends.0 rest ∙ ap (reading_at w.place c.number) none ∙ no-line w.place c.number)
    h.ends.1 (none-pending-lines c h.rests.1) result done
reads-by (Fault line_faults.LineTooLong) a c l n from to h w result done =
    refuses LineTooLong (c.number + 1) h (λ rest. rest ≡ Err LineTooLong ∷ []) (λ rest bad. means-rest IsInState reading_at h AtStart w h.ends.0 rest ∙ ap (reading_at w.place c.number) bad ∙ bad-line w.place c.number LineTooLong)
    h.ends.1 h.rests result done
reads-by (Fault line_faults.InputTooLong) a c l n from to h w result done =
    refuses InputTooLong (c.number + 1) h (λ rest. rest ≡ Err InputTooLong ∷ []) (λ rest bad. means-rest IsInState reading_at h AtStart w h.ends.0 rest ∙ ap (reading_at w.place c.number) bad ∙ bad-line w.place c.number InputTooLong)
    h.ends.1 h.rests result done
reads-by (Fault line_faults.ReadFault) a c l n from to h w result done =
    subst (λ (r : Result Building ModelFault). ReadsBy r a c l n) (sym done) (record {
      texts = h.texts ++ h.last;
      passes = h.passes;
      answer = ap (opening_of a.number) (sym (append-nil (text_lines (h.texts ++ h.last)))) ∙ means-rest IsInState reading_at h AtStart w h.ends.0 [] ∙ no-line w.place c.number;
    })

-- what listening to the lines of a model tells of the answer
pub reads-all : (ending : Ending Refusal) (a c : Reader) (l n : Option (List ℕ)) (from to : ModelReader) → Listens HearsModel ending from to a c l n → IsInState from AtStart → (result : Result Building ModelFault) (k : ℕ)
    → ConcludesModel ending to k result → k ≡ c.number → ReadsBy result a c l n
reads-all ending a c l n from to h start result k done is = reads-by ending a c l n from to h (comes HearsModel IsInState reading_at goes-on h AtStart start) result (subst (λ (j : ℕ). ConcludesModel ending to j result) is done)

pub reads-memory : (a : Reader) (l : Option (List ℕ)) → ReadsBy (Err Memory) a a l l
reads-memory a l = record { texts = []; passes = passes-none a l; answer = tt }

-- ---- the clauses

model-by : (first : ℕ) (c : Reader) (x y : Option (List Line)) (texts : List (List ℕ)) (result : Result Building ModelFault) → Follows texts x y → AnswersBy first result c x y texts
    → ReadsModel result first c.number x y
model-by first c None y texts result f h = tt
model-by first c (Some xs) None texts result f h = absurd f
model-by first c (Some xs) (Some ys) texts (Ok b) f h = (h.0, ap (opening_of first) f ∙ h.1.1 ys, h.1.0)
model-by first c (Some xs) (Some ys) texts (Err (Named code line)) f h = ap (opening_of first) (f ∙ ap (λ r. text_lines texts ++ r) h.left_is) ∙ h.left
model-by first c (Some xs) (Some ys) texts (Err ReadFault) f h = tt
model-by first c (Some xs) (Some ys) texts (Err Memory) f h = tt

pub reads-model : (a c : Reader) (l n : Option (List ℕ)) (result : Result Building ModelFault) → ReadsBy result a c l n → ReadsModel result a.number c.number (lines_left a l) (lines_left c n)
reads-model a c l n result r = model-by a.number c (lines_left a l) (lines_left c n) r.texts result r.passes.follows r.answer

lines-by : (a c : Reader) (l n : Option (List ℕ)) (texts : List (List ℕ)) (p : Passes a c l n texts) (result : Result Building ModelFault) → AnswersBy a.number result c (lines_left a l) (lines_left c n) texts
    → ReadsLines result a c l n
lines-by a c l n texts p (Ok b) h = record {
  texts = texts;
  passes = p;
  undecided = λ e. cc;
  refused = λ code line e. cc;
  described = (h.0, ap (opening_of a.number) (sym (append-nil (text_lines texts))) ∙ h.1.1 [], h.1.0);
}
lines-by a c l n texts p (Err (Named code line)) h = record {
  texts = texts;
  passes = p;
  undecided = λ e. cc;
  refused = λ k at e. let same : Refused code line ≡ Refused k at = cc in ap (opening_of a.number) (passes-taken a c l n texts p) ∙ h.pending ∙ same;
  described = tt;
}
lines-by a c l n texts p (Err ReadFault) h = record { texts = texts; passes = p; undecided = λ e. h; refused = λ code line e. cc; described = tt }
lines-by a c l n texts p (Err Memory) h = record { texts = texts; passes = p; undecided = λ e. cc; refused = λ code line e. cc; described = tt }

pub reads-lines : (a c : Reader) (l n : Option (List ℕ)) (result : Result Building ModelFault) → ReadsBy result a c l n → ReadsLines result a c l n
reads-lines a c l n result r = lines-by a c l n r.texts r.passes result r.answer

valid-building : (b : Building) (d : Description) → IsBuilding b d → IsValid d.model → IsValid b.model
valid-building b d is valid = subst IsValid (sym is.model) valid

fit-building : (b : Building) (d : Description) → IsBuilding b d → NamesFit b.names b.model
fit-building b d is = record {
  nodes = ap (λ (t : NameTable). t.nodes) is.names ∙ ap node_names (sym is.model);
  ends = ap (λ (t : NameTable). t.ends) is.names ∙ ap arc_ends (sym is.model);
}

-- what a building is
pub reads-valid : (a c : Reader) (l n : Option (List ℕ)) (result : Result Building ModelFault) → ReadsBy result a c l n → IfOk result (λ b. IsValid b.model)
reads-valid a c l n (Ok b) r =
    let d = r.answer.0 in
    valid-building b d r.answer.1.0 (opening-valid (text_lines r.texts ++ []) a.number d c.number [] (r.answer.1.1 []))
reads-valid a c l n (Err f) r = tt

pub reads-names : (a c : Reader) (l n : Option (List ℕ)) (result : Result Building ModelFault) → ReadsBy result a c l n → IfOk result (λ b. NamesFit b.names b.model)
reads-names a c l n (Ok b) r = fit-building b r.answer.0 r.answer.1.0
reads-names a c l n (Err f) r = tt
