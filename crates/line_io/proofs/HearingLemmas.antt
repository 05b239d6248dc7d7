-- Listening, line by line.
use Rattle.std.proofs.Common.{◌≡◌, ℕ, ◌+◌, false, List, [], ◌∷◌, ◌++◌, length, Result, Ok, Err, Some, None, inl, inr, refl, sym, ap, subst, ◌∙◌, arith, append-nil, append_assoc}
use Rattle.std.specs.declared.option.Option.{Option}
use Rattle.std.proofs.lemmas.List.{length-append}
use Rattle.evac_law.specs.declared.code.Code.TheVariants as codes
use Rattle.line_io.specs.Causes.{Count, Rose, unlimited}
use Rattle.line_io.specs.Hearing.{EndsBy, Hearing, HearsAll, IsCaused, Rests, Listens}
use Rattle.line_io.specs.Line.{Line, text_lines}
use Rattle.line_io.specs.Passes.{Follows, IsLeft, Passes}
use Rattle.line_io.specs.Reader.{Answers, IsLast, is_settled, lines_left}
use Rattle.line_io.specs.View.{Reader}
use Rattle.line_io.specs.declared.hearing.Heard.{Heard}
use Rattle.line_io.specs.declared.hearing.Heard.TheVariants.{More}
use Rattle.line_io.specs.declared.hearing.Ending.{Ending}
use Rattle.line_io.specs.declared.hearing.Ending.TheVariants.{Finished, Failed, InputEnded, Fault}
use Rattle.line_io.specs.declared.lines.LineFault.{LineFault}
use Rattle.line_io.specs.declared.lines.LineFault.TheVariants.{ReadFault, LineTooLong, InputTooLong}
use Rattle.line_io.proofs.LineLemmas.{text_lines-push}
use Rattle.line_io.proofs.PassLemmas.{passes-none, passes-then, left-by, pending-fault}

-- the same answer, by equal words
pub hears-so : {S F : Type 0} (hears : Hearing S F) (s s' : S) (k k' : ℕ) (t t' : List ℕ) (r r' : Result Heard F) → k ≡ k' → t ≡ t' → r ≡ r' → hears s k t r s' → hears s k' t' r' s'
hears-so hears s s' k k' t t' r r' e f g h = grind arith

-- ---- some lines, and one more

pub goes-none : {S F : Type 0} (hears : Hearing S F) (s : S) (n : ℕ) → HearsAll hears s n [] s
unfolding HearsAll
goes-none hears s n = refl

pub goes-push : {S F : Type 0} (hears : Hearing S F) (s mid s' : S) (n k : ℕ) (texts : List (List ℕ)) (text : List ℕ) → HearsAll hears s n texts mid → k ≡ n + length texts + 1
    → hears mid k text (Ok More) s' → HearsAll hears s n (texts ++ (text ∷ [])) s'
unfolding HearsAll
goes-push hears s mid s' n k [] text g at h = grind arith
goes-push hears s mid s' n k (t ∷ ts) text g at h =
    (g.0, g.1, goes-push hears g.0 mid s' (n + 1) k ts text g.2 (omega (arith, at)) h)

-- ---- lines so far

-- a state went on from the lines that a reader went by
pub record Went {S F : Type 0} (hears : Hearing S F) (from at : S) (a b : Reader) (l m : Option (List ℕ)) : Type 0 where
  pub texts : List (List ℕ)
  pub goes : HearsAll hears from a.number texts at
  pub passes : Passes a b l m texts

pub went-none : {S F : Type 0} (hears : Hearing S F) (s : S) (a : Reader) (l : Option (List ℕ)) → Went hears s s a a l l
went-none hears s a l = record { texts = []; goes = goes-none hears s a.number; passes = passes-none a l }

-- the number of the line after some lines
next-number : (a b c : Reader) (l m n : Option (List ℕ)) (texts : List (List ℕ)) (t : List ℕ) → Passes a b l m texts → Passes b c m n (t ∷ []) → c.number ≡ a.number + length texts + 1
next-number a b c l m n texts t p q = omega (arith, p.number, q.number)

pub went-more : {S F : Type 0} (hears : Hearing S F) (from at to : S) (a b c : Reader) (l m n : Option (List ℕ)) → Went hears from at a b l m → Passes b c m n (c.text ∷ [])
    → hears at c.number c.text (Ok More) to → Went hears from to a c l n
went-more hears from at to a b c l m n w p h = record {
  texts = w.texts ++ (c.text ∷ []);
  goes = goes-push hears from at to a.number c.number w.texts c.text w.goes (next-number a b c l m n w.texts c.text w.passes p) h;
  passes = passes-then a b c l m n w.texts (c.text ∷ []) w.passes p;
}

-- ---- the ends

left-lines : Option (List Line) → List Line
left-lines None = []
left-lines (Some lines) = lines

left-so : (x y : Option (List Line)) → IsLeft x y (left-lines y)
unfolding left-lines
left-so None y = tt
left-so (Some a) None = tt
left-so (Some a) (Some b) = refl

left-from : (texts : List (List ℕ)) (x y z : Option (List Line)) (rest : List Line) → Follows texts x y → IsLeft y z rest → IsLeft x z rest
left-from texts None y z rest f h = tt
left-from texts (Some a) None z rest f h = absurd f
left-from texts (Some a) (Some b) None rest f h = tt
left-from texts (Some a) (Some b) (Some c) rest f h = h

-- it listened up to its end
listens-by : {S F : Type 0} (hears : Hearing S F) (ending : Ending F) (from at to : S) (a b c : Reader) (l m n : Option (List ℕ)) (w : Went hears from at a b l m) (last : List (List ℕ)) (rest : List Line)
    → Passes b c m n last → EndsBy hears ending at (a.number + length w.texts) last rest to → IsLeft (lines_left a l) (lines_left c n) rest → Rests ending c
    → Listens hears ending from to a c l n
listens-by hears ending from at to a b c l m n w last rest p ends left rests = record {
  texts = w.texts;
  last = last;
  rest = rest;
  at = at;
  goes = w.goes;
  ends = ends;
  passes = passes-then a b c l m n w.texts last w.passes p;
  is_left = left;
  rests = rests;
}

-- a line ended it
pub listens-line : {S F : Type 0} (hears : Hearing S F) (ending : Ending F) (result : Result Heard F) (from at to : S) (a b c : Reader) (l m n : Option (List ℕ)) → Went hears from at a b l m
    → Passes b c m n (c.text ∷ []) → hears at c.number c.text result to
    → ((before : ℕ) (rest : List Line) → hears at (before + 1) c.text result to → EndsBy hears ending at before (c.text ∷ []) rest to) → Rests ending c
    → Listens hears ending from to a c l n
listens-line hears ending result from at to a b c l m n w p h ends rests =
    let is = subst (λ (k : ℕ). hears at k c.text result to) (next-number a b c l m n w.texts c.text w.passes p) h in
    listens-by hears ending from at to a b c l m n w (c.text ∷ []) (left-lines (lines_left c n)) p (ends _ _ is) (left-so (lines_left a l) (lines_left c n)) rests

-- it ended where there was no line
pub listens-none : {S F : Type 0} (hears : Hearing S F) (ending : Ending F) (from at : S) (a b c : Reader) (l m n : Option (List ℕ)) (rest : List Line) (w : Went hears from at a b l m) → Passes b c m n []
    → IsLeft (lines_left b m) (lines_left c n) rest → EndsBy hears ending at (a.number + length w.texts) [] rest at → Rests ending c → Listens hears ending from at a c l n
listens-none hears ending from at a b c l m n rest w p left ends rests =
    listens-by hears ending from at at a b c l m n w [] rest p ends (left-from w.texts (lines_left a l) (lines_left b m) (lines_left c n) rest w.passes.follows left) rests

-- the source failed, or the next line has a fault
pub listens-fault : {S F : Type 0} (hears : Hearing S F) (from at : S) (fault : LineFault) (a b c : Reader) (l m n : Option (List ℕ)) → Went hears from at a b l m → Passes b c m n []
    → Answers (Err fault) c.text (lines_left b m) (lines_left c n) → IsLast (Err fault) c → (fault ≡ ReadFault → is_settled c ≡ false) → Listens {F = F} hears (Fault fault) from at a c l n
listens-fault hears from at ReadFault a b c l m n w p answers stays open_line =
    listens-none hears (Fault ReadFault) from at a b c l m n (left-lines (lines_left c n)) w p (left-so (lines_left b m) (lines_left c n)) (refl, refl) (open_line refl)
listens-fault hears from at LineTooLong a b c l m n w p answers stays open_line =
    listens-none hears (Fault LineTooLong) from at a b c l m n (Err codes.LineTooLong ∷ []) w p
    (left-by (Err LineTooLong) c.text _ (λ x y h. h.1 ∙ h.0) _ _ answers) (refl, refl, refl) (pending-fault LineTooLong c stays)
listens-fault hears from at InputTooLong a b c l m n w p answers stays open_line =
    listens-none hears (Fault InputTooLong) from at a b c l m n (Err codes.InputTooLong ∷ []) w p
    (left-by (Err InputTooLong) c.text _ (λ x y h. h.1 ∙ h.0) _ _ answers) (refl, refl, refl) (pending-fault InputTooLong c stays)

-- ---- what lines mean

-- where each line that a state goes on from leads to the meaning of those after it, so do all of them
pub goes-meant : {S F X R : Type 0} (hears : Hearing S F) (Is : S → X → Type 0) (meaning : X → ℕ → List Line → R)
    → ((s s' : S) (x : X) (n : ℕ) (t : List ℕ) → Is s x → hears s (n + 1) t (Ok More) s' → (y : X) × Is s' y × ((rest : List Line) → meaning x n (Ok t ∷ rest) ≡ meaning y (n + 1) rest))
    → (s s' : S) (x : X) (n : ℕ) (texts : List (List ℕ)) → Is s x → HearsAll hears s n texts s'
    → (y : X) × Is s' y × ((rest : List Line) → meaning x n (text_lines texts ++ rest) ≡ meaning y (n + length texts) rest)
unfolding HearsAll
goes-meant hears Is meaning one s s' x n [] is g = let at : n ≡ n + 0 = omega arith in (x, subst (λ (z : _). Is z x) (sym g) is, λ rest. ap (λ k. meaning x k rest) at)
goes-meant hears Is meaning one s s' x n (t ∷ ts) is g =
    let first = one s g.0 x n t is g.1 in
    let more = goes-meant hears Is meaning one g.0 s' first.0 (n + 1) ts first.1 g.2 in
    let at : n + 1 + length ts ≡ n + length (t ∷ ts) = omega arith in
    (more.0, more.1, λ rest. first.2 (text_lines ts ++ rest) ∙ more.2 rest ∙ ap (λ k. meaning more.0 k rest) at)

-- ---- the source's faults

pub caused-rose : {F : Type 0} (ending : Ending F) (before now : Count) → ending ≡ Fault ReadFault → IsCaused ending before now → Rose before now
caused-rose {F} ending before now is h = let P : Ending F → Type 0 = λ e. IsCaused e before now in subst P is h

pub caused-same : {F : Type 0} (ending : Ending F) (before now : Count) → (ending ≡ Fault ReadFault → ⊥) → IsCaused ending before now → now ≡ before
caused-same Finished before now other h = h
caused-same (Failed f) before now other h = h
caused-same InputEnded before now other h = h
caused-same (Fault LineTooLong) before now other h = h
caused-same (Fault InputTooLong) before now other h = h
caused-same (Fault ReadFault) before now other h = absurd (other refl)

-- a count without a last value that stayed 0 didn't rise
pub never-rose : Rose (unlimited 0) (unlimited 0) → ⊥
never-rose rose = elim rose.greater as (λ _. ⊥) [ inl less ↦ omega (arith, less) | inr some ↦ cc ]

pub rests-open : {F : Type 0} (ending : Ending F) (r : Reader) → ending ≡ Fault ReadFault → Rests ending r → is_settled r ≡ false
rests-open {F} ending r is h = let P : Ending F → Type 0 = λ e. Rests e r in subst P is h

-- ---- what listening means

-- the meaning of the lines from which a state went on, with those that follow, is that of a place
pub record Comes {S X R : Type 0} (Is : S → X → Type 0) (meaning : X → ℕ → List Line → R) (x : X) (n : ℕ) (texts : List (List ℕ)) (at : S) : Type 0 where
  pub place : X
  pub is : Is at place
  pub means : (rest : List Line) → meaning x n (text_lines texts ++ rest) ≡ meaning place (n + length texts) rest

-- one line from which a state goes on leads from a place to a place
abbrev pub GoesOn : {S F X R : Type 0} → Hearing S F → (S → X → Type 0) → (X → ℕ → List Line → R) → Type 0
GoesOn {S} {F} {X} hears Is meaning =
    (s s' : S) (x : X) (n : ℕ) (t : List ℕ) → Is s x → hears s (n + 1) t (Ok More) s' → (y : X) × Is s' y × ((rest : List Line) → meaning x n (Ok t ∷ rest) ≡ meaning y (n + 1) rest)

pub comes : {S F X R : Type 0} (hears : Hearing S F) (Is : S → X → Type 0) (meaning : X → ℕ → List Line → R) → GoesOn hears Is meaning
    → {ending : Ending F} {from to : S} {a c : Reader} {l n : Option (List ℕ)} (h : Listens hears ending from to a c l n) (x : X) → Is from x → Comes Is meaning x a.number h.texts h.at
comes hears Is meaning one {ending} {from} {to} {a} h x start =
    let g = goes-meant hears Is meaning one from h.at x a.number h.texts start h.goes in
    record { place = g.0; is = g.1; means = g.2 }

pub last-number : {S F : Type 0} {hears : Hearing S F} {ending : Ending F} {from to : S} {a c : Reader} {l n : Option (List ℕ)} (h : Listens hears ending from to a c l n) (t : List ℕ) → h.last ≡ t ∷ []
    → a.number + length h.texts + 1 ≡ c.number
last-number h t is = omega (arith, h.passes.number, length-append h.texts h.last, ap length is)

-- with the line that it answered last
pub means-last : {S F X R : Type 0} {hears : Hearing S F} (Is : S → X → Type 0) (meaning : X → ℕ → List Line → R) {ending : Ending F} {from to : S} {a c : Reader} {l n : Option (List ℕ)}
    (h : Listens hears ending from to a c l n) (x : X) (w : Comes Is meaning x a.number h.texts h.at) (t : List ℕ) → h.last ≡ t ∷ [] → (rest : List Line)
    → meaning x a.number (text_lines (h.texts ++ h.last) ++ rest) ≡ meaning w.place (a.number + length h.texts) (Ok t ∷ rest)
means-last Is meaning {ending} {from} {to} {a} h x w t is rest =
    ap (λ z. meaning x a.number (text_lines (h.texts ++ z) ++ rest)) is
    ∙ ap (meaning x a.number) (ap (λ z. z ++ rest) (text_lines-push h.texts t) ∙ append_assoc (text_lines h.texts) (Ok t ∷ []) rest)
    ∙ w.means (Ok t ∷ rest)

-- where it answered none last
pub means-rest : {S F X R : Type 0} {hears : Hearing S F} (Is : S → X → Type 0) (meaning : X → ℕ → List Line → R) {ending : Ending F} {from to : S} {a c : Reader} {l n : Option (List ℕ)}
    (h : Listens hears ending from to a c l n) (x : X) (w : Comes Is meaning x a.number h.texts h.at) → h.last ≡ [] → (rest : List Line)
    → meaning x a.number (text_lines (h.texts ++ h.last) ++ rest) ≡ meaning w.place c.number rest
means-rest Is meaning {ending} {from} {to} {a} {c} h x w is rest = grind (arith, length-append, is, append-nil)
