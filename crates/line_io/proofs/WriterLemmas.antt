-- What a writer writes, text after text.
use Rattle.std.proofs.Common.{◌≡◌, ℕ, ◌+◌, ◌<◌, Bool, true, false, cond, List, [], ◌∷◌, ◌++◌, length, take, get_or, refl, sym, ap, ◌∙◌, subst}
use Rattle.std.specs.List.{flat_map}
use Rattle.std.proofs.lemmas.Bool.{false≢true}
use Rattle.evac_law.specs.Sums.{below}
use Rattle.evac_law.proofs.PartLemmas.{flat_map-more as below-more}
use Rattle.line_io.specs.Causes.{Count, Rose}
use Rattle.line_io.specs.Text.{fields, line_text}
use Rattle.line_io.specs.Writer.{PutsFront, Writes}
use Rattle.line_io.specs.declared.outside.Sink.{Ghosts}
use Rattle.line_io.specs.declared.writer.Writer.{Writer}
use Rattle.line_io.proofs.TextLemmas.{flat_map-more, front-more, front-then, puts-none, puts-then}

-- a writer whose sink didn't fail by now hadn't failed before
unfailed : {S : Type 0} {k : Ghosts S} {a b : Writer S} {t : List ℕ} → Writes k a t b → b.failed ≡ false → a.failed ≡ false
unfailed {S} {k} {a} {b} h e = by a.failed refl
  where
    by : (x : Bool) → a.failed ≡ x → a.failed ≡ false
    by true f = absurd (false≢true (sym e ∙ ap (λ (w : Writer S). w.failed) (h.stays f) ∙ f))
    by false f = f

-- one text, and another after it
pub writes_then : {S : Type 0} {k : Ghosts S} {a b c : Writer S} {t u : List ℕ}
    → Writes k a t b → Writes k b u c → Writes k a (t ++ u) c
writes_then {S} {k} {a} {b} {c} {t} {u} h g = record {
  whole = λ fa fc. puts-then (h.whole fa (unfailed g fc)) (g.whole (unfailed g fc) fc);
  front = λ fa fc. front-by fa fc b.failed refl;
  same = λ fc. g.same fc ∙ h.same (unfailed g fc);
  rose = λ fa fc. rose-by fa fc b.failed refl;
  stays = λ fa. g.stays (ap (λ (w : Writer S). w.failed) (h.stays fa) ∙ fa) ∙ h.stays fa;
  same_out = g.same_out ∙ h.same_out;
  same_sink = g.same_sink ∙ h.same_sink;
}
  where
    front-by : a.failed ≡ false → c.failed ≡ true → (x : Bool) → b.failed ≡ x → PutsFront (k.held a.sink.now) a.out.now (t ++ u) (k.held c.sink.now) c.out.now
    front-by fa fc true e = subst (λ (w : Writer S). PutsFront (k.held a.sink.now) a.out.now (t ++ u) (k.held w.sink.now) w.out.now) (sym (g.stays e)) (front-more u (h.front fa e))
    front-by fa fc false e = front-then (h.whole fa e) (g.front e fc)

    rose-by : a.failed ≡ false → c.failed ≡ true → (x : Bool) → b.failed ≡ x → Rose (k.faults a.sink.now) (k.faults c.sink.now)
    rose-by fa fc true e = subst (λ (w : Writer S). Rose (k.faults a.sink.now) (k.faults w.sink.now)) (sym (g.stays e)) (h.rose fa e)
    rose-by fa fc false e = subst (λ (n : Count). Rose n (k.faults c.sink.now)) (h.same e) (g.rose e fc)

-- the same text, spelled otherwise
pub writes_is : {S : Type 0} {k : Ghosts S} {a b : Writer S} {t u : List ℕ} → t ≡ u → Writes k a t b → Writes k a u b
writes_is {S} {k} {a} {b} e h = subst (λ (l : List ℕ). Writes k a l b) e h

-- a line that says these fields
pub writes_line : {S : Type 0} {k : Ghosts S} {a b : Writer S} {line : List ℕ} (fs : List (List ℕ))
    → line ≡ fields fs → Writes k a (line ++ (10 ∷ [])) b → Writes k a (line_text fs) b
writes_line fs e h = writes_is (ap (λ l. l ++ (10 ∷ [])) e) h

-- no text
pub writes_none : {S : Type 0} {k : Ghosts S} (a : Writer S) → Writes k a [] a
writes_none {S} {k} a = record {
  whole = λ fa fc. puts-none (k.held a.sink.now) a.out.now;
  front = λ fa fc. absurd (false≢true (sym fa ∙ fc));
  same = λ fc. refl;
  rose = λ fa fc. absurd (false≢true (sym fa ∙ fc));
  stays = λ fa. refl;
  same_out = refl;
  same_sink = refl;
}

-- the text of one more element of a list
pub writes_each : {S : Type 0} {k : Ghosts S} {X : Type 0} (f : X → List ℕ) (xs : List X) (i : ℕ) (none : X) {a b c : Writer S}
    → i < length xs → Writes k a (flat_map f (take i xs)) b → Writes k b (f (get_or xs i none)) c → Writes k a (flat_map f (take (i + 1) xs)) c
writes_each f xs i none h before this = writes_is (flat_map-more f xs i none h) (writes_then before this)

-- the text of one more number below another
pub writes_part : {S : Type 0} {k : Ghosts S} (f : ℕ → List ℕ) (i : ℕ) {a b c : Writer S}
    → Writes k a (flat_map f (below i)) b → Writes k b (f i) c → Writes k a (flat_map f (below (i + 1))) c
writes_part f i before this = writes_is (sym (below-more f i)) (writes_then before this)

-- a text that isn't put, since its test failed
pub writes_omitted : {S : Type 0} {k : Ghosts S} (b : Bool) (t : List ℕ) (a : Writer S) → b ≡ false → Writes k a (cond b t []) a
writes_omitted b t a e = writes_is (ap (λ x. cond x t []) (sym e)) (writes_none a)
