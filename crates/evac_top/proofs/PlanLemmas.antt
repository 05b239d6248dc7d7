-- The block of a session with what is asked for after it.
use Rattle.std.proofs.Common.{IfSome, ◌≡◌, ℕ, List, [], ◌++◌, false, Some, None, is_some, ap, append-nil, arith, refl, sym, subst, ◌∙◌}
use Rattle.std.specs.declared.option.Option.{Option}
use Rattle.std.proofs.lemmas.Grind.{common_steps}
use Rattle.building_table.specs.Names.{NameTable}
use Rattle.edit_session.specs.Sessions.{SessionState}
use Rattle.session_text.specs.StateTexts.{block_text}
use Rattle.evac_top.specs.Solve.{SaysAsked, SaysPlan, Where}
use Rattle.evac_top.specs.Words.{asking}

-- ---- what is asked for

pub where-some : {A : Type 0} (o : Option A) (x : A) (Says : List ℕ → Type 0) (text : List ℕ) → o ≡ Some x → Says text → Where (is_some o) Says text
where-some {A} o x Says text e h = subst (λ (z : Option A). Where (is_some z) Says text) (sym e) h

pub where-none : {A : Type 0} (o : Option A) (Says : List ℕ → Type 0) → o ≡ None → Where (is_some o) Says []
where-none {A} o Says e = subst (λ (z : Option A). Where (is_some z) Says []) (sym e) refl

pub some-holds : {A : Type 0} (o : Option A) (x : A) (P : A → Type 0) → o ≡ Some x → IfSome o P → P x
some-holds {A} o x P e h = subst (λ (z : Option A). IfSome z P) e h

-- ---- what isn't asked for

-- with no flag nothing comes after the block
none-asked : (s : SessionState) (text : List ℕ) → SaysAsked (asking false false) s text → text ≡ []
none-asked s text h = grind (arith, common_steps)

pub block-alone : (names : NameTable) (s : SessionState) (text : List ℕ) → SaysPlan (asking false false) names s text → text ≡ block_text 0 s
block-alone names s text h =
    let b = block_text 0 s in
    h.parts ∙ ap (λ t. b ++ t ++ h.reports) (none-asked s h.asked h.says_asked) ∙ ap (λ t. b ++ [] ++ t) h.says_reports
    ∙ append-nil (b ++ []) ∙ append-nil b
