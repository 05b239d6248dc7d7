-- Parts one after the other: none has a fault, and what they have described then.
use Rattle.std.proofs.Common.{◌≡◌, ℕ, ◌<◌, Bool, true, false, ◌&&◌, ◌||◌, cond, List, [], ◌∷◌, ◌++◌, length, get_or, map, None, Some, refl, sym, ap, subst, ◌∙◌, arith, append_assoc, append-nil, length-append}
use Rattle.std.specs.declared.option.Option.{Option}
use Rattle.std.specs.List.{All, AllPairs, list_any}
use Rattle.std.proofs.Math.Seq.{get_or-append_seam}
use Rattle.std.proofs.lemmas.List.{get_or_append_left, get_or_default}
use Rattle.std.proofs.lemmas.List.Elements.{All-weaker}
use Rattle.std.proofs.lemmas.List.Folds.{list_any_none}
use Rattle.evac_law.specs.declared.code.Code.{Code}
use Rattle.evac_law.specs.declared.entrant.Entrant.{Entrant as Coming}
use Rattle.evac_law.specs.declared.model.ArcRow.{ArcRow}
use Rattle.evac_law.specs.declared.model.NodeRow.{NodeRow}
use Rattle.model_text.specs.Grammar.{SaidPart}
use Rattle.model_text.specs.Taken.{arcs_of, entrants_of, first_code, floors_of, horizon_of, nodes_of, seconds_of, part_fault, title_of}
use Rattle.model_writer.specs.Laws.{AreFine, IsSpelledPart, pushed}

-- ---- what parts have described

pub record Gathered : Type 0 where
  pub title : Option (List ℕ)
  pub seconds : Option ℕ
  pub horizon : Option ℕ
  pub floors : List (ℕ × List ℕ)
  pub nodes : List NodeRow
  pub arcs : List ArcRow
  pub entrants : List Coming

abbrev pub gathered : List SaidPart → Gathered
gathered taken = record {
  title = title_of taken;
  seconds = seconds_of taken;
  horizon = horizon_of taken;
  floors = floors_of taken;
  nodes = nodes_of taken;
  arcs = arcs_of taken;
  entrants = entrants_of taken;
}

-- one more part has no fault, and this is described then
pub record Adds (taken : List SaidPart) (s : SaidPart) (after : Gathered) : Type 0 where
  pub spelled : IsSpelledPart s
  pub none : part_fault taken s ≡ None
  pub is : gathered (s ∷ taken) ≡ after

-- none of some more parts has a fault, and this is described then
pub record AddsAll (taken ss : List SaidPart) (after : Gathered) : Type 0 where
  pub fine : AreFine taken ss
  pub is : gathered (pushed taken ss) ≡ after

pub adds-none : (taken : List SaidPart) (after : Gathered) → gathered taken ≡ after → AddsAll taken [] after
adds-none taken after is = record { fine = tt; is = is }

pub adds-more : (taken : List SaidPart) (s : SaidPart) (ss : List SaidPart) (now after : Gathered) → Adds taken s now → AddsAll (s ∷ taken) ss after → AddsAll taken (s ∷ ss) after
adds-more taken s ss now after this more = record { fine = (this.spelled, this.none, more.fine); is = more.is }

-- the same description, spelled otherwise
pub adds-is : (taken ss : List SaidPart) (now after : Gathered) → now ≡ after → AddsAll taken ss now → AddsAll taken ss after
adds-is taken ss now after e adds = record { fine = adds.fine; is = adds.is ∙ e }

pushed-append : (taken xs ys : List SaidPart) → pushed taken (xs ++ ys) ≡ pushed (pushed taken xs) ys
pushed-append taken [] ys = refl
pushed-append taken (x ∷ xs) ys = pushed-append (x ∷ taken) xs ys

fine-append : (taken xs ys : List SaidPart) → AreFine taken xs → AreFine (pushed taken xs) ys → AreFine taken (xs ++ ys)
fine-append taken [] ys f g = g
fine-append taken (x ∷ xs) ys f g = (f.0, f.1, fine-append (x ∷ taken) xs ys f.2 g)

-- some more and then others
pub adds-append : (taken xs ys : List SaidPart) (now after : Gathered) → AddsAll taken xs now
    → (gathered (pushed taken xs) ≡ now → AddsAll (pushed taken xs) ys after) → AddsAll taken (xs ++ ys) after
adds-append taken xs ys now after adds then =
    let more = then adds.is in
    record { fine = fine-append taken xs ys adds.fine more.fine; is = ap gathered (pushed-append taken xs ys) ∙ more.is }

-- the elements of a list, each after those before it
pub adds-each : {X : Type 0} (say : X → SaidPart) (at : List X → Gathered) (whole done xs : List X) (taken : List SaidPart) → done ++ xs ≡ whole → gathered taken ≡ at done
    → ((ys : List X) (x : X) (zs : List X) (before : List SaidPart) → whole ≡ ys ++ (x ∷ zs) → gathered before ≡ at ys → Adds before (say x) (at (ys ++ (x ∷ []))))
    → AddsAll taken (map say xs) (at whole)
adds-each say at whole done [] taken all is one = adds-none taken _ (is ∙ ap at (sym (append-nil done) ∙ all))
adds-each say at whole done (x ∷ xs) taken all is one =
    let this = one done x xs taken (sym all) is in
    adds-more taken (say x) (map say xs) _ _ this (adds-each say at whole (done ++ (x ∷ [])) xs (say x ∷ taken) (append_assoc done (x ∷ []) xs ∙ all) this.is one)

-- ---- checks of which none holds

abbrev pub NoneHolds : List (Bool × Code) → Type 0
NoneHolds [] = Unit {0}
NoneHolds (c ∷ cs) = (c.0 ≡ false) × NoneHolds cs

pub no-code : (cs : List (Bool × Code)) → NoneHolds cs → first_code cs ≡ None
no-code [] none = refl
no-code (c ∷ cs) none = ap (λ t. cond t (Some c.1) (first_code cs)) none.0 ∙ no-code cs none.1

pub neither : (a b : Bool) → a ≡ false → b ≡ false → a || b ≡ false
neither true b e f = cc
neither false b e f = f

pub second-fails : (a b : Bool) → b ≡ false → a && b ≡ false
second-fails true b h = h
second-fails false b h = refl

-- ---- elements that stand before another

pub before-one : {X : Type 0} (R : X → X → Type 0) (xs : List X) (y : X) (ys : List X) → AllPairs R (xs ++ (y ∷ ys)) → All (λ x. R x y) xs
before-one {X} R xs y ys pairs k d within =
    let size = length-append xs (y ∷ ys) in
    let left : get_or (xs ++ (y ∷ ys)) k d ≡ get_or xs k d = get_or_append_left xs (y ∷ ys) d k within in
    let right : get_or (xs ++ (y ∷ ys)) (length xs) d ≡ y = get_or-append_seam xs y ys d in
    let P : X → Type 0 = λ x. R (get_or (xs ++ (y ∷ ys)) k d) x in
    let Q : X → Type 0 = λ x. R x y in
    subst Q left (subst P right (pairs k (length xs) d within (omega arith)))

-- what holds of all elements of a list holds of one of them, and of those before it
pub all-one : {X : Type 0} (P : X → Type 0) (xs : List X) (y : X) (ys : List X) → All P (xs ++ (y ∷ ys)) → P y
all-one P xs y ys each = subst P (get_or-append_seam xs y ys y) (each (length xs) y (let size = length-append xs (y ∷ ys) in omega arith))

pub all-front : {X : Type 0} (P : X → Type 0) (xs ys : List X) → All P (xs ++ ys) → All P xs
all-front P xs ys each k d within = subst P (get_or_append_left xs ys d k within) (each k d (let size = length-append xs ys in omega arith))

-- none of them passes a test that fails where the relation holds
pub none-before : {X : Type 0} (R : X → X → Type 0) (p : X → Bool) (xs : List X) (y : X) (ys : List X) → ((x : X) → R x y → p x ≡ false)
    → AllPairs R (xs ++ (y ∷ ys)) → list_any p xs ≡ false
none-before R p xs y ys fails pairs = list_any_none p xs (All-weaker (λ x. R x y) (λ x. p x ≡ false) fails xs (before-one R xs y ys pairs))

-- a relation of each two elements, whatever stands past the list's end
pub all-pairs : {X : Type 0} (R : X → X → Type 0) (xs : List X) (none : X) → ((i j : ℕ) → i < j → j < length xs → R (get_or xs i none) (get_or xs j none)) → AllPairs R xs
all-pairs {X} R xs none h i j d before within =
    let first : get_or xs i none ≡ get_or xs i d = get_or_default xs i none d (omega arith) in
    let second : get_or xs j none ≡ get_or xs j d = get_or_default xs j none d within in
    let P : X → Type 0 = λ x. R (get_or xs i none) x in
    let Q : X → Type 0 = λ x. R x (get_or xs j d) in
    subst Q first (subst P second (h i j before within))
