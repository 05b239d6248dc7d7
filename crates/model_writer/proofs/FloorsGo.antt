-- Floors one after the other.
use Rattle.std.proofs.Common.{◌≡◌, ◌≢◌, ℕ, ◌<◌, ◌≤◌, false, ◌==◌, nat_le, List, [], ◌∷◌, ◌++◌, length, map, ap, subst, ◌∙◌, arith, length-append, refl}
use Rattle.std.specs.List.{All, AllPairs, list_any}
use Rattle.std.proofs.lemmas.Bool.{lt-leb, ne_eqb}
use Rattle.evac_law.specs.Limits.{floor_limit, floor_number_limit}
use Rattle.model_text.specs.Grammar.{SaidPart, IsSaidPart, Floor}
use Rattle.model_text.specs.Taken.{part_checks, part_fault}
use Rattle.model_text.proofs.ListFacts.{any-map}
use Rattle.model_writer.specs.Laws.{IsText}
use Rattle.model_writer.specs.ModelText.{floor_said}
use Rattle.model_writer.proofs.Adding.{Adds, AddsAll, Gathered, adds-each, all-one, gathered, no-code, none-before}

-- what a floor's line may say
pub record IsFloor (f : ℕ × List ℕ) : Type 0 where
  pub number : f.0 ≤ floor_number_limit
  pub some : 0 < length f.1
  pub text : IsText f.1

abbrev pub FloorsDiffer : ℕ × List ℕ → ℕ × List ℕ → Type 0
FloorsDiffer f g = f.0 ≢ g.0

floor-new : (done : List (ℕ × List ℕ)) (f : ℕ × List ℕ) (fs : List (ℕ × List ℕ)) → AllPairs FloorsDiffer (done ++ (f ∷ fs))
    → list_any (λ x. x == f.0) (map (λ (g : ℕ × List ℕ). g.0) done) ≡ false
floor-new done f fs differ =
    any-map (λ x. x == f.0) (λ (g : ℕ × List ℕ). g.0) done ∙ none-before FloorsDiffer (λ g. g.0 == f.0) done f fs (λ g apart. ne_eqb g.0 f.0 apart) differ

floor-adds : (g : Gathered) (done : List (ℕ × List ℕ)) (f : ℕ × List ℕ) (fs : List (ℕ × List ℕ)) (taken : List SaidPart) → gathered taken ≡ record g { floors = done }
    → IsFloor f → AllPairs FloorsDiffer (done ++ (f ∷ fs)) → length (done ++ (f ∷ fs)) ≤ floor_limit → Adds taken (floor_said f) (record g { floors = done ++ (f ∷ []) })
unfolding part_fault
floor-adds g done f fs taken is ok differ few =
    let size = length-append done (f ∷ fs) in
    let said : IsSaidPart (Floor f.0 f.1) = (ok.number, ok.some) in
    record {
      spelled = (said, ok.text);
      none = no-code (part_checks taken (floor_said f)) (
        ap (λ (x : Gathered). list_any (λ n. n == f.0) (map (λ (h : ℕ × List ℕ). h.0) x.floors)) is ∙ floor-new done f fs differ,
        (ap (λ (x : Gathered). nat_le floor_limit (length x.floors)) is ∙ lt-leb floor_limit (length done) (omega arith), tt),
      );
      is = ap (λ (x : Gathered). record x { floors = x.floors ++ (f ∷ []) }) is;
    }

-- floors that differ from one another
pub floors-go : (g : Gathered) (fs : List (ℕ × List ℕ)) (taken : List SaidPart) → gathered taken ≡ record g { floors = [] } → All IsFloor fs → AllPairs FloorsDiffer fs → length fs ≤ floor_limit
    → AddsAll taken (map floor_said fs) (record g { floors = fs })
floors-go g fs taken is ok differ few =
    let P : List (ℕ × List ℕ) → Type 0 = λ l. All IsFloor l × AllPairs FloorsDiffer l × (length l ≤ floor_limit) in
    adds-each floor_said (λ l. record g { floors = l }) fs [] fs taken refl is (λ done f rest before split at.
    let k = subst P split (ok, differ, few) in floor-adds g done f rest before at (all-one IsFloor done f rest k.0) k.1 k.2)
