-- Text written to the front of a buffer, piece by piece, and the length of a name.
use Rattle.std.proofs.Common.{◌≡◌, ℕ, ◌+◌, ◌≤◌, List, [], ◌∷◌, ◌++◌, length, take, drop, refl, ap, ap₂, sym, subst, ◌∙◌, arith, append_assoc, length-append}
use Rattle.std.proofs.Math.Seq.{drop-append_seam, drop-append-add, take-append_seam}
use Rattle.std.proofs.lemmas.List.{drop-drop}
use Rattle.std.proofs.lemmas.Fmt.{length-decimal-le}
use Rattle.std.specs.Prelude.{codes, decimal}
use Rattle.evac_law.specs.Limits.{number_limit, floor_number_limit}
use Rattle.evac_law.specs.Names.{IsName, kind_text, name_text}
use Rattle.evac_law.specs.declared.name.Kind.{Kind}
use Rattle.evac_law.specs.declared.name.Kind.TheVariants.{Work, Hall, Stair, Lobby, Exit}
use Rattle.evac_law.specs.declared.name.NodeName.{NodeName}

-- a text of n bytes is in front, and after it what was there before
pub record IsFront (old text s : List ℕ) (n : ℕ) : Type 0 where
  pub bytes : s ≡ text ++ drop (length text) old
  pub count : n ≡ length text

-- more text after what is in front
pub front_more : (old text more s s' : List ℕ) (n m : ℕ) → IsFront old text s n → m ≡ n + length more → s' ≡ take n s ++ more ++ drop m s
    → IsFront old (text ++ more) s' m
front_more old text more s s' n m front e w =
    let rest = drop (length text) old in
    let whole : m ≡ length (text ++ more) = omega (arith, e, front.count, length-append text more) in
    let taken : take n s ≡ text = ap₂ (λ i z. take i z) front.count front.bytes ∙ take-append_seam text rest in
    let behind : m ≡ length text + length more = omega (arith, e, front.count) in
    let dropped : drop m s ≡ drop (length (text ++ more)) old =
    ap₂ (λ i z. drop i z) behind front.bytes ∙ drop-append-add text rest (length more) ∙ drop-drop (length more) (length text) old
    ∙ ap (λ i. drop i old) (sym (length-append text more)) in
    record { bytes = w ∙ ap₂ (λ a b. (a ++ more) ++ b) taken dropped; count = whole }

pub taken_front : (old text s : List ℕ) (n : ℕ) → IsFront old text s n → take n s ≡ text
taken_front old text s n front = ap₂ (λ i z. take i z) front.count front.bytes ∙ take-append_seam text (drop (length text) old)

pub behind_front : (old text s : List ℕ) (n : ℕ) → IsFront old text s n → drop n s ≡ drop n old
behind_front old text s n front = grind (arith, drop-append_seam)

-- the four pieces of a name, one after the other
pub named_front : (name : NodeName) (old s1 s2 s3 s4 k d f : List ℕ) (n1 n2 n3 n4 : ℕ)
    → k ≡ kind_text name.kind → d ≡ decimal name.number → f ≡ decimal name.floor
    → n1 ≡ 0 + length k → s1 ≡ k ++ drop n1 old
    → n2 ≡ n1 + length d → s2 ≡ take n1 s1 ++ d ++ drop n2 s1
    → n3 ≡ n2 + 1 → s3 ≡ take n2 s2 ++ (46 ∷ []) ++ drop n3 s2
    → n4 ≡ n3 + length f → s4 ≡ take n3 s3 ++ f ++ drop n4 s3
    → IsFront old (name_text name) s4 n4
unfolding name_text
named_front name old s1 s2 s3 s4 k d f n1 n2 n3 n4 ek ed ef e1 w1 e2 w2 e3 w3 e4 w4 =
    let first : IsFront old k s1 n1 = record { bytes = w1 ∙ ap (λ i. k ++ drop i old) (omega (arith, e1)); count = omega (arith, e1) } in
    let second = front_more old k d s1 s2 n1 n2 first e2 w2 in
    let third = front_more old (k ++ d) (46 ∷ []) s2 s3 n2 n3 second e3 w3 in
    let fourth = front_more old ((k ++ d) ++ 46 ∷ []) f s3 s4 n3 n4 third e4 w4 in
    let text : ((k ++ d) ++ 46 ∷ []) ++ f ≡ kind_text name.kind ++ (decimal name.number ++ (codes "." ++ decimal name.floor)) =
    append_assoc (k ++ d) (46 ∷ []) f ∙ append_assoc k d (46 ∷ f) ∙ ap₂ (λ a b. a ++ b) ek (ap₂ (λ a b. a ++ b) ed (ap (λ b. codes "." ++ b) ef)) in
    subst (λ (t : List ℕ). IsFront old t s4 n4) text fourth

pub short_number : (n : ℕ) → n ≤ number_limit → length (decimal n) ≤ 4
unfolding number_limit
short_number n l = length-decimal-le 4 n (omega arith) (omega arith) (omega arith)

pub short_floor : (n : ℕ) → n ≤ floor_number_limit → length (decimal n) ≤ 3
unfolding floor_number_limit
short_floor n l = length-decimal-le 3 n (omega arith) (omega arith) (omega arith)

pub length-kind_text : (k : Kind) → length (kind_text k) ≡ 2
length-kind_text Work = refl
length-kind_text Hall = refl
length-kind_text Stair = refl
length-kind_text Lobby = refl
length-kind_text Exit = refl

pub name_short : (name : NodeName) → IsName name → length (name_text name) ≤ 10
unfolding name_text
name_short name is = grind (arith, length-append, length-kind_text, short_number, short_floor)
