-- The names of a model's nodes and the ends of its arcs lead back to their places.
use Rattle.std.proofs.Common.{◌≡◌, ℕ, ◌<◌, Bool, true, false, ◌&&◌, nat_eq, List, length, get_or, Some, None, refl, sym, ap, ◌∙◌, inl, inr, arith}
use Rattle.std.specs.declared.option.Option.{Option}
use Rattle.std.specs.List.{position}
use Rattle.std.proofs.lemmas.Bool.{and_from, and_parts, cases_order, eq-eqb, eqb-true}
use Rattle.std.proofs.Math.ListN.{get_or-map}
use Rattle.std.proofs.lemmas.List.{length-map}
use Rattle.std.proofs.lemmas.List.Folds.{list_any_at}
use Rattle.std.proofs.lemmas.List.Quantifiers.{position-Some}
use Rattle.evac_law.specs.declared.model.ArcRow.{ArcRow}
use Rattle.evac_law.specs.declared.model.Model.{Model}
use Rattle.evac_law.specs.declared.model.NodeRow.{NodeRow}
use Rattle.evac_law.specs.declared.name.NodeName.{NodeName}
use Rattle.evac_law.specs.Building.{IsValid, head, no_arc, no_node, node_at, tail}
use Rattle.building_table.specs.Names.{arc_ends, node_names}
use Rattle.building_table.proofs.PlaceLemmas.{place-found}
use Rattle.model_text.specs.Taken.{same_name}
use Rattle.model_text.proofs.ListFacts.{same-name-is, same-name-self}
use Rattle.block_reader.specs.Drafts.{arc_of, node_of}

-- a place that was found
found-by : {X : Type 0} (p : X → Bool) (xs : List X) (n : ℕ) (d : X) (o : Option ℕ) → position p xs ≡ o → n < length xs → p (get_or xs n d) ≡ true
    → ((k : ℕ) → k < n → p (get_or xs k d) ≡ true → ⊥) → o ≡ Some n
found-by p xs n d None e l h first = let a = place-found p xs d None (sym e) in let b = list_any_at p xs n d l h in let z : true ≡ false = sym b ∙ a in cc
found-by p xs n d (Some i) e l h first =
    let f = position-Some p xs i d e in
    elim (cases_order i n) [
      | inl q ↦ ap (λ k. Some k) q
      | inr s ↦ elim s [
        | inl less ↦ absurd (first i less f.1)
        | inr more ↦ let off = f.2 n more in let z : true ≡ false = sym h ∙ off in cc
      ]
    ]

pub position-at : {X : Type 0} (p : X → Bool) (xs : List X) (n : ℕ) (d : X) → n < length xs → p (get_or xs n d) ≡ true
    → ((k : ℕ) → k < n → p (get_or xs k d) ≡ true → ⊥) → position p xs ≡ Some n
position-at p xs n d l h first = found-by p xs n d (position p xs) refl l h first

name-at : (m : Model) (n : ℕ) → get_or (node_names m) n no_node.name ≡ (node_at m n).name
name-at m n = get_or-map (λ (x : NodeRow). x.name) m.nodes n no_node

-- a node that was found has the name
pub named : (m : Model) (name : NodeName) (n : ℕ) → node_of m name ≡ Some n → (node_at m n).name ≡ name
named m name n e =
    let p = position-Some (λ x. same_name x name) (node_names m) n no_node.name e in sym (name-at m n) ∙ same-name-is (get_or (node_names m) n no_node.name) name p.1

pub node-back : (m : Model) (n : ℕ) → IsValid m → n < length m.nodes → node_of m (node_at m n).name ≡ Some n
node-back m n valid l =
    let size : length (node_names m) ≡ length m.nodes = length-map m.nodes (λ (x : NodeRow). x.name) in
    position-at (λ x. same_name x (node_at m n).name) (node_names m) n no_node.name (omega (arith, size))
    (ap (λ x. same_name x (node_at m n).name) (name-at m n) ∙ same-name-self (node_at m n).name)
    (λ k less h. valid.names_differ k n less l (sym (name-at m k) ∙ same-name-is (get_or (node_names m) k no_node.name) (node_at m n).name h))

ends-at : (m : Model) (a : ℕ) → get_or (arc_ends m) a (no_arc.from, no_arc.to) ≡ (tail m a, head m a)
ends-at m a = get_or-map (λ (x : ArcRow). (x.from, x.to)) m.arcs a no_arc

-- an arc that was found has the ends
pub joined : (m : Model) (i j a : ℕ) → arc_of m i j ≡ Some a → (tail m a ≡ i) × (head m a ≡ j)
joined m i j a e =
    let q : ℕ × ℕ → Bool = λ x. nat_eq x.0 i && nat_eq x.1 j in
    let p = position-Some q (arc_ends m) a (no_arc.from, no_arc.to) e in
    let both = and_parts (nat_eq (tail m a) i) (nat_eq (head m a) j) (sym (ap q (ends-at m a)) ∙ p.1) in
    (eqb-true (tail m a) i both.0, eqb-true (head m a) j both.1)

pub arc-back : (m : Model) (a : ℕ) → IsValid m → a < length m.arcs → arc_of m (tail m a) (head m a) ≡ Some a
arc-back m a valid l =
    let size : length (arc_ends m) ≡ length m.arcs = length-map m.arcs (λ (x : ArcRow). (x.from, x.to)) in
    let p : ℕ × ℕ → Bool = λ e. nat_eq e.0 (tail m a) && nat_eq e.1 (head m a) in
    position-at p (arc_ends m) a (no_arc.from, no_arc.to) (omega (arith, size))
    (ap p (ends-at m a) ∙ and_from (nat_eq (tail m a) (tail m a)) (nat_eq (head m a) (head m a)) (eq-eqb (tail m a) (tail m a) refl) (eq-eqb (head m a) (head m a) refl))
    (λ k less h.
    let q = and_parts (nat_eq (tail m k) (tail m a)) (nat_eq (head m k) (head m a)) (sym (ap p (ends-at m k)) ∙ h) in
    valid.ends_differ k a less l (eqb-true (tail m k) (tail m a) q.0) (eqb-true (head m k) (head m a) q.1))
