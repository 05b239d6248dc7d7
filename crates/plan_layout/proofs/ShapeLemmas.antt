-- The arcs that leave a node, in the network of a model, and models of one site.
use Rattle.std.proofs.Common.{◌≡◌, ℕ, ◌^◌, ◌<◌, ◌≤◌, Bool, eqb, ap₂, subst, map, ◌∙◌, List, [], ◌∷◌, length, get_or, refl, ap, sym, arith}
use Rattle.std.specs.List.{filter}
use Rattle.std.proofs.lemmas.List.{get_or-map, length-map}
use Rattle.std.proofs.lemmas.List.FromFn.{length-range_with_len}
use Rattle.std.proofs.lemmas.List.Sums.{count_by-le-length, length-filter}
use Rattle.evac_law.specs.declared.model.Model.{Model}
use Rattle.evac_law.specs.declared.model.ArcRow.{ArcRow}
use Rattle.evac_law.specs.Building.{IsValid, no_arc, tail}
use Rattle.evac_law.specs.Limits.{arc_limit}
use Rattle.evac_law.specs.Shapes.{HasSameShape, way_of_row}
use Rattle.evac_law.specs.Sums.{below}
use Rattle.evac_law.specs.Limits as evac
use Rattle.time_expansion.specs.Limits as time
use Rattle.time_expansion.specs.declared.ends.Ends.{Ends}
use Rattle.time_expansion.specs.Expansion.{Expansion, IsExpansion, arcs_from, arcs_to, cells, from_at, no_ends, to_at}
use Rattle.time_expansion.proofs.Lists as lists
use Rattle.plan_layout.specs.Layouts.{IsSameSite, ends_of, shape_of}

arcs_same : (m : Model) → length (shape_of m).ends ≡ length m.arcs
arcs_same m = length-map m.arcs ends_of

from_is : (m : Model) (a : ℕ) → a < length m.arcs → from_at (shape_of m) a ≡ tail m a
from_is m a l = ap (λ z. z.from) (get_or-map ends_of m.arcs a no_arc no_ends l)

pub listed_arc : (m : Model) (n i : ℕ) → i < length (arcs_from (shape_of m) n)
    → (get_or (arcs_from (shape_of m) n) i 0 < length m.arcs) × (tail m (get_or (arcs_from (shape_of m) n) i 0) ≡ n)
listed_arc m n i l =
    let here = lists.arc_out (shape_of m) n i 0 l in
    let inside : get_or (arcs_from (shape_of m) n) i 0 < length m.arcs = omega (arith, here.0, arcs_same m) in
    (inside, sym (from_is m (get_or (arcs_from (shape_of m) n) i 0) inside) ∙ here.1)

pub listed_arc_to : (m : Model) (n i : ℕ) → i < length (arcs_to (shape_of m) n) → get_or (arcs_to (shape_of m) n) i 0 < length m.arcs
listed_arc_to m n i l = let here = lists.arc_into (shape_of m) n i 0 l in omega (arith, here.0, arcs_same m)

pub arc_listed : (m : Model) (n a : ℕ) → a < length m.arcs → tail m a ≡ n
    → (i : ℕ) × (i < length (arcs_from (shape_of m) n)) × (get_or (arcs_from (shape_of m) n) i 0 ≡ a)
arc_listed m n a l e = lists.out_listed (shape_of m) n a (omega (arith, l, arcs_same m)) (from_is m a l ∙ e)

-- ---- the network of a valid model

nodes_fit : (n : ℕ) → n ≤ evac.node_limit → n ≤ time.node_limit
unfolding evac.node_limit time.node_limit
nodes_fit n l = l

arcs_fit : (n : ℕ) → n ≤ evac.arc_limit → n ≤ time.arc_limit
unfolding evac.arc_limit time.arc_limit
arcs_fit n l = l

horizon_fits : (n : ℕ) → n ≤ evac.horizon_limit → n ≤ time.horizon_limit
unfolding evac.horizon_limit time.horizon_limit
horizon_fits n l = omega (arith, l)

cells_fit : (n : ℕ) → n ≤ evac.cell_limit → n ≤ time.cell_limit
unfolding evac.cell_limit time.cell_limit
cells_fit n l = omega (arith, l)

pub valid_shape : (m : Model) → IsValid m → IsExpansion (shape_of m)
unfolding cells
valid_shape m valid = record {
  ends_in = λ i d l.
      let in_arcs : i < length m.arcs = omega (arith, arcs_same m, l) in
      let arc = valid.arcs i no_arc in_arcs in
      let here : get_or (shape_of m).ends i d ≡ ends_of (get_or m.arcs i no_arc) = get_or-map ends_of m.arcs i no_arc d in_arcs in
      subst (λ (e : Ends). (e.from < length m.nodes) × (e.to < length m.nodes)) (sym here) (arc.from_in, arc.to_in);
  nodes_fit = nodes_fit _ valid.nodes_fit;
  arcs_fit = arcs_fit _ (omega (arith, arcs_same m, valid.arcs_fit));
  horizon_fits = horizon_fits _ valid.horizon;
  cells_fit = cells_fit _ (rw (arcs_same m) valid.cells_fit);
}

abbrev pub shape_with : ℕ → List Ends → ℕ → Expansion
shape_with n ends horizon = record { nodes = n; ends = ends; horizon = horizon }

pub shape_made : (m : Model) (n : ℕ) (ends : List Ends) (arcs : List ArcRow) → n ≡ length m.nodes → arcs ≡ m.arcs → ends ≡ map ends_of arcs
    → shape_with n ends m.horizon ≡ shape_of m
shape_made m n ends arcs a b c = ap₂ (λ x y. shape_with x y m.horizon) a (c ∙ ap (map ends_of) b)

-- few arcs leave a node, and few enter it
few_arcs : (m : Model) (test : ℕ → Bool) → IsValid m → length (filter test (below (length (shape_of m).ends))) < 2 ^ 11
unfolding arc_limit
few_arcs m test valid = grind (arith, length-filter, count_by-le-length, length-range_with_len, arcs_same)

pub few_from : (m : Model) (n : ℕ) → IsValid m → length (arcs_from (shape_of m) n) < 2 ^ 11
unfolding arcs_from
few_from m n valid = few_arcs m (λ a. eqb (from_at (shape_of m) a) n) valid

pub few_to : (m : Model) (n : ℕ) → IsValid m → length (arcs_to (shape_of m) n) < 2 ^ 11
unfolding arcs_to
few_to m n valid = few_arcs m (λ a. eqb (to_at (shape_of m) a) n) valid

-- ---- models of one shape are of one site

end_of_way : ℕ × ℕ × ℕ → Ends
end_of_way w = record { from = w.0; to = w.1 }

ends_by_way : (arcs : List ArcRow) → map ends_of arcs ≡ map end_of_way (map way_of_row arcs)
unfolding end_of_way
ends_by_way [] = refl
ends_by_way (a ∷ arcs) = ap (λ (l : List Ends). ends_of a ∷ l) (ends_by_way arcs)

pub site_of_shape : (m o : Model) → HasSameShape o m → IsSameSite m o
site_of_shape m o h = grind (arith, length-map, ends_by_way, end_of_way)
