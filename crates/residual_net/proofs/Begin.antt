-- A net of a model begins with no flow and the model's limits.
use Rattle.std.proofs.Common.{◌≡◌, ℕ, zero, suc, ◌+◌, ◌-◌, ◌*◌, ◌<◌, ◌≤◌, Bool, true, cond, ◌&&◌, ◌||◌, eqb, ltb, List, [], ◌∷◌, ◌++◌, length, length-append, map, get_or, replicate, take, take_all, append_assoc, add-one, refl, ap, ap₂, sym, ◌∙◌, arith, inl, inr, subst}
use Rattle.std.specs.List.{range_with_len}
use Rattle.std.proofs.lemmas.List.{get_or-append-add, get_or_append_left, get_or-map, get_or-replicate, length-map, length-replicate, map-append, map_more}
use Rattle.std.proofs.lemmas.List.FromFn.{get_or-range_with_len, length-map-range_with_len, length-range_with_len, map-range_with_len_more}
use Rattle.std.proofs.lemmas.Nat.{mul-add-lt}
use Rattle.std.proofs.Math.Nat.{mul_comm}
use Rattle.std.proofs.lemmas.Bool.{cases_lt, ne_eqb}
use Rattle.evac_law.specs.Entrants.{entering}
use Rattle.std.proofs.lemmas.Bool.Decides.{nat_tests}
use Rattle.evac_law.specs.declared.model.Model.{Model}
use Rattle.evac_law.specs.declared.model.NodeRow.{NodeRow}
use Rattle.evac_law.specs.declared.model.ArcRow.{ArcRow}
use Rattle.evac_law.specs.Limits as evac
use Rattle.evac_law.specs.Building.{IsValid, no_arc, no_node, arrival, capacity, rate, tail, entered_by, entry, people}
use Rattle.evac_law.specs.Names.{is_exit}
use Rattle.evac_law.specs.Sums.{below}
use Rattle.evac_law.proofs.Entries.{entered_all, exit_entry}
use Rattle.evac_law.proofs.SumLemmas as sums
use Rattle.time_expansion.specs.Limits as expansion
use Rattle.time_expansion.specs.Expansion.{Expansion, arc_cell, cells, hold_cell}
use Rattle.time_expansion.specs.declared.ends.Ends.{Ends}
use Rattle.residual_net.specs.declared.place.Place.{Place}
use Rattle.residual_net.specs.declared.place.Place.TheVariants.{Arc, Hold, Supply}
use Rattle.residual_net.specs.declared.place.Cell.{Cell}
use Rattle.residual_net.specs.declared.start.Kind.{Kind}
use Rattle.residual_net.specs.declared.start.Kind.TheVariants as kinds
use Rattle.residual_net.specs.declared.start.Opening.{Opening}
use Rattle.residual_net.specs.Limits.{supply_limit}
use Rattle.residual_net.specs.Site.{Site, IsSite, IsPlace, End_test, all_cells, arc_count, cell_of, at, exit_at, head_of, is_barred, is_door, is_source, same_place, sum_places, tail_of}
use Rattle.residual_net.specs.declared.end.End.TheVariants.{Pair, Door}
use Rattle.residual_net.specs.Network.{Network, IsKept, IsStored, no_cell, flow_at, flow_into, flow_out, limit_at, supply_limits}
use Rattle.residual_net.specs.OfModel.{IsNetOf, model_limit, site_of}
use Rattle.residual_net.specs.Start.{IsOpening, StartsAs, cell_at, emptied, is_kind, place_of, row_cells, row_of, rows_cells, start_cells}
use Rattle.residual_net.proofs.Places.{sum_places-same, sum_places-none}
use Rattle.residual_net.proofs.Held.{arrival_is, exit_is, from_is}

-- ---- the network of a valid model

abbrev pub expanded : ℕ → List Ends → ℕ → Expansion
expanded n ends horizon = record { nodes = n; ends = ends; horizon = horizon }

abbrev pub site_with : Expansion → List Bool → List ℕ → Site
site_with shape exits travels = record { shape = shape; exits = exits; travels = travels }

abbrev pub joined : ArcRow → Ends
joined a = record { from = a.from; to = a.to }

pub valid_site : (m : Model) → IsValid m → IsSite (site_of m)
unfolding cells evac.node_limit evac.arc_limit evac.horizon_limit evac.cell_limit expansion.node_limit expansion.arc_limit expansion.horizon_limit expansion.cell_limit
valid_site m valid =
    let count : length (site_of m).shape.ends ≡ length m.arcs = length-map m.arcs (λ (a : ArcRow). joined a) in
    record {
      shape = record {
        ends_in = λ i d l.
            let in_arcs : i < length m.arcs = omega (arith, count, l) in
            let arc = valid.arcs i no_arc in_arcs in
            let here : get_or (site_of m).shape.ends i d ≡ joined (get_or m.arcs i no_arc) = get_or-map (λ (a : ArcRow). joined a) m.arcs i no_arc d in_arcs in
            subst (λ (e : Ends). (e.from < length m.nodes) × (e.to < length m.nodes)) (sym here) (arc.from_in, arc.to_in);
        nodes_fit = valid.nodes_fit;
        arcs_fit = omega (arith, count, valid.arcs_fit);
        horizon_fits = omega (arith, valid.horizon);
        cells_fit = omega (arith, ap (λ n. (length m.nodes + n) * (m.horizon + 1)) count, valid.cells_fit);
      };
      exits = length-map m.nodes (λ (n : NodeRow). is_exit n.name.kind);
      travels = length-map m.arcs (λ (a : ArcRow). a.travel) ∙ sym count;
      times = λ i d l.
          let in_arcs : i < length m.arcs = omega (arith, length-map m.arcs (λ (a : ArcRow). a.travel), l) in
          let here = get_or-map (λ (a : ArcRow). a.travel) m.arcs i no_arc d in_arcs in
          rw here (valid.arcs i no_arc in_arcs).travel_fits;
      from_no_exit = λ a l.
          let in_arcs : a < length m.arcs = omega (arith, count, l) in
          let arc = valid.arcs a no_arc in_arcs in
          ap (exit_at (site_of m)) (from_is m a in_arcs) ∙ exit_is m (tail m a) arc.from_in ∙ arc.from_no_exit;
    }

pub shape_made : (m : Model) (shape : Expansion) (n : ℕ) (ends : List Ends) → shape ≡ expanded n ends m.horizon → n ≡ length m.nodes
    → ends ≡ map (λ (a : ArcRow). joined a) m.arcs → shape ≡ (site_of m).shape
shape_made m shape n ends e f g = grind (arith, ends)

pub site_made : (m : Model) (shape : Expansion) (exits : List Bool) (travels : List ℕ) → shape ≡ (site_of m).shape
    → exits ≡ map (λ (r : NodeRow). is_exit r.name.kind) m.nodes → travels ≡ map (λ (a : ArcRow). a.travel) m.arcs
    → site_with shape exits travels ≡ site_of m
site_made m shape exits travels e f g = grind arith

-- ---- the places of a row at the moments so far

-- the moment of a place
abbrev place_moment : Place → ℕ
place_moment (Arc n t) = t
place_moment (Hold n t) = t
place_moment (Supply n t) = t

step_test : (a n s t : ℕ) → (eqb a n && ltb s (t + 1)) ≡ ((eqb n a && eqb t s) || (eqb a n && ltb s t))
step_test a n s t = grind (arith, nat_tests)

abbrev pub row_so_far : Kind → ℕ → ℕ → Place → Bool
row_so_far k n t q = (is_kind k q && eqb (row_of q) n) && ltb (place_moment q) t

pub row_step : (k : Kind) (n t : ℕ) (q : Place) → row_so_far k n (t + 1) q ≡ (same_place (place_of k n t) q || row_so_far k n t q)
row_step kinds.Arc n t (Arc a s) = step_test a n s t
row_step kinds.Hold n t (Hold a s) = step_test a n s t
row_step kinds.Supply n t (Supply a s) = step_test a n s t
row_step _ n t _ = refl

-- ---- the cells of a model

pub row_more : (xs : List Cell) (m : Model) (k : Kind) (n t : ℕ)
    → (xs ++ map (cell_at m k n) (below t)) ++ cell_at m k n t ∷ [] ≡ xs ++ map (cell_at m k n) (below (t + 1))
row_more xs m k n t =
    append_assoc xs (map (cell_at m k n) (below t)) (cell_at m k n t ∷ [])
    ∙ ap (λ z. xs ++ z) (sym (map-range_with_len_more (cell_at m k n) 0 t t (omega arith)))

-- cells that are all the same
same_cells : (f : ℕ → Cell) (x : Cell) (n a : ℕ) → ((t : ℕ) → a ≤ t → t < a + n → f t ≡ x) → map f (range_with_len a n) ≡ replicate n x
same_cells f x zero a same = refl
same_cells f x (suc n) a same =
    ap₂ (λ (y : Cell) (l : List Cell). y ∷ l) (same a (omega arith) (omega arith)) (same_cells f x n (a + 1) (λ t l h. same t (omega (arith, l)) (omega (arith, h))))

-- a row, stretch by stretch
row_split : (f : ℕ → Cell) (b n a : ℕ) → map f (range_with_len a (b + n)) ≡ map f (range_with_len a b) ++ map f (range_with_len (a + b) n)
row_split f zero n a = let none : zero + n ≡ n = omega arith in let here : a + zero ≡ a = omega arith in rw (none, here) refl
row_split f (suc b) n a =
    let one : suc b + n ≡ suc (b + n) = omega arith in
    let next : (a + 1) + b ≡ a + suc b = omega arith in
    ap (λ i. map f (range_with_len a i)) one ∙ ap (λ (l : List Cell). f a ∷ l) (row_split f b n (a + 1))
    ∙ ap (λ i. f a ∷ (map f (range_with_len (a + 1) b) ++ map f (range_with_len i n))) next

-- a row that opens with one limit
pub row_opened : (xs ys zs : List Cell) (m : Model) (k : Kind) (n : ℕ) (o : Opening) → IsOpening m k n o
    → ys ≡ xs ++ replicate o.moments (record { flow = 0; limit = o.limit }) → zs ≡ ys ++ replicate ((m.horizon + 1) - o.moments) (record { flow = 0; limit = 0 })
    → zs ≡ xs ++ row_cells m k n
row_opened xs ys zs m k n o is first later =
    let f = cell_at m k n in
    let rest = (m.horizon + 1) - o.moments in
    let whole : o.moments + rest ≡ m.horizon + 1 = omega (arith, is.moments) in
    let from : o.moments ≡ 0 + o.moments = omega arith in
    let one : map f (range_with_len 0 o.moments) ≡ replicate o.moments (record { flow = 0; limit = o.limit }) =
    same_cells f (record { flow = 0; limit = o.limit }) o.moments 0 (λ t l h. ap (λ (i : ℕ). record { flow = 0; limit = i }) (is.first t (omega (arith, h)))) in
    let two : map f (range_with_len o.moments rest) ≡ replicate rest (record { flow = 0; limit = 0 }) =
    same_cells f (record { flow = 0; limit = 0 }) rest o.moments (λ t l h. ap (λ (i : ℕ). record { flow = 0; limit = i }) (is.later t l (omega (arith, h, whole)))) in
    later ∙ ap (λ l. l ++ replicate rest (record { flow = 0; limit = 0 })) first ∙ append_assoc xs _ _
    ∙ ap₂ (λ (l r : List Cell). xs ++ (l ++ r)) (sym one) (sym two)
    ∙ ap (λ i. xs ++ (map f (range_with_len 0 o.moments) ++ map f (range_with_len i rest))) from
    ∙ ap (λ (l : List Cell). xs ++ l) (sym (row_split f o.moments rest 0) ∙ ap (λ i. map f (range_with_len 0 i)) whole)

pub supply_opening : (m : Model) (n limit : ℕ) → m.entrants ≡ [] → limit ≡ entry m n 0 → IsOpening m kinds.Supply n (record { moments = 1; limit = limit })
unfolding entering
supply_opening m n limit none same = grind (arith, ne_eqb)

pub rows_more : (xs : List Cell) (m : Model) (k : Kind) (n : ℕ) → (xs ++ rows_cells m k n) ++ row_cells m k n ≡ xs ++ rows_cells m k (n + 1)
rows_more xs m k n = append_assoc xs (rows_cells m k n) (row_cells m k n) ∙ ap (λ z. xs ++ rows_cells m k z) (sym (add-one n))

rows_count : (m : Model) (k : Kind) (n : ℕ) → length (rows_cells m k n) ≡ n * (m.horizon + 1)
rows_count m k zero = omega arith
rows_count m k (suc n) =
    omega (arith, length-append (rows_cells m k n) (row_cells m k n), rows_count m k n, length-map-range_with_len (cell_at m k n) 0 (m.horizon + 1))

pub cells_count : (m : Model) → length (start_cells m) ≡ all_cells (site_of m)
unfolding all_cells cells
cells_count m =
    let arcs = rows_cells m kinds.Arc (length m.arcs) in
    let holds = rows_cells m kinds.Hold (length m.nodes) in
    let supplies = rows_cells m kinds.Supply (length m.nodes) in
    let ends = ap (λ n. (length m.nodes + n) * (m.horizon + 1)) (length-map m.arcs (λ (a : ArcRow). joined a)) in
    omega (
      arith,
      length-append (arcs ++ holds) supplies,
      length-append arcs holds,
      rows_count m kinds.Arc (length m.arcs),
      rows_count m kinds.Hold (length m.nodes),
      rows_count m kinds.Supply (length m.nodes),
      ends,
    )

at_row : (m : Model) (k : Kind) (count n t : ℕ) → n < count → t ≤ m.horizon
    → get_or (rows_cells m k count) (n * (m.horizon + 1) + t) no_cell ≡ cell_at m k n t
at_row m k zero n t i l = absurd (omega arith)
at_row m k (suc c) n t i l = elim (cases_lt n c) [
  | inl less ↦
      let inside : n * (m.horizon + 1) + t < length (rows_cells m k c) =
      omega (arith, rows_count m k c, mul-add-lt n (m.horizon + 1) t c less (omega arith), mul_comm (m.horizon + 1) c) in
      get_or_append_left (rows_cells m k c) (row_cells m k c) no_cell _ inside ∙ at_row m k c n t less l
  | inr last ↦
      let same : n ≡ c = omega arith in
      let here : n * (m.horizon + 1) + t ≡ length (rows_cells m k c) + t = omega (arith, rows_count m k c, ap (λ z. z * (m.horizon + 1)) same) in
      ap (λ z. get_or (rows_cells m k c ++ row_cells m k c) z no_cell) here
      ∙ get_or-append-add (rows_cells m k c) (row_cells m k c) t no_cell
      ∙ get_or-map (cell_at m k c) (below (m.horizon + 1)) t 0 no_cell (omega (arith, length-range_with_len 0 (m.horizon + 1)))
      ∙ ap (cell_at m k c) (omega (arith, get_or-range_with_len 0 (m.horizon + 1) t 0 (omega arith)))
      ∙ ap (λ z. cell_at m k z t) (sym same)
]

-- the cell of each place has no flow and the model's limit
cell_is : (m : Model) (p : Place) → IsPlace (site_of m) p
    → get_or (start_cells m) (cell_of (site_of m) p) no_cell ≡ record { flow = 0; limit = model_limit m p }
unfolding cell_of arc_cell hold_cell cells
cell_is m p i = by_place p i
  where
    arcs : List Cell
    arcs = rows_cells m kinds.Arc (length m.arcs)

    holds : List Cell
    holds = rows_cells m kinds.Hold (length m.nodes)

    supplies : List Cell
    supplies = rows_cells m kinds.Supply (length m.nodes)

    ends : length (site_of m).shape.ends ≡ length m.arcs
    ends = length-map m.arcs (λ (a : ArcRow). joined a)

    both : length (arcs ++ holds) ≡ (length m.nodes + length m.arcs) * (m.horizon + 1)
    both = omega (arith, length-append arcs holds, rows_count m kinds.Arc (length m.arcs), rows_count m kinds.Hold (length m.nodes))

    by_place : (p : Place) → IsPlace (site_of m) p → get_or (start_cells m) (cell_of (site_of m) p) no_cell ≡ record { flow = 0; limit = model_limit m p }
    by_place (Arc a t) i =
        let inside : a * (m.horizon + 1) + t < length arcs =
        omega (arith, rows_count m kinds.Arc (length m.arcs), mul-add-lt a (m.horizon + 1) t (length m.arcs) (omega (arith, i.0, ends)) (omega arith), mul_comm (m.horizon + 1) (length m.arcs)) in
        get_or_append_left (arcs ++ holds) supplies no_cell _ (omega (arith, inside, length-append arcs holds))
        ∙ get_or_append_left arcs holds no_cell _ inside
        ∙ at_row m kinds.Arc (length m.arcs) a t (omega (arith, i.0, ends)) i.1
    by_place (Hold n t) i =
        let inside = mul-add-lt n (m.horizon + 1) t (length m.nodes) i.0 (omega arith) in
        let here : (length (site_of m).shape.ends + n) * (m.horizon + 1) + t ≡ length arcs + (n * (m.horizon + 1) + t) =
        omega (arith, rows_count m kinds.Arc (length m.arcs), ap (λ z. (z + n) * (m.horizon + 1)) ends) in
        ap (λ z. get_or (start_cells m) z no_cell) here
        ∙ get_or_append_left (arcs ++ holds) supplies no_cell _
        (omega (arith, inside, mul_comm (m.horizon + 1) (length m.nodes), length-append arcs holds, rows_count m kinds.Hold (length m.nodes)))
        ∙ get_or-append-add arcs holds (n * (m.horizon + 1) + t) no_cell
        ∙ at_row m kinds.Hold (length m.nodes) n t i.0 i.1
    by_place (Supply n t) i = grind (arith, arcs, holds, both, ends, get_or-append-add, supplies, at_row)

emptied_row : (f : ℕ → ℕ) (ts : List ℕ) → emptied (map (λ t. record { flow = 0; limit = f t }) ts) ≡ map (λ t. record { flow = 0; limit = f t }) ts
emptied_row f [] = refl
emptied_row f (t ∷ ts) = ap (λ (z : List Cell). record { flow = 0; limit = f t } ∷ z) (emptied_row f ts)

emptied_both : (xs ys : List Cell) → emptied xs ≡ xs → emptied ys ≡ ys → emptied (xs ++ ys) ≡ xs ++ ys
emptied_both xs ys e f = map-append (λ (c : Cell). record { flow = 0; limit = c.limit }) xs ys ∙ ap₂ (λ (u v : List Cell). u ++ v) e f

emptied_rows : (m : Model) (k : Kind) (n : ℕ) → emptied (rows_cells m k n) ≡ rows_cells m k n
emptied_rows m k zero = refl
emptied_rows m k (suc n) =
    emptied_both (rows_cells m k n) (row_cells m k n) (emptied_rows m k n)
    (emptied_row (λ t. model_limit m (place_of k n t)) (below (m.horizon + 1)))

pub starts_as : (m : Model) → IsValid m → StartsAs m (record { site = site_of m; cells = start_cells m; saved = emptied (start_cells m) })
unfolding flow_at limit_at
starts_as m valid =
    let arcs = rows_cells m kinds.Arc (length m.arcs) in
    let holds = rows_cells m kinds.Hold (length m.nodes) in
    let both = emptied_both arcs holds (emptied_rows m kinds.Arc (length m.arcs)) (emptied_rows m kinds.Hold (length m.nodes)) in
    let same = emptied_both (arcs ++ holds) (rows_cells m kinds.Supply (length m.nodes)) both (emptied_rows m kinds.Supply (length m.nodes)) in
    record {
      grid = record { site = valid_site m valid; full = cells_count m; saved_full = ap length same ∙ cells_count m };
      of = record { site = refl; limits = λ p i. ap (λ (c : Cell). c.limit) (cell_is m p i) };
      flows = λ p i. ap (λ (c : Cell). c.flow) (cell_is m p i);
      saved = ap (λ (z : List Cell). record { site = site_of m; cells = z; saved = emptied (start_cells m) }) same;
    }

pub starts_made : (m : Model) (w : Network) (s : Site) (xs : List Cell) → IsValid m → w ≡ record { site = s; cells = xs; saved = emptied xs } → s ≡ site_of m
    → xs ≡ start_cells m → StartsAs m w
starts_made m w s xs valid e f g = rw (e, f, g) (starts_as m valid)

pub cells_made : (m : Model) (none xs ys zs : List Cell) (a n : ℕ) → none ≡ [] → xs ≡ none ++ rows_cells m kinds.Arc a → ys ≡ xs ++ rows_cells m kinds.Hold n
    → zs ≡ ys ++ rows_cells m kinds.Supply n → a ≡ length m.arcs → n ≡ length m.nodes → zs ≡ start_cells m
cells_made m none xs ys zs a n e f g h i j = rw (h, g, f, e, i, j) refl

-- ---- a net with no flow

sums_none : (w : Network) → ((p : Place) → IsPlace w.site p → flow_at w p ≡ 0) → (b : Place → Bool) → sum_places w.site (λ p. cond (b p) (flow_at w p) 0) ≡ 0
sums_none w h b = sum_places-same w.site _ (λ _. 0) (λ p i. ap (λ z. cond (b p) z 0) (h p i) ∙ sums.cond_nothing (b p)) ∙ sum_places-none w.site

into_none : (w : Network) → ((p : Place) → IsPlace w.site p → flow_at w p ≡ 0) → (e : End_test) → flow_into w e ≡ 0
unfolding flow_into
into_none w h e = sums_none w h (λ p. e (head_of w.site p))

out_none : (w : Network) → ((p : Place) → IsPlace w.site p → flow_at w p ≡ 0) → (e : End_test) → flow_out w e ≡ 0
unfolding flow_out
out_none w h e = sums_none w h (λ p. e (tail_of w.site p))

-- the entries up to the horizon are those who come in by then, and in a valid model all people
entries_enter : (m : Model) (nodes horizon : ℕ) → nodes ≡ length m.nodes → horizon ≡ m.horizon
    → sums.sum2 nodes (horizon + 1) (entry m) ≡ entered_by m m.horizon
unfolding entered_by
entries_enter m nodes horizon e f = ap₂ (λ y z. sums.sum2 y (z + 1) (entry m)) e f

pub entries_are_people : (m : Model) (nodes horizon : ℕ) → IsValid m → nodes ≡ length m.nodes → horizon ≡ m.horizon
    → sums.sum2 nodes (horizon + 1) (entry m) ≡ people m
entries_are_people m nodes horizon valid e f = entries_enter m nodes horizon e f ∙ entered_all m valid

people_fit : (n : ℕ) → n ≤ evac.people_limit → n ≤ supply_limit
unfolding evac.people_limit supply_limit
people_fit n l = omega (arith, l)

-- the supplies of a model's net are those who come in by its horizon, and in a valid model all people
pub supplies_enter : (m : Model) (w : Network) → IsNetOf m w → supply_limits w ≡ entered_by m m.horizon
unfolding supply_limits sum_places
supplies_enter m w of =
    let k = w.site.shape.horizon + 1 in
    let same = sums.sum2-same_in w.site.shape.nodes k (λ n t. limit_at w (Supply n t)) (entry m) (λ n t i j. of.limits (Supply n t) (i, omega (arith, j))) in
    omega (
      arith,
      sums.sum2-nothing (arc_count w.site) k,
      sums.sum2-nothing w.site.shape.nodes k,
      same,
      entries_enter m w.site.shape.nodes w.site.shape.horizon (ap (λ (s : Site). s.shape.nodes) of.site) (ap (λ (s : Site). s.shape.horizon) of.site),
    )

pub supplies_are_people : (m : Model) (w : Network) → IsValid m → IsNetOf m w → supply_limits w ≡ people m
supplies_are_people m w valid of = supplies_enter m w of ∙ entered_all m valid

pub supplies_fit : (m : Model) (w : Network) → IsValid m → IsNetOf m w → supply_limits w ≤ supply_limit
supplies_fit m w valid of = people_fit _ (omega (arith, supplies_are_people m w valid of, valid.people_fit))

-- a barred place has the limit 0
pub barred_limit : (m : Model) (p : Place) → IsValid m → IsPlace (site_of m) p → is_barred (site_of m) p ≡ true → model_limit m p ≡ 0
barred_limit m (Arc a t) valid i b =
    let in_arcs : a < length m.arcs = omega (arith, length-map m.arcs (λ (r : ArcRow). joined r), i.0) in
    let late : ltb m.horizon (arrival m a t) ≡ true = ap (λ z. ltb m.horizon z) (sym (arrival_is m a t in_arcs)) ∙ b in
    ap (λ z. cond z 0 (rate m a t)) late
barred_limit m (Hold n t) valid i b =
    let node = valid.nodes n no_node i.0 in
    by_last (eqb t m.horizon) (exit_at (site_of m) n) (capacity m n) b (λ e. node.exit_is_empty (sym (exit_is m n i.0) ∙ e))
  where
    by_last : (last exit : Bool) (c : ℕ) → (exit || last) ≡ true → (exit ≡ true → c ≡ 0) → cond last 0 c ≡ 0
    by_last last exit c e h = grind arith
barred_limit m (Supply n t) valid i b = grind (arith, exit_entry, exit_is)

pub empty_stored : (m : Model) (w : Network) (arrivals : List ℕ) → IsValid m → StartsAs m w → arrivals ≡ replicate (m.horizon + 1) 0 → IsStored w arrivals
empty_stored m w arrivals valid h e =
    let horizon : w.site.shape.horizon ≡ m.horizon = ap (λ (s : Site). s.shape.horizon) h.of.site in
    record {
      net = record {
        site = h.grid.site;
        full = h.grid.full;
        conserved = record {
          pairs = λ n t. into_none w h.flows (at (Pair n t)) ∙ sym (out_none w h.flows (at (Pair n t)));
          sent = into_none w h.flows is_door ∙ sym (out_none w h.flows is_source);
        };
        barred = λ p i b. (
          h.flows p i,
          h.of.limits p i ∙ barred_limit m p valid (subst (λ s. IsPlace s p) h.of.site i) (subst (λ s. is_barred s p ≡ true) h.of.site b),
        );
        supplies = supplies_fit m w valid h.of;
        few_sent = omega (arith, out_none w h.flows is_source);
      };
      moments = ap length e ∙ length-replicate (m.horizon + 1) 0 ∙ ap (λ z. z + 1) (sym horizon);
      totals = λ j l.
          ap (λ z. get_or z j 0) e ∙ get_or-replicate (m.horizon + 1) j 0 0 (omega (arith, horizon, l)) ∙ sym (into_none w h.flows (at (Door j)));
    }

pub empty_kept : (m : Model) (w : Network) (arrivals saved : List ℕ) → IsValid m → StartsAs m w → arrivals ≡ replicate (m.horizon + 1) 0
    → saved ≡ replicate (m.horizon + 1) 0 → IsKept w arrivals saved (people m) (people m)
empty_kept m w arrivals saved valid h e f = record {
  stored = empty_stored m w arrivals valid h e;
  saved = subst (λ (z : Network). IsStored z saved) (sym h.saved) (empty_stored m w saved valid h f);
  counted = sym (supplies_are_people m w valid h.of);
  saved_counted = sym (ap supply_limits h.saved ∙ supplies_are_people m w valid h.of);
}

-- once one more is added, a list has what one more of the first of some list are made into
pub map_pushed : {X Y : Type 0} (f : X → Y) (xs : List X) (i : ℕ) (d : X) {y : Y} {made new : List Y} → y ≡ f (get_or xs i d) → made ≡ map f (take i xs)
    → new ≡ made ++ y ∷ [] → i < length xs → new ≡ map f (take (i + 1) xs)
map_pushed f xs i d here is pushed below =
    let more = map_more f xs i d below in
    cc

-- and when it has those of all, it has what the whole list is made into
pub map_ended : {X Y : Type 0} (f : X → Y) (xs ys : List X) (i : ℕ) {made : List Y} → made ≡ map f (take i xs) → xs ≡ ys → length xs ≤ i → made ≡ map f ys
map_ended f xs ys i is same ended =
    let all = take_all i xs ended in
    cc
