-- The reader takes the entries of each block of a model, and has that block then.
use Rattle.std.proofs.Common.{◌≡◌, ℕ, ◌+◌, ◌<◌, ◌≤◌, suc, Bool, true, false, not, ◌&&◌, ◌||◌, cond, nat_eq, nat_le, nat_lt, List, [], ◌∷◌, ◌++◌, length, get_or, map, Some, None, refl, sym, subst, ap, ◌∙◌, inl, inr, arith, append_assoc, append-nil, length-append}
use Rattle.std.specs.declared.option.Option.{Option}
use Rattle.std.specs.List.{All, AllPairs, enumerate_from, flat_map}
use Rattle.std.specs.Option.{option_and_then}
use Rattle.std.proofs.lemmas.Bool.{and_from, cases_eq, eq-eqb, le-leb, lt-ltb, or_left, or_right}
use Rattle.std.proofs.lemmas.List.{get_or_append_left, get_or-append-add}
use Rattle.evac_law.specs.declared.model.Model.{Model}
use Rattle.evac_law.specs.declared.plan.Move.{Move}
use Rattle.evac_law.specs.Building.{IsValid, head, is_exit_at, node_at, tail}
use Rattle.evac_law.specs.LabelTable.{label_at}
use Rattle.evac_law.specs.Stands.{Before, IsOrdered}
use Rattle.evac_law.specs.Sums.{below}
use Rattle.evac_law.proofs.PartLemmas.{flat_map-suc}
use Rattle.evac_law.proofs.ValidLemmas.{head_in, tail_in}
use Rattle.certificate_text.specs.declared.block.Block.{Block}
use Rattle.certificate_text.specs.declared.entry.Entry.TheVariants as entries
use Rattle.block_reader.specs.declared.run.Run.{Run}
use Rattle.block_reader.specs.declared.stage.Stage.TheVariants as stages
use Rattle.certificate_text.specs.Block.{HasAllLabels, IsBlockOf}
use Rattle.certificate_text.specs.BlockEntries.{entries_of, label_entries, label_entry_at, entry_of_move, node_entries, out_entries}
use Rattle.certificate_text.specs.BlockText.{begins_run}
use Rattle.block_reader.specs.DraftFacts.{all_runs, node_runs, run_parts}
use Rattle.block_reader.specs.Drafts.{Draft, IsStated, arc_of, follows_move, follows_run, is_curve, is_empty, is_full, is_lists, is_move, last_of, arc_between, no_draft, node_of, run_label, with_entry}
use Rattle.block_reader.proofs.LastLemmas.{last-in}
use Rattle.block_reader.proofs.PlacesBack.{arc-back, node-back}
use Rattle.block_reader.proofs.RunOrder.{last-before, runs-follow}
use Rattle.block_reader.proofs.Runs.{exit-given, parts-more, runs-given}
use Rattle.block_reader.proofs.Walks.{walk, walk-below, walk-next, walk-none, walk-one, walk-then}

-- ---- the curve

abbrev pub with_outs : Draft → List ℕ → Draft
with_outs d outs = record d { outs = outs }

pub out-taken : (m : Model) (d : Draft) (xs : List ℕ) (y : ℕ) → is_lists d.stage ≡ true → length xs ≤ d.cleared → with_entry m (with_outs d xs) (entries.Out (length xs) y) ≡ Some (with_outs d (xs ++ (y ∷ [])))
unfolding with_entry
out-taken m d xs y lists l = grind (arith, and_from, eq-eqb, le-leb)

outs-walk : (m : Model) (d : Draft) (xs ys : List ℕ) → is_lists d.stage ≡ true → length xs + length ys ≤ d.cleared + 1
    → walk m (with_outs d xs) (map (λ (o : ℕ × ℕ). entries.Out o.0 o.1) (enumerate_from (length xs) ys)) ≡ Some (with_outs d (xs ++ ys))
outs-walk m d xs [] lists few = walk-none m (with_outs d xs) ∙ ap (λ o. Some (with_outs d o)) (sym (append-nil xs))
outs-walk m d xs (y ∷ ys) lists few =
    let size : length (xs ++ (y ∷ [])) ≡ length xs + 1 = length-append xs (y ∷ []) in
    walk-next m (with_outs d xs) (with_outs d (xs ++ (y ∷ []))) (with_outs d (xs ++ (y ∷ ys))) (entries.Out (length xs) y) _ (out-taken m d xs y lists (omega (arith, few)))
    (ap (λ k. walk m (with_outs d (xs ++ (y ∷ []))) (map (λ (o : ℕ × ℕ). entries.Out o.0 o.1) (enumerate_from k ys))) (sym size)
    ∙ outs-walk m d (xs ++ (y ∷ [])) ys lists (omega (arith, size, few)) ∙ ap (λ o. Some (with_outs d o)) (append_assoc xs (y ∷ []) ys))

-- ---- labels

-- the curve stands, and no move
pub record IsCurve (m : Model) (d : Draft) : Type 0 where
  pub curve : is_curve d ≡ true
  pub no_moves : is_empty d.moves ≡ true

-- a label of each node that is no exit before c is at most c
abbrev pub AreFit : Model → ℕ → (ℕ → ℕ → ℕ) → Type 0
AreFit m c f = (n t : ℕ) → n < length m.nodes → is_exit_at m n ≡ false → t < c → f n t ≤ c

abbrev with_runs : Draft → List Run → Draft
with_runs d rs = record d { runs = rs }

-- a label that may stand there is taken
pub label-taken : (m : Model) (d : Draft) (n t v : ℕ) → IsValid m → IsCurve m d → n < length m.nodes → is_exit_at m n ≡ false → t < d.cleared → v ≤ d.cleared
    → follows_run m (last_of d.runs) n t v ≡ true
    → with_entry m d (entries.Label (node_at m n).name t v) ≡ Some (record d { runs = d.runs ++ (record { node = n; moment = t; label = v } ∷ []) })
unfolding with_entry
label-taken m d n t v valid curve a e b l f = grind (arith, and_from, lt-ltb, le-leb, node-back)

moment-by : (m : Model) (f : ℕ → ℕ → ℕ) (d : Draft) (n t : ℕ) (w : Bool) → IsValid m → IsCurve m d → AreFit m d.cleared f → n < length m.nodes → is_exit_at m n ≡ false → t < d.cleared
    → begins_run (f n) t ≡ w
    → walk m (with_runs d (all_runs m f d.cleared n ++ run_parts f n t)) (cond w (entries.Label (node_at m n).name t (f n t) ∷ []) [])
    ≡ Some (with_runs d (all_runs m f d.cleared n ++ run_parts f n (suc t)))
moment-by m f d n t true valid curve fit a e b begins =
    let rs = all_runs m f d.cleared n in
    let ps = run_parts f n t in
    let r : Run = record { node = n; moment = t; label = f n t } in
    walk-one m _ (with_runs d ((rs ++ ps) ++ (r ∷ []))) _
    (label-taken m (with_runs d (rs ++ ps)) n t (f n t) valid (record { curve = curve.curve; no_moves = curve.no_moves }) a e b (fit n t a e b) (runs-follow m f d.cleared n t b begins))
    ∙ ap (λ x. Some (with_runs d x)) (append_assoc rs ps (r ∷ []) ∙ ap (λ y. rs ++ y) (sym (parts-more f n t true begins)))
moment-by m f d n t false valid curve fit a e b begins =
    walk-none m _ ∙ ap (λ y. Some (with_runs d (all_runs m f d.cleared n ++ y))) (sym (parts-more f n t false begins ∙ append-nil (run_parts f n t)))

node-by : (m : Model) (f : ℕ → ℕ → ℕ) (d : Draft) (n : ℕ) (w : Bool) → IsValid m → IsCurve m d → AreFit m d.cleared f → n < length m.nodes → is_exit_at m n ≡ w
    → walk m (with_runs d (all_runs m f d.cleared n)) (cond w [] (flat_map (label_entry_at m f n) (below d.cleared))) ≡ Some (with_runs d (all_runs m f d.cleared (suc n)))
node-by m f d n true valid curve fit a e =
    let c = d.cleared in
    walk-none m _
    ∙ ap (λ x. Some (with_runs d x)) (sym (flat_map-suc (node_runs m f c) n ∙ ap (λ b. all_runs m f c n ++ cond b [] (run_parts f n c)) e ∙ append-nil (all_runs m f c n)))
node-by m f d n false valid curve fit a e =
    let c = d.cleared in
    let s : ℕ → Draft = λ t. with_runs d (all_runs m f c n ++ run_parts f n t) in
    ap (λ rs. walk m (with_runs d rs) (flat_map (label_entry_at m f n) (below c))) (sym (append-nil (all_runs m f c n)))
    ∙ walk-below m s (label_entry_at m f n) c (λ t b. moment-by m f d n t (begins_run (f n) t) valid curve fit a e b refl)
    ∙ ap (λ x. Some (with_runs d x)) (sym (flat_map-suc (node_runs m f c) n ∙ ap (λ b. all_runs m f c n ++ cond b [] (run_parts f n c)) e))

labels-walk : (m : Model) (f : ℕ → ℕ → ℕ) (d : Draft) → IsValid m → IsCurve m d → AreFit m d.cleared f
    → walk m (with_runs d []) (label_entries m f d.cleared) ≡ Some (with_runs d (all_runs m f d.cleared (length m.nodes)))
labels-walk m f d valid curve fit =
    walk-below m (λ n. with_runs d (all_runs m f d.cleared n)) (node_entries m f d.cleared) (length m.nodes) (λ n a. node-by m f d n (is_exit_at m n) valid curve fit a refl)

-- ---- moves

abbrev with_moves : Draft → List Move → Draft
with_moves d vs = record d { moves = vs }

before-follows : (q x : Move) → Before q x → follows_move (Some q) x.moment x.arc ≡ true
before-follows q x (inl l) = or_left (nat_lt q.moment x.moment) (nat_eq q.moment x.moment && nat_lt q.arc x.arc) (lt-ltb q.moment x.moment l)
before-follows q x (inr h) = grind (arith, or_right, and_from, eq-eqb, lt-ltb)

last-follows : (xs : List Move) (x : Move) (o : Option Move) → last_of xs ≡ o → All (λ v. Before v x) xs → follows_move o x.moment x.arc ≡ true
last-follows xs x None e h = refl
last-follows xs x (Some q) e h = before-follows q x (last-in (λ v. Before v x) xs q h e)

-- what stands before one in order
all-earlier : (xs ys : List Move) (y : Move) → AllPairs Before (xs ++ (y ∷ ys)) → All (λ v. Before v y) xs
all-earlier xs ys y pairs = λ k d l.
    let size = length-append xs (y ∷ ys) in
    let P : Move → Move → Type 0 = Before in
    let here : get_or (xs ++ (y ∷ ys)) (length xs + 0) d ≡ y = get_or-append-add xs (y ∷ ys) 0 d in
    let pair = pairs k (length xs + 0) d (omega (arith, l)) (omega (arith, size)) in
    subst (λ (v : Move). P v y) (get_or_append_left xs (y ∷ ys) d k l) (subst (λ (v : Move). P (get_or (xs ++ (y ∷ ys)) k d) v) here pair)

-- what holds of each holds of one of them
all-here : (P : Move → Type 0) (xs ys : List Move) (y : Move) → All P (xs ++ (y ∷ ys)) → P y
all-here P xs ys y all = let size = length-append xs (y ∷ ys) in subst P (get_or-append-add xs (y ∷ ys) 0 y) (all (length xs + 0) y (omega (arith, size)))

move-taken : (m : Model) (d : Draft) (xs ys : List Move) (y : Move) → IsValid m → is_full m d ≡ true → IsOrdered (length m.arcs) m.horizon (xs ++ (y ∷ ys))
    → with_entry m (with_moves d xs) (entry_of_move m y) ≡ Some (with_moves d (xs ++ (y ∷ [])))
unfolding with_entry
move-taken m d xs ys y valid full ordered =
    let next : ℕ → Draft = λ a. with_moves d (xs ++ (record { moment = y.moment; arc = a; people = y.people } ∷ [])) in
    let put : ℕ → Option Draft = λ a. cond (is_move m (with_moves d xs) y.moment a y.people) (Some (next a)) None in
    let in_range = all-here (λ (v : Move). (v.arc < length m.arcs) × (v.moment ≤ m.horizon)) xs ys y ordered.in_range in
    let some = all-here (λ (v : Move). 0 < v.people) xs ys y ordered.somebody in
    let test : is_move m (with_moves d xs) y.moment y.arc y.people ≡ true =
    and_from (not (is_empty xs) || is_full m (with_moves d xs)) _ (or_right (not (is_empty xs)) (is_full m d) full)
    (and_from (nat_le y.moment m.horizon) _ (le-leb y.moment m.horizon in_range.1)
    (and_from (nat_lt 0 y.people) _ (lt-ltb 0 y.people some) (last-follows xs y (last_of xs) refl (all-earlier xs ys y ordered.sorted)))) in
    let named : arc_between m (node_at m (tail m y.arc)).name (node_at m (head m y.arc)).name ≡ Some y.arc =
    ap (option_and_then (λ i. option_and_then (λ j. arc_of m i j) (node_of m (node_at m (head m y.arc)).name))) (node-back m (tail m y.arc) valid (tail_in m y.arc valid in_range.0))
    ∙ ap (option_and_then (λ j. arc_of m (tail m y.arc) j)) (node-back m (head m y.arc) valid (head_in m y.arc valid in_range.0))
    ∙ arc-back m y.arc valid in_range.0 in
    ap (option_and_then put) named ∙ ap (λ b. cond b (Some (next y.arc)) None) test

moves-walk : (m : Model) (d : Draft) (xs ys : List Move) → IsValid m → is_full m d ≡ true → IsOrdered (length m.arcs) m.horizon (xs ++ ys)
    → walk m (with_moves d xs) (map (entry_of_move m) ys) ≡ Some (with_moves d (xs ++ ys))
moves-walk m d xs [] valid full ordered = walk-none m (with_moves d xs) ∙ ap (λ v. Some (with_moves d v)) (sym (append-nil xs))
moves-walk m d xs (y ∷ ys) valid full ordered =
    walk-next m (with_moves d xs) (with_moves d (xs ++ (y ∷ []))) (with_moves d (xs ++ (y ∷ ys))) (entry_of_move m y) (map (entry_of_move m) ys) (move-taken m d xs ys y valid full ordered)
    (moves-walk m d (xs ++ (y ∷ [])) ys valid full (subst (λ (v : List Move). IsOrdered (length m.arcs) m.horizon v) (sym (append_assoc xs (y ∷ []) ys)) ordered)
    ∙ ap (λ v. Some (with_moves d v)) (append_assoc xs (y ∷ []) ys))

-- ---- the whole block

abbrev pub block_draft : Model → Block → Draft
block_draft m b = record {
  stage = stages.Lists;
  index = b.index;
  people = b.people;
  cleared = b.cleared;
  outs = b.outs;
  runs = all_runs m (label_at b.labels) b.cleared (length m.nodes);
  moves = b.moves;
}

block-curve : (m : Model) (b : Block) → IsBlockOf m b → is_curve (block_draft m b) ≡ true
block-curve m b of = eq-eqb (length b.outs) (b.cleared + 1) of.outs_full

pub block-full : (m : Model) (b : Block) → IsBlockOf m b → is_full m (block_draft m b) ≡ true
block-full m b of = grind (arith, and_from, block-curve, cases_eq, or_left, eq-eqb, or_right, last-before)

heads-walk : (m : Model) (index people cleared : ℕ) → cleared ≤ m.horizon
    → walk m no_draft (entries.Index index ∷ entries.People people ∷ entries.Cleared cleared ∷ [])
    ≡ Some (record { stage = stages.Lists; index = index; people = people; cleared = cleared; outs = []; runs = []; moves = [] })
unfolding walk with_entry
heads-walk m index people cleared h = grind (arith, walk, le-leb)

end-walk : (m : Model) (d : Draft) → is_full m d ≡ true → walk m d (entries.End ∷ []) ≡ Some d
unfolding with_entry
end-walk m d full = walk-one m d d entries.End (ap (λ b. cond b (Some d) None) full)

-- the entries of a block lead to what the reader has of it
pub block-walk : (m : Model) (b : Block) → IsValid m → IsBlockOf m b → walk m no_draft (entries_of m b) ≡ Some (block_draft m b)
block-walk m b valid of =
    let d = block_draft m b in
    walk-then m no_draft d d _ (entries.End ∷ [])
    (walk-then m no_draft (with_moves d []) d _ (map (entry_of_move m) b.moves)
    (walk-then m no_draft (record d { runs = []; moves = [] }) (with_moves d []) _ (label_entries m (label_at b.labels) b.cleared)
    (walk-then m no_draft (record d { outs = []; runs = []; moves = [] }) (record d { runs = []; moves = [] }) _ (out_entries b.outs)
    (heads-walk m b.index b.people b.cleared of.in_horizon)
    (outs-walk m (record d { outs = []; runs = []; moves = [] }) [] b.outs refl (omega (arith, of.outs_full))))
    (labels-walk m (label_at b.labels) (record d { moves = [] }) valid (record { curve = block-curve m b of; no_moves = refl }) of.labels.fit))
    (moves-walk m d [] b.moves valid (block-full m b of) of.ordered))
    (end-walk m d (block-full m b of))

-- and that is the block
pub block-stated : (m : Model) (b : Block) → IsBlockOf m b → HasAllLabels b → IsStated m (block_draft m b) b
block-stated m b of all = record {
  index = refl;
  people = refl;
  cleared = refl;
  outs = refl;
  labels = record {
    table = of.labels.table;
    full = all.full;
    early = λ n t h k. early-by n t h k (is_exit_at m n) refl;
    late = λ n t h k l. of.labels.late_unset n t h l k;
  };
  moves = refl;
}
  where
    early-by : (n t : ℕ) → n < length m.nodes → t < b.cleared → (w : Bool) → is_exit_at m n ≡ w
        → label_at b.labels n t ≡ run_label (all_runs m (label_at b.labels) b.cleared (length m.nodes)) n t
    early-by n t h k true e =
        of.labels.exits_unset n t h (let q = of.in_horizon in omega (arith, q, k)) e ∙ sym (exit-given m (label_at b.labels) b.cleared (length m.nodes) n t e)
    early-by n t h k false e = sym (runs-given m (label_at b.labels) b.cleared (length m.nodes) n t h e k)
