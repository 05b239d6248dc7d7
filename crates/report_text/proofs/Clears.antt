-- A report on a plan has the moments of the plan.
use Rattle.std.proofs.Common.{◌≡◌, ℕ, suc, ◌<◌, Bool, true, false, cond, eqb, List, [], ◌∷◌, length, get_or, refl, ap, ap₂, ◌∙◌, arith, None}
use Rattle.std.specs.declared.option.Option.{Option}
use Rattle.std.specs.List.{All, flat_map}
use Rattle.std.proofs.lemmas.Bool.Decides.{nat_tests}
use Rattle.std.proofs.lemmas.List.Elements.{All-filter}
use Rattle.std.proofs.lemmas.List.Folds.{list_any_at}
use Rattle.std.proofs.lemmas.List.FromFn.{get_or-map-range_with_len}
use Rattle.evac_law.specs.declared.model.Model.{Model}
use Rattle.evac_law.specs.declared.plan.Move.{Move}
use Rattle.evac_law.specs.Sums.{places}
use Rattle.evac_law.proofs.SumLemmas.{All-below}
use Rattle.evac_law.proofs.PartLemmas.{flat_map-same}
use Rattle.certificate_text.proofs.ListParts.{below-same}
use Rattle.floor_index.specs.Floors.{FloorTable, is_on, listed, nodes_on, table_of}
use Rattle.floor_index.proofs.FloorLemmas.{listed_is}
use Rattle.clearing_report.specs.Clearing.{ClearingView, IsReport, floor_occupied, last_inside, last_occupied, later, latest, clearing_moment}
use Rattle.report_text.specs.ReportText.{floor_clear_line, floor_clear_part, node_clear_part}

latest-same : (first second : ℕ → Option ℕ) (nodes : List ℕ) → All (λ n. first n ≡ second n) nodes → latest first nodes ≡ latest second nodes
unfolding latest
latest-same first second [] h = refl
latest-same first second (n ∷ nodes) h = ap₂ later (h 0 n (omega arith)) (latest-same first second nodes (λ i d l. h (suc i) d (omega (arith, l))))

same_test : (x : ℕ) → eqb x x ≡ true
same_test x = grind (arith, nat_tests)

inside_only : (b : Bool) (line : Option ℕ → List ℕ) (x y : Option ℕ) → x ≡ cond b None y → cond b [] (line x) ≡ cond b [] (line y)
inside_only true line x y e = refl
inside_only false line x y e = ap line e

module _ (m : Model) (p : List Move) (v : ClearingView) (report : IsReport m p v) where
  moment_is : (n : ℕ) → n < length m.nodes → clearing_moment v n ≡ last_inside m p n
  moment_is n l = grind (arith, get_or-map-range_with_len)

  pub node_texts : flat_map (node_clear_part m (clearing_moment v)) (places m.nodes) ≡ flat_map (node_clear_part m (last_occupied m p)) (places m.nodes)
  node_texts = grind (arith, below-same, inside_only, moment_is)

  floor_is : (floor : ℕ) → latest (clearing_moment v) (nodes_on m floor) ≡ floor_occupied m p floor
  unfolding nodes_on
  floor_is floor =
      latest-same (clearing_moment v) (last_inside m p) (nodes_on m floor)
      (All-filter (is_on m floor) (λ n. clearing_moment v n ≡ last_inside m p n) (places m.nodes) (All-below (λ n. clearing_moment v n ≡ last_inside m p n) (length m.nodes) moment_is))

  listed_floor : (floors : List ℕ) (i d : ℕ) → i < length floors → listed (table_of m floors) (get_or floors i d) ≡ nodes_on m (get_or floors i d)
  listed_floor floors i d l =
      let floor = get_or floors i d in
      listed_is m floors floor ∙ ap (λ b. cond b (nodes_on m floor) []) (list_any_at (λ f. eqb f floor) floors i d l (same_test floor))

  pub floor_texts : (floors : List ℕ)
      → flat_map (floor_clear_part (λ f. latest (clearing_moment v) (listed (table_of m floors) f))) floors ≡ flat_map (floor_clear_part (floor_occupied m p)) floors
  floor_texts floors =
      flat_map-same (floor_clear_part (λ f. latest (clearing_moment v) (listed (table_of m floors) f))) (floor_clear_part (floor_occupied m p)) floors
      (λ i d l. let floor = get_or floors i d in
      ap (floor_clear_line floor) (ap (latest (clearing_moment v)) (listed_floor floors i d l) ∙ floor_is floor))

pub floors_are : (t : FloorTable) (read : List ℕ) (m : Model) (p : List Move) (v : ClearingView) (report : IsReport m p v) (floors : List ℕ)
    → t ≡ table_of m floors → read ≡ floors
    → flat_map (floor_clear_part (λ f. latest (clearing_moment v) (listed t f))) read ≡ flat_map (floor_clear_part (floor_occupied m p)) floors
floors_are t read m p v report floors e same =
    ap₂ (λ (x : FloorTable) (y : List ℕ). flat_map (floor_clear_part (λ f. latest (clearing_moment v) (listed x f))) y) e same ∙ floor_texts m p v report floors
