-- The parts that say a plain building have no fault, and describe it again.
use Rattle.std.proofs.Common.{◌≡◌, ℕ, ◌+◌, ◌*◌, Bool, false, not, ◌||◌, nat_lt, List, [], ◌∷◌, ◌++◌, length, map, Some, None, is_none, is_some, unwrap_or, refl, ap, ◌∙◌, arith}
use Rattle.std.specs.Prelude.{MatchOption, ⊤}
use Rattle.std.specs.declared.option.Option.{Option}
use Rattle.std.specs.List.{All, flat_map, list_any}
use Rattle.std.proofs.lemmas.Bool.{le-ltb}
use Rattle.std.proofs.lemmas.List.Folds.{list_any_none}
use Rattle.evac_law.specs.declared.code.Code.{Code}
use Rattle.evac_law.specs.declared.code.Code.TheVariants.{MissingSetting, NoExit, TooLarge, EntrantLate}
use Rattle.evac_law.specs.Building.{IsValid, no_arc, no_node, people}
use Rattle.evac_law.specs.Limits.{cell_limit}
use Rattle.evac_law.specs.Names.{is_exit}
use Rattle.evac_law.specs.declared.model.Model.{Model}
use Rattle.model_text.specs.Grammar.{SaidPart, Horizon, Period, Title}
use Rattle.model_text.specs.Plain.{IsPlain, IsTextBehind}
use Rattle.model_text.specs.Taken.{Description, description_of, end_fault, first_code, model_taken, part_checks, part_fault}
use Rattle.model_writer.specs.Laws.{AreFine, pushed}
use Rattle.model_writer.specs.ModelText.{arc_said, entrant_said, floor_said, node_said, parts_said, title_said, windows_said}
use Rattle.model_writer.proofs.Adding.{Adds, AddsAll, Gathered, adds-append, adds-more, adds-none, all-pairs, gathered, no-code}
use Rattle.model_writer.proofs.FloorsGo.{IsFloor, floors-go}
use Rattle.model_writer.proofs.NodesGo.{IsPlainNode, NamesDiffer, nodes-go}
use Rattle.model_writer.proofs.ArcsGo.{AreNamed, EndsDiffer, IsPlainArc, arcs-go}
use Rattle.model_writer.proofs.WindowsGo.{windows-go}
use Rattle.model_writer.proofs.EntrantsGo.{entrants-go}

-- ---- what is described, part by part

abbrev blank : Gathered
blank = record { title = None; seconds = None; horizon = None; floors = []; nodes = []; arcs = []; entrants = [] }

abbrev settled : Description → Gathered
settled d = record blank { title = d.title; seconds = Some d.model.seconds; horizon = Some d.model.horizon }

abbrev whole : Description → Gathered
whole d = record (settled d) { floors = d.floors; nodes = d.model.nodes; arcs = d.model.arcs; entrants = d.model.entrants }

-- ---- the settings

title-adds : (limit : ℕ) (title : Option (List ℕ)) → MatchOption title ⊤ (λ text. IsTextBehind limit 6 text) → AddsAll [] (title_said title) (record blank { title = title })
unfolding part_fault
title-adds limit None is = adds-none [] _ refl
title-adds limit (Some text) is =
    adds-more [] (Title text) [] _ _ (record { spelled = (is.some, is.whole); none = refl; is = refl }) (adds-none (Title text ∷ []) _ refl)

period-adds : (m : Model) (title : Option (List ℕ)) (taken : List SaidPart) → IsValid m → gathered taken ≡ record blank { title = title }
    → Adds taken (Period m.seconds) (record blank { title = title; seconds = Some m.seconds })
unfolding part_fault
period-adds m title taken valid is = record {
  spelled = valid.seconds;
  none = no-code (part_checks taken (Period m.seconds)) (ap (λ (x : Gathered). is_some x.seconds) is, tt);
  is = ap (λ (x : Gathered). record x { seconds = Some m.seconds }) is;
}

horizon-adds : (d : Description) (taken : List SaidPart) → IsValid d.model → gathered taken ≡ record blank { title = d.title; seconds = Some d.model.seconds }
    → Adds taken (Horizon d.model.horizon) (settled d)
unfolding part_fault
horizon-adds d taken valid is = record {
  spelled = valid.horizon;
  none = no-code (part_checks taken (Horizon d.model.horizon)) (ap (λ (x : Gathered). is_some x.horizon) is, tt);
  is = ap (λ (x : Gathered). record x { horizon = Some d.model.horizon }) is;
}

-- ---- the rows

named : (limit : ℕ) (d : Description) → IsPlain limit d → AreNamed d.model.nodes
named limit d plain = record {
  names = λ k n within. (plain.valid.nodes k n within).name;
  differ = all-pairs NamesDiffer d.model.nodes no_node plain.valid.names_differ;
}

entrants-add : (limit : ℕ) (d : Description) → IsPlain limit d → (taken : List SaidPart) → gathered taken ≡ record (settled d) { floors = d.floors; nodes = d.model.nodes; arcs = d.model.arcs }
    → AddsAll taken (map (entrant_said d.model) d.model.entrants) (whole d)
unfolding people
entrants-add limit d plain taken is =
    let valid = plain.valid in
    entrants-go d.model (record (settled d) { floors = d.floors; arcs = d.model.arcs }) d.model.horizon d.model.entrants taken (named limit d plain) is
    valid.entrants valid.horizon valid.entrants_sorted valid.people_fit

arcs-add : (limit : ℕ) (d : Description) → IsPlain limit d → (taken : List SaidPart) → gathered taken ≡ record (settled d) { floors = d.floors; nodes = d.model.nodes }
    → AddsAll taken (map (arc_said d.model) d.model.arcs ++ (flat_map (windows_said d.model) d.model.arcs ++ map (entrant_said d.model) d.model.entrants)) (whole d)
arcs-add limit d plain taken is =
    let m = d.model in
    let g : Gathered = record (settled d) { floors = d.floors } in
    let each : All (IsPlainArc m.nodes) m.arcs = λ k a within. record { valid = plain.valid.arcs k a within; unshut = plain.arcs_open k a within } in
    let differ = all-pairs EndsDiffer m.arcs no_arc plain.valid.ends_differ in
    adds-append taken (map (arc_said m) m.arcs) _ _ _ (arcs-go m g m.arcs taken (named limit d plain) is each differ plain.valid.arcs_fit)
    (λ before. adds-append _ (flat_map (windows_said m) m.arcs) _ _ _ (windows-go m g m.arcs [] _ (named limit d plain) before each differ)
    (λ then. entrants-add limit d plain _ then))

nodes-add : (limit : ℕ) (d : Description) → IsPlain limit d → (taken : List SaidPart) → gathered taken ≡ record (settled d) { floors = d.floors }
    → AddsAll taken (map node_said d.model.nodes
    ++ (map (arc_said d.model) d.model.arcs ++ (flat_map (windows_said d.model) d.model.arcs ++ map (entrant_said d.model) d.model.entrants))) (whole d)
unfolding people
nodes-add limit d plain taken is =
    let m = d.model in
    let each : All (IsPlainNode d.floors) m.nodes = λ k n within. record { valid = plain.valid.nodes k n within; unshut = plain.nodes_open k n within; listed = plain.floors_listed k n within } in
    let people-fit = plain.valid.people_fit in
    adds-append taken (map node_said m.nodes) _ _ _
    (nodes-go (record (settled d) { floors = d.floors }) m.nodes taken is each (all-pairs NamesDiffer m.nodes no_node plain.valid.names_differ) plain.valid.nodes_fit (omega arith))
    (λ then. arcs-add limit d plain _ then)

floors-add : (limit : ℕ) (d : Description) → IsPlain limit d → (taken : List SaidPart) → gathered taken ≡ settled d
    → AddsAll taken (map floor_said d.floors ++ (map node_said d.model.nodes
    ++ (map (arc_said d.model) d.model.arcs ++ (flat_map (windows_said d.model) d.model.arcs ++ map (entrant_said d.model) d.model.entrants)))) (whole d)
floors-add limit d plain taken is =
    let each : All IsFloor d.floors = λ k f within. let text = plain.floor_texts k f within in record { number = plain.floors_fit k f within; some = text.some; text = text.whole } in
    adds-append taken (map floor_said d.floors) _ _ _ (floors-go (settled d) d.floors taken is each plain.floors_differ plain.few_floors)
    (λ then. nodes-add limit d plain _ then)

-- the parts that say a plain building describe it
parts-add : (limit : ℕ) (d : Description) → IsPlain limit d → AddsAll [] (parts_said d) (whole d)
parts-add limit d plain =
    adds-append [] (title_said d.title) _ _ _ (title-adds limit d.title plain.title)
    (λ titled.
    let period = period-adds d.model d.title _ plain.valid titled in
    let horizon = horizon-adds d _ plain.valid period.is in
    adds-more _ (Period d.model.seconds) _ _ _ period (adds-more _ (Horizon d.model.horizon) _ _ _ horizon (floors-add limit d plain _ horizon.is)))

-- ---- the end

pub record IsSaidAgain (d : Description) : Type 0 where
  pub fine : AreFine [] (parts_said d)
  pub may_end : end_fault (pushed [] (parts_said d)) ≡ None
  pub same : description_of (pushed [] (parts_said d)) ≡ d

-- the checks at a model's end, of what is described
abbrev end-checks : Gathered → List (Bool × Code)
end-checks x =
    (is_none x.seconds || is_none x.horizon, MissingSetting)
    ∷ (not (list_any (λ n. is_exit n.name.kind) x.nodes), NoExit)
    ∷ (nat_lt cell_limit ((length x.nodes + length x.arcs) * (unwrap_or x.horizon 0 + 1)), TooLarge)
    ∷ (list_any (λ e. nat_lt (unwrap_or x.horizon 0) e.moment) x.entrants, EntrantLate) ∷ []

ends : (limit : ℕ) (d : Description) (taken : List SaidPart) → IsPlain limit d → gathered taken ≡ whole d → end_fault taken ≡ None
unfolding end_fault
ends limit d taken plain is =
    let m = d.model in
    let on-time : All (λ e. nat_lt m.horizon e.moment ≡ false) m.entrants = λ k e within. le-ltb m.horizon _ (plain.valid.entrants k e within).in_horizon in
    ap (λ x. first_code (end-checks x)) is
    ∙ no-code (end-checks (whole d)) (refl, (ap not plain.has_exit, (le-ltb cell_limit _ plain.valid.cells_fit, (list_any_none (λ e. nat_lt m.horizon e.moment) m.entrants on-time, tt))))

describes : (d : Description) (taken : List SaidPart) → gathered taken ≡ whole d → description_of taken ≡ d
unfolding model_taken
describes d taken is =
    ap (λ (x : Gathered). record {
      model = record { seconds = unwrap_or x.seconds 0; horizon = unwrap_or x.horizon 0; nodes = x.nodes; arcs = x.arcs; entrants = x.entrants };
      title = x.title;
      floors = x.floors;
    }) is

pub said-again : (limit : ℕ) (d : Description) → IsPlain limit d → IsSaidAgain d
said-again limit d plain =
    let adds = parts-add limit d plain in
    record { fine = adds.fine; may_end = ends limit d _ plain adds.is; same = describes d _ adds.is }
