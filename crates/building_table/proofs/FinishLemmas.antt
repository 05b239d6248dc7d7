-- The building of what a builder holds.
use Rattle.std.proofs.Common.{◌≡◌, ℕ, List, map, unwrap_or, Some, None, sym, ap, ap₂, subst, ◌∙◌}
use Rattle.evac_law.specs.Building.{IsValid}
use Rattle.evac_law.specs.declared.entrant.Entrant.{Entrant}
use Rattle.evac_law.specs.declared.model.Model.{Model}
use Rattle.evac_law.specs.declared.model.ArcRow.{ArcRow}
use Rattle.evac_law.specs.declared.model.NodeRow.{NodeRow}
use Rattle.building_table.specs.Built.{Built, built_of}
use Rattle.building_table.specs.Names.{NameLists, NameTable, names_of}
use Rattle.building_table.specs.Taking.{end_checks}
use Rattle.model_text.specs.Grammar.{SaidPart}
use Rattle.model_text.specs.Taken.{AreTaken, description_of, end_fault, first_code, model_taken, seconds_of, horizon_of}
use Rattle.model_text.proofs.SoundLemmas.{taken-valid}

-- the checks of the end are those of the parts
pub end-same : (b : Built) (taken : List SaidPart) → b ≡ built_of taken → end_fault taken ≡ first_code (end_checks b)
unfolding end_fault
end-same b taken e = ap (λ x. first_code (end_checks x)) (sym e)

abbrev make-model : ℕ → ℕ → List NodeRow → List ArcRow → List Entrant → Model
make-model s h ns as' es = record { seconds = s; horizon = h; nodes = ns; arcs = as'; entrants = es }

-- a model of what the builder holds is that of the parts
pub model-same : (b : Built) (taken : List SaidPart) (s h : ℕ) (ns : List NodeRow) (as' : List ArcRow) (es : List Entrant) → b ≡ built_of taken → b.seconds ≡ Some s → b.horizon ≡ Some h
    → ns ≡ b.nodes → as' ≡ b.arcs → es ≡ b.entrants → make-model s h ns as' es ≡ model_taken taken
unfolding model_taken
model-same b taken s h ns as' es e seconds horizon nodes arcs entrants =
    let s-is : s ≡ unwrap_or (seconds_of taken) 0 = ap (λ o. unwrap_or o 0) (sym seconds ∙ ap (λ (x : Built). x.seconds) e) in
    let h-is : h ≡ unwrap_or (horizon_of taken) 0 = ap (λ o. unwrap_or o 0) (sym horizon ∙ ap (λ (x : Built). x.horizon) e) in
    ap (make-model s h ns as') entrants ∙ ap₂ (λ x y. make-model s h x y b.entrants) nodes arcs ∙ ap₂ (λ x y. make-model x y b.nodes b.arcs b.entrants) s-is h-is
    ∙ ap (λ (x : Built). make-model (unwrap_or (seconds_of taken) 0) (unwrap_or (horizon_of taken) 0) x.nodes x.arcs x.entrants) e

pub valid-as : (m : Model) (taken : List SaidPart) → m ≡ model_taken taken → AreTaken taken → end_fault taken ≡ None → IsValid m
valid-as m taken e are h = subst IsValid (sym e) (taken-valid taken are h)

-- the names that an index lists, with the floors and the title of a builder
abbrev pub make-table : NameLists → Built → NameTable
make-table index b = record { nodes = index.nodes; ends = index.ends; floors = b.floors; texts = b.texts; title = b.title }

table-of : Built → NameTable
table-of b = make-table (record { nodes = map (λ row. row.name) b.nodes; ends = map (λ row. (row.from, row.to)) b.arcs }) b

-- where the index lists what the builder holds, they are those of the parts
pub names-same : (index : NameLists) (b : Built) (taken : List SaidPart)
    → index.nodes ≡ map (λ row. row.name) b.nodes → index.ends ≡ map (λ row. (row.from, row.to)) b.arcs → b ≡ built_of taken
    → make-table index b ≡ names_of (description_of taken)
unfolding table-of model_taken
names-same index b taken nodes arcs e =
    ap₂ (λ names ends. make-table (record { nodes = names; ends = ends }) b) nodes arcs ∙ ap table-of e
