-- The names of a building are those of each model of its shape.
use Rattle.std.proofs.Common.{◌≡◌, ℕ, List, [], ◌∷◌, map, refl, sym, ap, ◌∙◌}
use Rattle.evac_law.specs.declared.model.ArcRow.{ArcRow}
use Rattle.evac_law.specs.declared.model.Model.{Model}
use Rattle.evac_law.specs.Shapes.{HasSameShape, way_of_row}
use Rattle.building_table.specs.Names.{NameTable, NamesFit}

ends_of_way : ℕ × ℕ × ℕ → ℕ × ℕ
ends_of_way w = (w.0, w.1)

ends_by_way : (arcs : List ArcRow) → map (λ a. (a.from, a.to)) arcs ≡ map ends_of_way (map way_of_row arcs)
unfolding ends_of_way
ends_by_way [] = refl
ends_by_way (a ∷ arcs) = ap (λ (l : List (ℕ × ℕ)). (a.from, a.to) ∷ l) (ends_by_way arcs)

pub names_kept : (names : NameTable) (m m' : Model) → HasSameShape m m' → NamesFit names m → NamesFit names m'
names_kept names m m' h fit = record {
  nodes = fit.nodes ∙ sym h.names;
  ends = fit.ends ∙ ends_by_way m.arcs ∙ sym (ap (map ends_of_way) h.ways) ∙ sym (ends_by_way m'.arcs);
}
