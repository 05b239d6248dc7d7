-- A row that is put in a place twice.
use Rattle.std.proofs.Common.{◌≡◌, ℕ, ap}
use Rattle.std.proofs.lemmas.List.{set-set}
use Rattle.evac_law.specs.declared.model.ArcRow.{ArcRow}
use Rattle.evac_law.specs.declared.model.Model.{Model}
use Rattle.evac_law.specs.Edits.{with_arc}

pub arc_again : (m : Model) (a : ℕ) (x y : ArcRow) → with_arc (with_arc m a x) a y ≡ with_arc m a y
arc_again m a x y = ap (λ z. record m { arcs = z }) (set-set m.arcs a x y)
