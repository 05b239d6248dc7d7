use Rattle.std.proofs.Common.{ℕ, Bool, ◌&&◌, ◌==◌, ap, ◌∙◌}
use Rattle.std.specs.List.{position}
use Rattle.evac_law.specs.Building.{no_arc}
use Rattle.building_table.specs.Built.{Built}
use Rattle.building_table.proofs.EqLemmas.{position-map}
use Rattle.building_table.proofs.IndexLemmas.{ends-of}
use Rattle.building_table.proofs.PlaceLemmas.{place-found}
use Rattle.building_table.proofs.builder.Builder.arc_place.Goals as goal

pub returns : goal.returns
returns c =
    let test : ℕ × ℕ → Bool = λ e. e.0 == c.args.from && e.1 == c.args.to in
    place-found (λ a. test (ends-of a)) c.args.self.now.arcs no_arc c.find_ends.result
    (c.find_ends.ensures ∙ ap (position test) c.self.invariant.listed_arcs ∙ position-map test ends-of c.self.inside.arcs.items
    ∙ ap (λ (b : Built). position (λ a. test (ends-of a)) b.arcs) c.self.view_is)
