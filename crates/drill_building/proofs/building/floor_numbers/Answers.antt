use Rattle.std.proofs.Common.{[], ◌∷◌, ◌++◌, sym, ap, ◌∙◌}
use Rattle.drill_building.proofs.Floors.{below-more}
use Rattle.drill_building.proofs.building.floor_numbers.Goals as goal

pub loop-floor-preserved : goal.loop-floor-preserved
loop-floor-preserved c =
    c.in_ok-push.ensures.items ∙ ap (λ l. l ++ (c.loop-floor.floor ∷ [])) c.loop-floor.invariant ∙ sym (below-more c.loop-floor.floor)
