use Rattle.std.proofs.Common.{ℕ, List, [], ◌∷◌, ◌++◌, codes, map, sym, ap, ap₂, ◌∙◌}
use Rattle.std.proofs.lemmas.List.{map-append}
use Rattle.drill_building.proofs.Floors.{texts-more}
use Rattle.drill_building.proofs.building.floor_texts.Goals as goal

pub loop-preserved : goal.loop-preserved
loop-preserved c =
    let text = c.in_ok-from_slice.field-0 in
    ap (map (λ t. t.items)) c.in_ok-push.ensures.items ∙ map-append (λ t. t.items) c.loop.texts.items (text ∷ [])
    ∙ ap₂ (λ l (t : List ℕ). l ++ (t ∷ [])) c.loop.invariant c.in_ok-from_slice.ensures.items ∙ sym (texts-more (codes "storey") c.loop.counter)
