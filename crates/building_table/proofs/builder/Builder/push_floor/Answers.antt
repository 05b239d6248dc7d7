use Rattle.std.proofs.Common.{◌∷◌, [], length, ap, arith}
use Rattle.std.proofs.lemmas.List.{length-append}
use Rattle.building_table.specs.Built.{Built}
use Rattle.building_table.proofs.builder.Builder.push_floor.Goals as goal

pub invariant_of-self-in-Ok-push : goal.invariant_of-self-in-Ok-push
invariant_of-self-in-Ok-push c =
    let floors = ap length c.in-Ok.ensures.items in
    let texts = ap length c.in-Ok-push.ensures.items in
    let few = ap (λ (b : Built). length b.floors) c.self.view_is in
    let more-floors = length-append c.self.inside.floors.items (c.args.floor ∷ []) in
    let more-texts = length-append c.self.inside.texts.items (c.args.text ∷ []) in
    record {
      listed_nodes = c.self.invariant.listed_nodes;
      listed_arcs = c.self.invariant.listed_arcs;
      counted = c.self.invariant.counted;
      few_people = c.self.invariant.few_people;
      few_floors = omega (arith, floors, more-floors, few, c.requires);
      few_nodes = c.self.invariant.few_nodes;
      few_arcs = c.self.invariant.few_arcs;
      same_floors = omega (arith, floors, more-floors, texts, more-texts, c.self.invariant.same_floors);
    }
