use Rattle.std.proofs.Common.{◌≡◌, ◌∷◌, ◌++◌, [], length, map, ap, sym, ◌∙◌, arith}
use Rattle.std.specs.List.{list_any}
use Rattle.std.proofs.lemmas.List.{length-append}
use Rattle.building_table.specs.Built.{Built}
use Rattle.building_table.specs.Names.{NameLists, ends_with}
use Rattle.building_table.proofs.IndexLemmas.{ends-of, push_ends}
use Rattle.building_table.proofs.builder.Builder.push_arc.Goals as goal
use Rattle.model_text.specs.Taken.{joins}

pub invariant_of-self-in-Ok-insert_ends : goal.invariant_of-self-in-Ok-insert_ends
invariant_of-self-in-Ok-insert_ends c =
    let rows = c.self.inside.arcs.items in
    let index : NameLists = c.self.inside.index in
    let row = c.args.row in
    let pushed : c.push.new.self.items ≡ rows ++ (row ∷ []) = c.in-Ok.ensures.items in
    let made : c.insert_ends.new.self ≡ record index { ends = ends_with index.ends (ends-of row) } = c.in-Ok-insert_ends.ensures.made in
    let new = ap (λ (b : Built). list_any (joins row.from row.to) b.arcs) c.self.view_is ∙ c.requires.new in
    let few = ap (λ (b : Built). length b.arcs) c.self.view_is in
    record {
      listed_nodes = ap (λ (x : NameLists). x.nodes) made ∙ c.self.invariant.listed_nodes;
      listed_arcs = ap (λ (x : NameLists). x.ends) made ∙ push_ends rows row index.ends c.self.invariant.listed_arcs new
          ∙ ap (map ends-of) (sym pushed);
      counted = c.self.invariant.counted;
      few_people = c.self.invariant.few_people;
      few_floors = c.self.invariant.few_floors;
      few_nodes = c.self.invariant.few_nodes;
      few_arcs = omega (arith, ap length pushed, few, c.requires.few, length-append rows (row ∷ []));
      same_floors = c.self.invariant.same_floors;
    }
