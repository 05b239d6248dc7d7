use Rattle.model_text.specs.Taken.{joins}
use Rattle.model_text.proofs.ListFacts.{found}
use Rattle.building_table.proofs.builder.Builder.take_window.Goals as goal

pub close-requires : goal.close-requires
close-requires c =
    let place = c.in-Some-arc_place.ensures in
    rw place.1 (found (joins c.in-Some.from c.in-Some-node_place.to) c.args.self.now.arcs place.0)
