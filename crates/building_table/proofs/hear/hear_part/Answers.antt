use Rattle.std.proofs.Common.{◌∷◌, ap}
use Rattle.model_text.specs.Reads.{said_part}
use Rattle.model_text.specs.Readings.{InModel, Moved, step_unless}
use Rattle.building_table.proofs.hear.hear_part.Goals as goal

pub returns-in-Ok : goal.returns-in-Ok
returns-in-Ok c = λ version taken are e.
    let part = said_part c.args.part in
    let took = c.in-Ok.ensures.taken taken e in
    (part ∷ taken, ap (λ o. step_unless o (Moved (InModel version (part ∷ taken)))) took.0, (c.requires, took.0, are), took.1)
