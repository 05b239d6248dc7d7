use Rattle.std.proofs.Common.{◌∙◌}
use Rattle.building_table.proofs.FinishLemmas.{end-same}
use Rattle.building_table.proofs.builder.Builder.finish.Goals as goal

pub returns-in-Err-clause-fault : goal.returns-in-Err-clause-fault
returns-in-Err-clause-fault c = λ taken e. end-same c.args.self taken e ∙ c.in-Err.ensures.fault
