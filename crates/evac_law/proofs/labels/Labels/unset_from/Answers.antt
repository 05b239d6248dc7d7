use Rattle.evac_law.proofs.LabelLemmas.{table_after}
use Rattle.evac_law.proofs.labels.Labels.unset_from.Goals as goal

pub invariant_of-self : goal.invariant_of-self
invariant_of-self c =
    table_after c.self.inside.nodes c.self.inside.horizon c.args.from c.self.inside.labels.len c.self.inside.labels.items c.as_mut_slice.result.now
    c.unset_late.new.labels c.self.invariant c.as_mut_slice.ensures.value c.as_mut_slice.ensures.len c.unset_late.ensures

pub returns-clause-table : goal.returns-clause-table
returns-clause-table c =
    table_after c.self.inside.nodes c.self.inside.horizon c.args.from c.self.inside.labels.len c.self.inside.labels.items c.as_mut_slice.result.now
    c.unset_late.new.labels c.self.invariant c.as_mut_slice.ensures.value c.as_mut_slice.ensures.len c.unset_late.ensures
