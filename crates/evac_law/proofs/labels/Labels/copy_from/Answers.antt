use Rattle.std.proofs.Common.{◌+◌, ◌*◌, length, ap, ap₂, sym, ◌∙◌}
use Rattle.evac_law.specs.LabelTable.{LabelTable}
use Rattle.evac_law.proofs.labels.Labels.copy_from.Goals as goal

-- two tables of the same sizes have as many labels
pub copy_from_slice-requires : goal.copy_from_slice-requires
copy_from_slice-requires c =
    let nodes = ap (λ (t : LabelTable). t.nodes) c.self.view_is ∙ c.requires.nodes ∙ sym (ap (λ (t : LabelTable). t.nodes) c.other.view_is) in
    let horizon = ap (λ (t : LabelTable). t.horizon) c.self.view_is ∙ c.requires.horizon ∙ sym (ap (λ (t : LabelTable). t.horizon) c.other.view_is) in
    ap length c.as_mut_slice.ensures.value ∙ c.self.invariant.full ∙ ap₂ (λ n h. n * (h + 1)) nodes horizon
    ∙ sym (ap length c.deref.ensures.value ∙ c.other.invariant.full)
