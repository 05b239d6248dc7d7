use Rattle.evac_law.proofs.model.Model.entry.Goals as goal

pub entering-requires : goal.entering-requires
entering-requires c = rw c.as_slice.ensures c.requires.valid.entrants_sorted
