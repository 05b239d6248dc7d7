use Rattle.std.proofs.Common.{◌≡◌}
use Rattle.evac_law.specs.Certificates.{label_cut}
use Rattle.cut_witness.specs.Crossing.{IsPosition, left_at, rest_at}
use Rattle.cut_witness.proofs.walk.Crossing.next.Given as goal

abbrev pub invariant-loop-self : goal.invariant-loop-self
invariant-loop-self l = record {
  position : IsPosition l.self-inside.cut.model.now l.self-inside.cut.k l.self-inside.place;
  rest : rest_at l.self-inside.cut.model.now (label_cut l.self-inside.cut.model.now l.self-inside.cut.labels.now l.self-inside.cut.k) l.self-inside.cut.k l.self-inside.place ≡ rest_at l.initial.self-inside.cut.model.now (label_cut l.initial.self-inside.cut.model.now l.initial.self-inside.cut.labels.now l.initial.self-inside.cut.k) l.initial.self-inside.cut.k l.initial.self-inside.place;
}

abbrev pub decreases-loop-self : goal.decreases-loop-self
decreases-loop-self l = left_at l.self-inside.cut.model.now l.self-inside.cut.k l.self-inside.place
