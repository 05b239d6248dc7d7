use Rattle.evac_law.specs.Certificates.{label_cut}
use Rattle.cut_witness.specs.Crossing.{rest_at}
use Rattle.cut_witness.proofs.CrossingLemmas.{items_start}
use Rattle.cut_witness.proofs.begin.crossing.Goals as goal

pub returns : goal.returns
unfolding rest_at
returns c = items_start c.args.model.now (label_cut c.args.model.now c.args.labels.now c.args.k) c.args.k
