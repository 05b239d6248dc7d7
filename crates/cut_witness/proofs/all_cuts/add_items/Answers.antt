use Rattle.std.proofs.Common.{◌^◌, sym, arith}
use Rattle.evac_law.specs.Certificates.{label_cut}
use Rattle.evac_law.specs.Cuts.{cut_value}
use Rattle.evac_law.specs.Limits.{arc_limit, node_limit}
use Rattle.cut_witness.proofs.AllCuts.{cut_shares}
use Rattle.cut_witness.proofs.Nets.{raised_as, raised_then}
use Rattle.cut_witness.proofs.all_cuts.add_items.Goals as goal

pub returns : goal.returns
unfolding arc_limit node_limit
returns c =
    let m = c.args.model.now in
    let l = c.args.labels.now in
    raised_as (λ k. cut_value m (label_cut m l k) k) (2 ^ 62) (λ k h. sym (cut_shares m l k (omega (arith, h, c.requires.summable.periods)))) (omega arith)
    (raised_then (raised_then c.add_entries.ensures c.add_holds.ensures) c.add_arcs.ensures)
