use Rattle.std.proofs.Common.{◌≡◌, ℕ, ◌+◌, ◌<◌, List, ◌++◌, length, slice_index, ap, arith, take, drop}
use Rattle.std.proofs.lemmas.Grind.{common_steps}
use Rattle.evac_law.specs.Certificates.{label_cut}
use Rattle.evac_law.specs.Cuts.{cut_value}
use Rattle.cut_witness.proofs.all_cuts.CutValues.fill.Goals as goal

written_back : (xs new : List ℕ) (n k : ℕ) → length new ≡ length xs → n ≡ length xs → k < length new
    → slice_index (take n (new ++ drop (length new) xs)) k ≡ slice_index new k
written_back xs new n k e h l = grind (arith, common_steps)

pub write_to-requires-clause-nets : goal.write_to-requires-clause-nets
write_to-requires-clause-nets c k l =
    let value = cut_value c.args.model.now (label_cut c.args.model.now c.args.labels.now k) k in
    let cleared : k < length c.self.inside.differences.rises = omega (arith, l, c.add_items.ensures.periods, c.clear.ensures.periods) in
    (0 + value, c.add_items.ensures.net k 0 (omega (arith, cleared, c.clear.ensures.periods)) (c.clear.ensures.net k cleared))

pub returns-clause-values : goal.returns-clause-values
returns-clause-values c k l =
    let value = cut_value c.args.model.now (label_cut c.args.model.now c.args.labels.now k) k in
    let cleared : k < length c.self.inside.differences.rises = omega (arith, l, c.self.invariant, ap length c.self.view_is, c.requires.periods) in
    let within : k < length c.add_items.new.differences.rises = omega (arith, c.add_items.ensures.periods, c.clear.ensures.periods) in
    let same : length c.write_to.new.numbers ≡ length c.self.inside.values.items = omega (arith, c.write_to.auto.numbers, ap length c.as_mut_slice.ensures.value) in
    let here : k < length c.write_to.new.numbers = omega (arith, same, cleared, c.self.invariant) in
    let written = c.write_to.ensures k (0 + value) within (c.add_items.ensures.net k 0 (omega (arith, cleared, c.clear.ensures.periods)) (c.clear.ensures.net k cleared)) in
    let back = written_back c.self.inside.values.items c.write_to.new.numbers c.self.inside.values.len k same (omega (arith, c.self.inside.values.ok)) here in
    omega (arith, back, written)
