use Rattle.std.proofs.Common.{◌≡◌, ◌<◌, length, ap, arith, ◌∙◌}
use Rattle.cut_witness.specs.Changes.{Changes}
use Rattle.cut_witness.proofs.differences.Differences.write_to.Goals as goal

pub write_numbers-requires-clause-nets : goal.write_numbers-requires-clause-nets
write_numbers-requires-clause-nets c k l =
    let rises : c.as_slice.result.now ≡ c.args.self.now.rises = c.as_slice.ensures.value ∙ ap (λ (d : Changes). d.rises) c.self.view_is in
    let falls : c.as_slice-2.result.now ≡ c.args.self.now.falls = c.as_slice-2.ensures.value ∙ ap (λ (d : Changes). d.falls) c.self.view_is in
    let within : k < length c.args.self.now.rises = omega (arith, l, ap length rises) in
    rw (rises, falls) (c.requires.nets k within)
