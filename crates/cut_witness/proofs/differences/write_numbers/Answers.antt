use Rattle.std.proofs.Common.{◌<◌, ◌≢◌, length, arith, get_or-set_other, get_or-set_same, below_more}
use Rattle.cut_witness.proofs.Nets.{net_falls, net_more}
use Rattle.cut_witness.proofs.differences.write_numbers.Goals as goal

pub overflow_sub-number : goal.overflow_sub-number
overflow_sub-number c =
    let r = c.args.rises.now in
    let f = c.args.falls.now in
    let within : c.loop-period.period < length r = omega arith in
    let within_falls : c.loop-period.period < length f = omega arith in
    let net = c.requires.nets c.loop-period.period within in
    net_falls r f c.loop-period.period c.loop-period.number net.0 within within_falls c.loop-period.invariant.number net.1

pub loop-period-preserved : goal.loop-period-preserved
loop-period-preserved c =
    let r = c.args.rises.now in
    let f = c.args.falls.now in
    let within : c.loop-period.period < length r = omega arith in
    let within_falls : c.loop-period.period < length f = omega arith in
    let within_numbers : c.loop-period.period < length c.loop-period.numbers = omega arith in
    let net = c.requires.nets c.loop-period.period within in
    let falls = net_falls r f c.loop-period.period c.loop-period.number net.0 within within_falls c.loop-period.invariant.number net.1 in
    let more = net_more r f c.loop-period.period c.loop-period.number within within_falls c.loop-period.invariant.number falls in
    record {
      number = more;
      written = below_more _ _
          (λ k h. let ne : k ≢ c.loop-period.period = omega arith in rw get_or-set_other (c.loop-period.invariant.written k h))
          (rw get_or-set_same more);
    }
