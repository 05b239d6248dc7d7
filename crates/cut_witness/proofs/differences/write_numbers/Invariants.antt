use Rattle.std.proofs.Common.{◌≡◌, ℕ, ◌+◌, ◌<◌, slice_index, sum, take}
use Rattle.cut_witness.proofs.differences.write_numbers.Given as goal

-- the number is what stands before the period, and each number that is written is the one up to its period
abbrev pub invariant-loop-period : goal.invariant-loop-period
invariant-loop-period l = record {
  number : sum (take l.period l.rises) ≡ sum (take l.period l.falls) + l.number;
  written : (k : ℕ) → k < l.period → sum (take (k + 1) l.rises) ≡ sum (take (k + 1) l.falls) + slice_index l.numbers k;
}
