-- Products of sizes.
use Rattle.std.proofs.Common.{ℕ, ◌+◌, ◌*◌, ◌/◌, ◌<◌, ◌≤◌, ◌^◌, arith}
use Rattle.std.proofs.Math.Nat.{mul-le-mul_left}
use Rattle.std.proofs.lemmas.Nat.{le-div}

-- a row below another ends where that one begins, or before
pub row_ends : (row rows moments : ℕ) → row < rows → row * moments + moments ≤ rows * moments
row_ends row rows moments h = omega (arith, mul-le-mul_left moments (let e : row + 1 ≤ rows = omega arith in e))

-- so many rows have cells with numbers of 32 bits
pub cells_small : (arcs nodes moments : ℕ) → 0 < moments → arcs + 2 * nodes ≤ 4294967295 / moments → arcs * moments + 2 * (nodes * moments) < 2 ^ 32
cells_small arcs nodes moments p h = omega (arith, mul-le-mul_left moments h)

-- and where so many rows have numbers of 32 bits, they are no more than that
pub rows_fit : (arcs nodes moments : ℕ) → 0 < moments → (arcs + 2 * nodes) * moments < 2 ^ 32 → arcs + 2 * nodes ≤ 4294967295 / moments
rows_fit arcs nodes moments p small = le-div (arcs + 2 * nodes) 4294967295 moments p (omega (arith, small))
