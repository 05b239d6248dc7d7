-- The numbers of what places lead to.
use Rattle.std.proofs.Common.{◌≡◌, ℕ, ◌^◌, ◌<◌, ◌≤◌, ◌⊎◌, min, arith}
use Rattle.residual_net.specs.Site.{Site, IsSite}
use Rattle.time_expansion.specs.Limits.{horizon_limit}

pub horizon_small : (s : Site) → IsSite s → s.shape.horizon < 2 ^ 15
unfolding horizon_limit
horizon_small s i = omega (arith, i.shape.horizon_fits)

-- the lesser of two numbers is at most both, and one of them
pub least_of : (z a b : ℕ) → z ≡ min a b → (z ≤ a) × (z ≤ b) × ((z ≡ a) ⊎ (z ≡ b))
least_of z a b h = (grind arith, grind arith, grind arith)
