-- How many people a net may send.
use Rattle.std.specs.Prelude.{ℕ}
use Rattle.residual_net.specs.declared.limits.TheConstants.{SUPPLY_LIMIT}

-- the most people that all supplies may send together
unfoldable pub supply_limit : ℕ
supply_limit = SUPPLY_LIMIT
