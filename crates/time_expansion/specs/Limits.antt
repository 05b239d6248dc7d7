-- How large an expanded network may be.
use Rattle.std.specs.Prelude.{ℕ}
use Rattle.time_expansion.specs.declared.limits.TheConstants.{NODE_LIMIT, ARC_LIMIT, HORIZON_LIMIT, CELL_LIMIT}

-- the most nodes
unfoldable pub node_limit : ℕ
node_limit = NODE_LIMIT

-- the most arcs
unfoldable pub arc_limit : ℕ
arc_limit = ARC_LIMIT

-- the last moment that a horizon may be
unfoldable pub horizon_limit : ℕ
horizon_limit = HORIZON_LIMIT

-- the most cells
unfoldable pub cell_limit : ℕ
cell_limit = CELL_LIMIT
