-- The limits of a model, each the constant of the code that has its name.
use Rattle.std.specs.Prelude.{ℕ}

-- the most seconds of a period
unfoldable pub seconds_limit : ℕ
seconds_limit = 600

-- the last moment that a horizon may be
unfoldable pub horizon_limit : ℕ
horizon_limit = 1200

-- the most nodes, exits counted
unfoldable pub node_limit : ℕ
node_limit = 400

-- the most arcs
unfoldable pub arc_limit : ℕ
arc_limit = 1600

-- the most floors
unfoldable pub floor_limit : ℕ
floor_limit = 100

-- the greatest traversal time, in periods
unfoldable pub travel_limit : ℕ
travel_limit = 600

-- the greatest rate, in people per period
unfoldable pub rate_limit : ℕ
rate_limit = 10000

-- the greatest capacity of a node, and the greatest start
unfoldable pub capacity_limit : ℕ
capacity_limit = 100000

-- the most people of a model
unfoldable pub people_limit : ℕ
people_limit = 100000

-- the most cells: a node or an arc at a moment
unfoldable pub cell_limit : ℕ
cell_limit = 1000000

-- the most closure windows of an arc
unfoldable pub window_limit : ℕ
window_limit = 8

-- the greatest number in a node's name, and the greatest floor
unfoldable pub number_limit : ℕ
number_limit = 9999

unfoldable pub floor_number_limit : ℕ
floor_number_limit = 999
