-- How many people may go over the cells of a net.
use Rattle.std.specs.Prelude.{ℕ, ◌+◌, ◌-◌, ◌<◌, ◌≤◌, Bool, if◌then◌else◌, List, slice_index_or, slice_set}
use Rattle.std.specs.List.{All, Any}
use Rattle.residual_net.specs.Network.{no_cell}
use Rattle.residual_net.specs.declared.place.Cell.{Cell}
use Rattle.residual_ways.specs.declared.step.Step.{Step}

-- how many more people may go over a cell: forwards what the limit leaves, backwards the flow
abbrev pub room_over : Cell → Bool → ℕ
room_over cell back = if back then cell.flow else cell.limit - cell.flow

-- the flow over a cell once so many more people go over it
abbrev pub flow_with : Cell → Bool → ℕ → ℕ
flow_with cell back people = if back then cell.flow - people else cell.flow + people

-- the cell of a step
abbrev pub cell_of_step : List Cell → Step → Cell
cell_of_step cells step = slice_index_or cells step.cell no_cell

-- how many more people may go over a step
abbrev pub room_of : List Cell → Step → ℕ
room_of cells step = room_over (cell_of_step cells step) step.back

-- the cells once people are sent over a step
abbrev pub with_sent : List Cell → Step → ℕ → List Cell
with_sent cells step people =
    let cell = cell_of_step cells step in
    slice_set cells step.cell (record cell { flow = flow_with cell step.back people })

-- people come in over such cells, and all of them are sent
abbrev pub AreAllSent : List Cell → Type 0
AreAllSent cells = Any (λ cell. 0 < cell.limit) cells × All (λ cell. cell.limit ≤ cell.flow) cells
