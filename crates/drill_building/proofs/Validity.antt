-- The model of a drill is valid, for each number of storeys.
use Rattle.std.proofs.Common.{ℕ, ◌≤◌, arith}
use Rattle.std.proofs.lemmas.List.Elements.{All-nil}
use Rattle.evac_law.specs.Building.{IsEntrant, IsValid, people}
use Rattle.evac_law.specs.Limits.{arc_limit, cell_limit, horizon_limit, node_limit, seconds_limit}
use Rattle.drill_building.specs.Drill.{drill_model, drill_nodes}
use Rattle.drill_building.proofs.ArcLemmas.{arc-count, arcs-are, ends-differ}
use Rattle.drill_building.proofs.NodeLemmas.{names-differ, node-count, nodes-are, people-few}

pub drill-valid : (n : ℕ) → n ≤ 40 → IsValid (drill_model n)
unfolding seconds_limit horizon_limit node_limit arc_limit cell_limit people
drill-valid n few =
    let nodes = node-count n in
    let arcs = arc-count n in
    record {
      seconds = (omega arith, omega arith);
      horizon = omega arith;
      nodes_fit = omega (arith, nodes, few);
      arcs_fit = omega (arith, arcs, few);
      cells_fit = omega (arith, nodes, arcs, few);
      people_fit = omega (arith, people-few n few);
      nodes = nodes-are n few;
      names_differ = names-differ n;
      arcs = arcs-are n;
      ends_differ = ends-differ n;
      entrants = All-nil (IsEntrant (drill_nodes n) 600);
      entrants_sorted = λ i j d before within. absurd (omega arith);
    }
