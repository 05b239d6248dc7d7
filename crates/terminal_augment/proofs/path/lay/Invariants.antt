use Rattle.std.proofs.Common.{◌≡◌, ◌+◌, ◌≤◌, ◌∷◌, ◌++◌, length}
use Rattle.std.specs.List.{All}
use Rattle.residual_net.specs.Network.{residual_room}
use Rattle.residual_net.specs.Site.{stop_of}
use Rattle.terminal_augment.proofs.ChainLemmas.{way_from}
use Rattle.terminal_augment.proofs.path.lay.Given as goal

abbrev pub invariant-loop-number : goal.invariant-loop-number
invariant-loop-number l = record {
  space : l.path.room ≡ l.fn.path.room;
  few : length l.path.steps ≤ l.number + 1;
  way : l.path.steps ++ way_from l.net.site l.end l.queue.list l.number ≡ l.fn.found ∷ way_from l.net.site (stop_of l.net.site l.fn.found) l.queue.list 0;
  some : 1 ≤ l.people;
  room : All (λ y. l.people ≤ residual_room l.net y) l.path.steps;
}
