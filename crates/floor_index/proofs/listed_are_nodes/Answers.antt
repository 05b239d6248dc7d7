use Rattle.floor_index.proofs.FloorLemmas.{listed_is}
use Rattle.floor_index.proofs.listed_are_nodes.Goals as goal

pub returns : goal.returns
returns c = listed_is
