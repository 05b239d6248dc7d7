use Rattle.building_laws.proofs.Rooms.{room_edits_keep_most}
use Rattle.building_laws.proofs.laws.room_edits_keep_most.Goals as goal

pub returns : goal.returns
returns c = room_edits_keep_most
