-- The ledger of the counter is the one that the blank opens.
use Rattle.worked_cases.proofs.caller.the_plan_of_a_room_is_right.Given as goal

abbrev pub ghosts-check_begun : goal.ghosts-check_begun
ghosts-check_begun g a = record { name = a.blank.name; parts = a.blank.parts }
