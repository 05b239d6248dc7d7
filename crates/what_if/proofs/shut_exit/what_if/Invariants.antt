-- The ledger of the counter is the one that the blank opens.
use Rattle.what_if.proofs.shut_exit.what_if.Given as goal

abbrev pub ghosts-answer_uncounted : goal.ghosts-answer_uncounted
ghosts-answer_uncounted a = record { name = a.blank.name; parts = a.blank.parts }
