-- The ledger of the counter is the one that the blank opens.
use Rattle.worked_rows.proofs.calls.run_over.Given as goal

abbrev pub ghosts-run_uncounted : goal.ghosts-run_uncounted
ghosts-run_uncounted a = record { name = a.blank.name; parts = a.blank.parts }
