use Rattle.terminal_augment.proofs.BufferLemmas.{buffers_with, queue_with}
use Rattle.terminal_augment.proofs.moment.is_over.Goals as goal

pub returns-then-floods_first-clause-buffers : goal.returns-then-floods_first-clause-buffers
returns-then-floods_first-clause-buffers c = λ n h x. queue_with c.close.ensures.room (buffers_with c.floods_first.new.self x)

pub returns-else-floods_first-clause-buffers : goal.returns-else-floods_first-clause-buffers
returns-else-floods_first-clause-buffers c = λ n h x. buffers_with c.floods_first.new.self x
