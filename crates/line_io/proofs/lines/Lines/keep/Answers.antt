use Rattle.std.proofs.Common.{ap, arith}
use Rattle.std.proofs.lemmas.Grind.{common_steps}
use Rattle.std.proofs.lemmas.List.{length-take-le, length-take, length-drop, take-take}
use Rattle.std.proofs.lemmas.List.{with_items_is}
use Rattle.line_io.specs.Line.{input_limit, line_limit}
use Rattle.line_io.proofs.ReaderLemmas.{pending-drops, take_at-front}
use Rattle.line_io.proofs.lines.Lines.keep.Goals as goal

pub write_at-requires : goal.write_at-requires
unfolding line_limit
write_at-requires c = grind (arith, length-take)

pub overflow_add-self-2 : goal.overflow_add-self-2
unfolding input_limit
overflow_add-self-2 c = let given = ap (λ r. r.given) c.self.view_is in let limit = c.requires.limit in omega arith

pub overflow_add-self-3 : goal.overflow_add-self-3
unfolding input_limit
overflow_add-self-3 c = let limited = c.self.invariant.limited in omega arith

pub invariant_of-self : goal.invariant_of-self
unfolding input_limit line_limit
invariant_of-self c = grind (arith, length-take, length-drop, common_steps, with_items_is)

pub returns : goal.returns
returns c = grind (arith, length-take, length-drop, pending-drops, with_items_is, length-take-le, take_at-front, take-take)
