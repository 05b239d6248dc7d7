-- Where the first LF stands, and what settles a line without one.
use Rattle.std.proofs.Common.{◌+◌, length, sym, ◌∙◌, nat_le, inl, inr}
use Rattle.std.proofs.lemmas.Bool.{both_ways}
use Rattle.std.specs.List.{list_any}
use Rattle.line_io.specs.Line.{line_limit, is_lf}
use Rattle.line_io.proofs.Pieces.{lf-found, lf-missed, settled-lf, settled-else, settled-not}
use Rattle.line_io.proofs.lines.settled_size.Goals as goal
use Rattle.line_io.proofs.lines.settled_size.Goals.{then-ended, else-ended}

pub returns-in-Some-clause-settled : goal.returns-in-Some-clause-settled
returns-in-Some-clause-settled c =
    let found = lf-found c.args.pending.now c.in-Some.place (sym c.find_lf.ensures ∙ c.in-Some.is) in
    rw found.0 (settled-lf c.args.ended (nat_le (line_limit + 2) (length c.args.pending.now)))

pub returns-in-Some-clause-size : goal.returns-in-Some-clause-size
returns-in-Some-clause-size c = sym (lf-found c.args.pending.now c.in-Some.place (sym c.find_lf.ensures ∙ c.in-Some.is)).1

pub returns-in-None-clause-settled : goal.returns-in-None-clause-settled
unfolding line_limit
returns-in-None-clause-settled c =
    let pending = c.args.pending.now in
    elim c.if-ended.branch [
      | then-ended w ↦ settled-else c.args.ended (nat_le 202 (length pending)) (list_any is_lf pending) (inl w.if-ended.true)
      | else-ended w ↦ settled-else c.args.ended (nat_le 202 (length pending)) (list_any is_lf pending) (inr (sym w.value-is ∙ c.if-pending.true))
    ]

pub returns-in-None-clause-size : goal.returns-in-None-clause-size
returns-in-None-clause-size c = sym (lf-missed c.args.pending.now (sym c.find_lf.ensures ∙ c.in-None.is)).1

pub returns-in-None-2-clause-unsettled : goal.returns-in-None-2-clause-unsettled
unfolding line_limit
returns-in-None-2-clause-unsettled c =
    let pending = c.args.pending.now in
    let missed = lf-missed pending (sym c.find_lf.ensures ∙ c.in-None.is) in
    elim c.if-ended.branch [
      | then-ended w ↦ absurd (both_ways _ c.if-pending.false (w.value-is ∙ w.if-ended.true))
      | else-ended w ↦ settled-not c.args.ended (nat_le 202 (length pending)) (list_any is_lf pending) w.if-ended.false (sym w.value-is ∙ c.if-pending.false) missed.0
    ]
