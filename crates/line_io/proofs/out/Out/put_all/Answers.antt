use Rattle.std.proofs.Common.{rules, ◌∙◌, ◌++◌, [], ap, append-nil, append_assoc, refl, sym}
use Rattle.std.proofs.lemmas.List.{nil_from_length}
use Rattle.line_io.proofs.TextLemmas.{puts-none, puts-then, puts-is, text-done, text-failed, front-is, front-then, front-none}
use Rattle.line_io.proofs.out.Out.put_all.Goals as goal

pub loop-piece-init : goal.loop-piece-init
loop-piece-init g c = (search rules, tt, search rules, refl, ([], puts-none _ _, search rules))

pub loop-piece-preserved : goal.loop-piece-preserved
loop-piece-preserved g c =
    let steps = c.in-Some.ensures.steps in
    let so_far = c.loop-piece.invariant.4 in (
      search rules,
      tt,
      steps.0 ∙ c.loop-piece.invariant.2,
      c.in_ok-put.ensures.cause.same ∙ c.loop-piece.invariant.3,
      (
        so_far.0 ++ c.in-Some.piece.now,
        puts-then so_far.1 c.in_ok-put.ensures.ok,
        append_assoc so_far.0 _ _ ∙ ap (λ l. so_far.0 ++ l) (sym steps.1.0) ∙ so_far.2,
      ),
    )

pub returns-in_err-put-clause-text : goal.returns-in_err-put-clause-text
returns-in_err-put-clause-text g c =
    let so_far = c.loop-piece.invariant.4 in
    text-failed c.from_residual.result c.from_residual.ensures.0 (front-is so_far.2 (front-then so_far.1 (front-none _ c.in_err-put.ensures.err)))

pub returns-clause-text : goal.returns-clause-text
returns-clause-text g c =
    let so_far = c.loop-piece.invariant.4 in
    let none = nil_from_length _ c.in-None.ensures.steps.1.0 in
    text-done _ (puts-is (sym (append-nil so_far.0) ∙ ap (λ l. so_far.0 ++ l) (sym none) ∙ so_far.2) so_far.1)
