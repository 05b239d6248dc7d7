use Rattle.std.proofs.Common.{◌≡◌, ◌-◌, ◌∙◌, [], true, false, ap, append-nil, arith, codes, length, refl, sym}
use Rattle.line_io.proofs.WriterLemmas.{writes_is, writes_then}
use Rattle.evac_law.specs.declared.model.Model.{Model}
use Rattle.evac_law.specs.Building.{is_exit_at}
use Rattle.report_text.specs.ReportText.{number_line}
use Rattle.edit_session.specs.Sessions.{SessionState}
use Rattle.talk.specs.StudyTexts.{exits_of}
use Rattle.talk.proofs.RowLemmas.{exits_text, rows_none, rows_put, rows_said, rows_same}
use Rattle.talk.proofs.studies.exits.put_exits.Goals as goal
use Rattle.talk.proofs.studies.exits.put_exits.Goals.{then-is_exit, else-is_exit}

pub loop-node-init : goal.loop-node-init
loop-node-init g c =
    let m = c.args.session.now.state.model in
    let count : c.from.result ≡ length (exits_of m) = c.from.ensures ∙ c.exit_count.ensures ∙ ap (λ (z : Model). length (exits_of z)) c.model.ensures.model in
    let head = number_line (codes "exits") (length (exits_of m)) in (
      [],
      rows_none m,
      writes_is (ap (number_line (codes "exits")) count ∙ sym (append-nil head)) c.put_number.ensures,
      refl,
      omega arith,
    )

pub loop-node-preserved : goal.loop-node-preserved
loop-node-preserved g c =
    let m = c.args.session.now.state.model in
    let n = c.loop-node.node in
    let h = c.loop-node.invariant in
    let head = number_line (codes "exits") (length (exits_of m)) in
    let same : c.loop-node.session.state.model ≡ m = ap (λ (s : SessionState). s.model) h.3 in
    let here : c.model-in-loop-node.result.now ≡ m = c.model-in-loop-node.ensures.model ∙ same in
    elim c.if-is_exit.branch [
      | then-is_exit w ↦
          let exit : is_exit_at m n ≡ true = (let a = w.if-is_exit.true in let b = c.is_exit.ensures in let d = c.node.ensures in cc) in
          let studied = w.put_studied.ensures in
          let more = rows_put m c.loop-node.session.state.model n head h.0 _ _ _ h.1 exit same studied.text h.2 in
          rw (w.session-is, w.writer-is, w.steps-is) (more.0, more.1, more.2, studied.unchanged ∙ h.3, omega (arith, h.4, studied.counted.1))
      | else-is_exit w ↦
          let none : is_exit_at m n ≡ false = (let a = w.if-is_exit.false in let b = c.is_exit.ensures in let d = c.node.ensures in cc) in
          rw (w.session-is, w.writer-is, w.steps-is) (h.0, rows_same m n h.0 h.1 none, h.2, h.3, h.4)
    ]

pub returns-clause-text : goal.returns-clause-text
returns-clause-text g c =
    let m = c.args.session.now.state.model in
    let h = c.loop-node.invariant in
    let end : c.loop-node.node ≡ length m.nodes =
    omega (arith, c.loop-node-test.false, c.loop-node.auto.node-end, c.node_count-node-end.ensures.count, ap (λ (z : Model). length z.nodes) c.model-2.ensures.model) in (
      exits_text m h.0,
      rows_said m c.loop-node.node h.0 end h.1,
      writes_then h.2 c.put_end.ensures,
    )

pub returns-clause-counted : goal.returns-clause-counted
returns-clause-counted g c = (c.loop-node.steps - c.args.steps.now, omega (arith, c.loop-node.invariant.4))
