use Rattle.std.proofs.Common.{ap, refl}
use Rattle.edit_session.specs.Sessions.{SessionState}
use Rattle.talk.specs.StudyTexts.{Row}
use Rattle.talk.proofs.RowLemmas.{row_as}
use Rattle.talk.proofs.studies.exits.put_studied.Goals as goal

pub returns-clause-text : goal.returns-clause-text
returns-clause-text g c =
    let m = c.args.session.now.state.model in
    let s = c.row_of-row.new.session in
    let row : Row = record { exit = c.args.node; outcome = c.row_of-row.result; cut = s.refused } in (
      row,
      refl,
      c.row_of-row.ensures.row,
      row_as m s.state.model c.args.node s.refused c.row_of-row.result _ _ (ap (λ (z : SessionState). z.model) c.row_of-row.ensures.unchanged) c.put_row.ensures,
    )
