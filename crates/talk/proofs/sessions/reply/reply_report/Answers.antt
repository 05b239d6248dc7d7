use Rattle.std.proofs.Common.{refl}
use Rattle.model_text.specs.declared.command.Report.TheVariants.{Routes, Clearing, Bottlenecks, Summary}
use Rattle.session_text.specs.StateTexts.{bottlenecks_of, clearing_of}
use Rattle.talk.specs.SessionDesks.{desk_state}
use Rattle.talk.specs.Sessions.{Reports}
use Rattle.talk.proofs.Saying.{as_made, text_said}
use Rattle.talk.proofs.sessions.reply.reply_report.Goals as goal

pub returns-in-Routes-clause-says : goal.returns-in-Routes-clause-says
returns-in-Routes-clause-says g c =
    let d = c.args.desk.now in
    let v = c.args.session.now in
    let s = desk_state d v in
    let t = c.put_routes.ensures.text in
    λ steps. as_made d.names s Routes _ _ _ c.in-Routes.is
    (text_said (λ r. Reports d.names s Routes r) t.0 steps d c.put_routes.new.self v _ _ c.put_routes.ensures.same (t.0, t.1, refl) t.2)

pub returns-in-Clearing-clause-says : goal.returns-in-Clearing-clause-says
returns-in-Clearing-clause-says g c =
    let d = c.args.desk.now in
    let v = c.args.session.now in
    let s = desk_state d v in
    λ steps. as_made d.names s Clearing _ _ _ c.in-Clearing.is
    (text_said (λ r. Reports d.names s Clearing r) (clearing_of d.names d.index v.state) steps d c.put_clearing.new.self v _ _ c.put_clearing.ensures.same refl c.put_clearing.ensures.text)

pub returns-in-Bottlenecks-clause-says : goal.returns-in-Bottlenecks-clause-says
returns-in-Bottlenecks-clause-says g c =
    let d = c.args.desk.now in
    let v = c.args.session.now in
    let s = desk_state d v in
    λ steps. as_made d.names s Bottlenecks _ _ _ c.in-Bottlenecks.is
    (text_said (λ r. Reports d.names s Bottlenecks r) (bottlenecks_of d.index v.state) steps d c.put_bottlenecks.new.self v _ _ c.put_bottlenecks.ensures.same refl c.put_bottlenecks.ensures.text)

pub returns-in-Summary-clause-says : goal.returns-in-Summary-clause-says
returns-in-Summary-clause-says g c =
    let d = c.args.desk.now in
    let v = c.args.session.now in
    let s = desk_state d v in
    let t = c.put_summary.ensures.text in
    λ steps. as_made d.names s Summary _ _ _ c.in-Summary.is
    (text_said (λ r. Reports d.names s Summary r) t.0 steps d c.put_summary.new.self v _ _ c.put_summary.ensures.same (t.0, t.1, refl) t.2)
