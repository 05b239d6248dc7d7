use Rattle.std.proofs.Common.{length, ap, sym, ◌∙◌}
use Rattle.edit_session.specs.Sessions.{SessionView}
use Rattle.edit_session.proofs.Ring.{former_length}
use Rattle.edit_session.proofs.session.Session.kept.Goals as goal

pub returns : goal.returns
returns c =
    let s = c.self.inside in
    c.len.ensures.len ∙ sym (former_length s.planned.model s.ring.items) ∙ ap (λ (z : SessionView). length z.state.former) c.self.view_is
