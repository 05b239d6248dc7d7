use Rattle.std.proofs.Common.{◌∙◌, ap}
use Rattle.edit_session.specs.Sessions.{SessionView}
use Rattle.talk.specs.declared.replans.speaker.ReplanTalk.{ReplanTalk}
use Rattle.talk.proofs.ReplanGoing.{advance_served}
use Rattle.talk.proofs.replans.speaker.ReplanTalk.advance.Goals as goal

pub returns : goal.returns
returns g c =
    let t = c.args.self.now in
    let e = c.in_ok-advance.ensures.ends in
    let t' : ReplanTalk = record { alloc = t.alloc; desk = c.count_block.new.self; replan = c.advance.new.self } in
    let is = c.model-2.ensures.model ∙ ap (λ (v : SessionView). v.state.model) c.session-2.ensures in (
      e.0,
      e.1,
      advance_served t t' c.args.moment e.0 c.model-2.result.now c.renew.new.self c.requires c.renew.ensures.same c.in-Ok.ensures.tables is c.count_block.ensures.next c.count_block.ensures.same e.2,
    )
