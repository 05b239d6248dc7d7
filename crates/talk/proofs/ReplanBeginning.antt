-- A replan that begins is opened.
use Rattle.std.proofs.Common.{◌≡◌, ℕ, Ok, refl, ap}
use Rattle.evac_law.specs.declared.model.Model.{Model}
use Rattle.certificate_text.specs.BlockLaws.{BlockReadsBack}
use Rattle.replan.specs.Replans.{ReplanBegins, ReplanView, nobody_gone}
use Rattle.session_text.specs.StateTexts.{block_text}
use Rattle.talk.specs.SessionDesks.{DeskView, desk_state}
use Rattle.talk.proofs.Bridge.{begin_opens, block_reply}
use Rattle.talk.specs.ReplanDesks.{replanned}
use Rattle.talk.specs.ReplanTalks.{ReplanOpens, Replanned}
use Rattle.talk.proofs.Carrying.{same_replanned}
use Rattle.talk.specs.Speaking.{opened}

pub begun_opens : BlockReadsBack → (m : Model) (d : DeskView) (v : ReplanView) (n : ℕ) → d.index ≡ 0 → ReplanBegins m (Ok v) n
    → ReplanOpens m (opened (block_text d.index v.session.state) (replanned d v) n)
begun_opens back m d v n first h =
    let s = desk_state d v.session in
    let text = block_text d.index v.session.state in
    (block_reply s n, begin_opens back m d v.session n first h.0, ap (λ (x : Replanned). opened text x n) (same_replanned s s v.moment 0 v.gone (nobody_gone m) refl h.1 h.2))
