use Rattle.std.proofs.Common.{arith, refl}
use Rattle.model_writer.specs.ModelText.{building_text}
use Rattle.evac_top.specs.Upgrade.{IsUpgraded}
use Rattle.evac_top.proofs.TellLemmas.{tells-sent}
use Rattle.talk.specs.Statuses.{status_number}
use Rattle.evac_top.proofs.upgrade.answer.Goals as goal

pub returns : goal.returns
returns g c =
    let building = c.args.building in
    tells-sent (IsUpgraded building) 0 0 (building_text building) c.send_model.result _ _ (status_number c.status_after-status.result) c.status_after-status.ensures (omega arith)
    c.requires.fresh c.send_model.ensures (λ taken. record { over = refl; text_whole = refl; counted = refl })
