use Rattle.std.proofs.Common.{Err, Ok, refl}
use Rattle.model_text.specs.declared.command.Command.TheVariants as commands
use Rattle.talk.proofs.DeskLemmas.{desk_fit}
use Rattle.talk.specs.ReplanDesks.{replanned}
use Rattle.talk.specs.ReplanTalks.{SessionRow}
use Rattle.talk.proofs.Carrying.{code_said, widened}
use Rattle.talk.proofs.Rows.{named_row, unknown_row}
use Rattle.talk.proofs.replans.speaker.reply_named.Goals as goal

pub reply_edit-requires-clause-edit : goal.reply_edit-requires-clause-edit
reply_edit-requires-clause-edit g c = c.in-Ok.ensures.within _ (desk_fit _ _ c.requires.desk)

pub returns-in-Ok-clause-says : goal.returns-in-Ok-clause-says
returns-in-Ok-clause-says g c =
    let t = c.args.talk.now in
    let s = replanned t.desk t.replan in
    λ before. widened _ (λ r. SessionRow t.desk.names c.args.line s (commands.Edit c.args.named) r) _ _
    (λ r. named_row t.desk.names c.args.line s c.args.named c.in-Ok.edit (Ok c.in-Ok.edit) refl c.in-Ok.ensures.edit r) (c.reply_edit.ensures.says before)

pub returns-in-Err-clause-says : goal.returns-in-Err-clause-says
returns-in-Err-clause-says g c =
    let t = c.args.talk.now in
    let s = replanned t.desk t.replan in
    λ before. code_said (λ r. SessionRow t.desk.names c.args.line s (commands.Edit c.args.named) r) c.args.line _ _ t.desk t.replan _ _ _ c.code.ensures
    (unknown_row t.desk.names c.args.line s c.args.named c.in-Err.fault (Err c.in-Err.fault) refl c.in-Err.ensures.edit) c.put_refusal.ensures
