use Rattle.what_if.proofs.Cleared.{of-building}
use Rattle.what_if.proofs.shut_exit.what_if.Goals as goal

pub returns : goal.returns
returns c =
    let building = c.in_ok-model.field-0 in
    of-building c.args.text.now c.args.exit building c.answer_uncounted.result c.in_ok-model.ensures.building c.answer_uncounted.ensures
