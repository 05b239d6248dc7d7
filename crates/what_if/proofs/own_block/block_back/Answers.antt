use Rattle.std.proofs.Common.{Err, Ok, Some, ap, subst, sym}
use Rattle.evac_law.specs.declared.model.Model.{Model}
use Rattle.evac_law.specs.Building.{IsValid}
use Rattle.line_io.specs.Reader.{lines_left}
use Rattle.line_io.proofs.HearingLemmas.{never-rose}
use Rattle.building_table.specs.Names.{NamesFit}
use Rattle.certificate_text.specs.Block.{IsBlockOf}
use Rattle.what_if.proofs.OwnBlock.{answer-right, only-memory, own-back}
use Rattle.what_if.proofs.Reading.{all-left}
use Rattle.what_if.proofs.own_block.block_back.Goals as goal

pub read_block-requires-clause-valid : goal.read_block-requires-clause-valid
read_block-requires-clause-valid c = subst IsValid (sym c.model.ensures.model) c.model.ensures.solved.valid

pub read_block-requires-clause-names : goal.read_block-requires-clause-names
read_block-requires-clause-names c = subst (NamesFit c.args.names.now) (sym c.model.ensures.model) c.requires.names

pub returns-in-Ok-clause-block : goal.returns-in-Ok-clause-block
returns-in-Ok-clause-block c = subst (λ (m : Model). IsBlockOf m c.in-Ok.block) c.model.ensures.model c.in-Ok.ensures.block

pub returns-in-Ok-clause-right : goal.returns-in-Ok-clause-right
returns-in-Ok-clause-right c =
    let s = c.args.session.now.state in
    let before = lines_left c.in_ok-lines.lines (Some c.in_ok-source.source) in
    let after = lines_left c.read_block.new.lines (Some c.read_block.new.source) in
    let left = all-left c.in_ok-lines.lines c.in_ok-source.source c.args.text.now c.in_ok-lines.ensures c.in_ok-source.ensures in
    let back = own-back s c.model.result.now before after c.args.text.now (Ok c.in-Ok.block) c.model.ensures.solved c.model.ensures.model left c.requires.text c.in-Ok.ensures.back in
    answer-right 0 s.model s.plan s.labels s.last c.in-Ok.block back.0

pub want_of_memory-requires : goal.want_of_memory-requires
want_of_memory-requires c =
    let s = c.args.session.now.state in
    let before = lines_left c.in_ok-lines.lines (Some c.in_ok-source.source) in
    let after = lines_left c.read_block.new.lines (Some c.read_block.new.source) in
    let left = all-left c.in_ok-lines.lines c.in_ok-source.source c.args.text.now c.in_ok-lines.ensures c.in_ok-source.ensures in
    let back = own-back s c.model.result.now before after c.args.text.now (Err c.in-Err.fault) c.model.ensures.solved c.model.ensures.model left c.requires.text c.in-Err.ensures.back in
    only-memory 0 s.model s.plan s.labels s.last c.in-Err.fault after back (λ e. never-rose (c.in-Err.ensures.cause.rose (ap Err e)))
