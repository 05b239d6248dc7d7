use Rattle.std.proofs.Common.{Err, Ok, Some, ap}
use Rattle.line_io.specs.Reader.{lines_left}
use Rattle.line_io.proofs.HearingLemmas.{never-rose}
use Rattle.what_if.proofs.Reading.{described, of-text, refused}
use Rattle.what_if.proofs.shut_exit.building_of.Goals as goal

pub returns-in-Ok-clause-building : goal.returns-in-Ok-clause-building
returns-in-Ok-clause-building c =
    let text = c.args.text.now in
    let n = c.read_model.new.lines.number in
    let after = lines_left c.read_model.new.lines (Some c.read_model.new.source) in
    described text c.in-Ok.building n after
    (of-text c.in_ok-lines.lines c.in_ok-source.source text (Ok c.in-Ok.building) n after c.in_ok-lines.ensures c.in_ok-source.ensures c.in-Ok.ensures.reading)

pub returns-in-Err-Named-clause-building : goal.returns-in-Err-Named-clause-building
returns-in-Err-Named-clause-building c =
    let text = c.args.text.now in
    let fault = c.in-Err-Named.field-0 in
    let n = c.read_model.new.lines.number in
    let after = lines_left c.read_model.new.lines (Some c.read_model.new.source) in
    refused text fault c.in-Err-Named.code c.in-Err-Named.line n after c.in-Err-Named.field-0-is
    (of-text c.in_ok-lines.lines c.in_ok-source.source text (Err fault) n after c.in_ok-lines.ensures c.in_ok-source.ensures c.in-Err-Named.ensures.reading)

pub unreachable-requires : goal.unreachable-requires
unreachable-requires c = never-rose (c.in-Err-ReadFault.ensures.cause.rose (ap Err c.in-Err-ReadFault.field-0-is))
