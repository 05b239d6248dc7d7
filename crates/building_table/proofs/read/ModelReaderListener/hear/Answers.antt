use Rattle.std.proofs.Common.{refl}
use Rattle.building_table.proofs.HearLemmas.{hears-first, hears-later}
use Rattle.building_table.proofs.read.ModelReaderListener.hear.Goals as goal

pub returns-in-Some-clause-hears : goal.returns-in-Some-clause-hears
returns-in-Some-clause-hears c = hears-later c.hear.result c.in-Some.version c.args.self.now _ c.args.text.now c.args._line c.in-Some.is c.in-Some.is c.hear.ensures

pub returns-in_ok-self-in-None-clause-hears : goal.returns-in_ok-self-in-None-clause-hears
returns-in_ok-self-in-None-clause-hears c = hears-first c.in_ok-self-in-None.field-0 c.args.self.now _ c.args.text.now c.args._line c.in-None.is refl refl c.in_ok-self-in-None.ensures
