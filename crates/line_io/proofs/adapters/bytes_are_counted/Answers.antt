use Rattle.line_io.proofs.CountLemmas.{bytes_are_counted}
use Rattle.line_io.proofs.adapters.bytes_are_counted.Goals as goal

pub returns : goal.returns
returns c = λ _ s s' limit h. bytes_are_counted s s' limit h
