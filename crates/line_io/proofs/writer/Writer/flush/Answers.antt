use Rattle.line_io.proofs.CallLemmas.{offers-none}
use Rattle.line_io.proofs.writer.Writer.flush.Goals as goal

-- a sink that failed is offered nothing more
pub returns-then-self-clause-offers : goal.returns-then-self-clause-offers
returns-then-self-clause-offers g c = offers-none g.K.Sink.puts c.args.self.now.out.now c.args.self.now.sink.now
