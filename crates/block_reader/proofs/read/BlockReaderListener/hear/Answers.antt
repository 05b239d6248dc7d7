use Rattle.block_reader.proofs.BlockReadLemmas.{ready-on}
use Rattle.block_reader.proofs.read.BlockReaderListener.hear.Goals as goal

pub returns-clause-more : goal.returns-clause-more
returns-clause-more c = λ is. record {
  valid = c.requires.ready.valid;
  names = c.requires.ready.names;
  draft = ready-on c.hear.result _ _ _ _ c.requires.ready.draft c.hear.ensures is;
}
