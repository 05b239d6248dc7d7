-- The block of each certified plan reads back.
use Rattle.certificate_text.specs.BlockLaws.{BlockReadsBack}
use Rattle.certificate_text.proofs.AnswerBack.{reads_back}

pub back : BlockReadsBack
back = reads_back
