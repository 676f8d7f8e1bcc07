use Rattle.spelling.proofs.Reader.{reads_u16_up_to}
use Rattle.spelling.proofs.laws.numbers_of_two_bytes.Goals as goal

pub returns : goal.returns
returns c = reads_u16_up_to
