use Rattle.spelling.proofs.Reader.{reads_u32_up_to}
use Rattle.spelling.proofs.laws.numbers_of_four_bytes.Goals as goal

pub returns : goal.returns
returns c = reads_u32_up_to
