use Rattle.std.proofs.Common.{[], arith}
use Rattle.std.proofs.lemmas.List.{nil_from_length}
use Rattle.willow_path.proofs.PathBytes.{first_part_at, parts_of-from}
use Rattle.willow_path.proofs.path.first_part.Goals as goal

pub split_at-requires : goal.split_at-requires
split_at-requires c = (first_part_at c.args.bytes.now c.from.result (omega arith) c.from.ensures c.requires).0

pub returns-in-empty : goal.returns-in-empty
returns-in-empty c = parts_of-from c.args.bytes.now [] (nil_from_length c.args.bytes.now (omega arith))

pub returns-in-len1-up : goal.returns-in-len1-up
returns-in-len1-up c = rw (c.split_at.ensures.front, c.split_at.ensures.back) (first_part_at c.args.bytes.now c.from.result (omega arith) c.from.ensures c.requires).1
