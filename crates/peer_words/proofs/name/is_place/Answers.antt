use Rattle.std.proofs.Common.{◌<◌, length, arith}
use Rattle.std.proofs.lemmas.Bool.Decides.{nat_tests}
use Rattle.peer_words.proofs.Places.{no_colon, place_read}
use Rattle.peer_words.proofs.name.is_place.Goals as goal

pub returns-in_default : goal.returns-in_default
returns-in_default c = no_colon c.args.word.now c.split_once.result c.split_once.ensures.cases c.in_default.is

pub returns : goal.returns
returns c =
    let some : 0 < length c.in-Some.host.now = grind (arith, nat_tests) in
    place_read c.args.word.now c.split_once.result (c.in-Some.host, c.in-Some.digits) c.number_within.result c.is_some.result c.split_once.ensures.cases c.in-Some.is (omega arith) some c.number_within.ensures c.is_some.ensures
