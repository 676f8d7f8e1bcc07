use Rattle.std.proofs.Common.{◌≡◌, ◌+◌, ◌∙◌, Bool, List, [], length, drop, inl, inr, sym, subst, arith}
use Rattle.std.proofs.lemmas.List.{take_at}
use Rattle.peer_image.specs.ImageTwoParts.{AreMarked}
use Rattle.peer_image.proofs.TwoReading.{image_from, part_whole, rows_ask_whole, wrong_from}
use Rattle.peer_image.proofs.read_two.read_behind_told.Goals as goal

pub returns-in-Err-clause-asked : goal.returns-in-Err-clause-asked
returns-in-Err-clause-asked c = λ want. rows_ask_whole c.args.behind.now c.args.head.count c.args.told.now c.args.middle.now c.requires.told (inl c.in-Err.ensures.some)

pub returns-in-Err-rows_among-clause-asked : goal.returns-in-Err-rows_among-clause-asked
returns-in-Err-rows_among-clause-asked c = λ want. rows_ask_whole c.args.behind.now c.args.head.count c.args.told.now c.args.middle.now c.requires.told (inr c.in-Err-rows_among.ensures.asked)

pub returns-then-is_end_two-clause-rows : goal.returns-then-is_end_two-clause-rows
returns-then-is_end_two-clause-rows c =
    let read = c.in-Ok-rows_among.read in
    let n : c.len.result ≡ length read.0.items = omega (arith, c.len.ensures) in
    let unset = subst (λ (l : List Bool). AreMarked l (length c.args.told.now) []) (sym c.deref_mut.ensures.value) c.in-Ok.ensures.unset in
    let long = c.in-Ok-rows_among.ensures.reads.so.marked [] unset in
    let marks_now = c.deref.ensures.value ∙ take_at c.rows_among.new.marks (drop (length c.rows_among.new.marks) c.in-Ok.marks.items) c.in-Ok.marks.len (omega (arith, long.long, c.in-Ok.ensures.unset.long, c.in-Ok.marks.ok.0)) in
    image_from c.args.bytes.now c.args.head c.args.behind.now c.args.told.now c.args.middle.now c.deref_mut.result.now read.0.items c.rows_among.new.marks read.1.now c.requires.head c.requires.behind c.requires.told c.requires.all unset
    c.in-Ok-rows_among.ensures.reads.so c.deref.result.now c.len.result marks_now n c.if-is_end_two.ensures

pub returns-clause-rows : goal.returns-clause-rows
returns-clause-rows c =
    let read = c.in-Ok-rows_among.read in
    let n : c.len.result ≡ length read.0.items = omega (arith, c.len.ensures) in
    let unset = subst (λ (l : List Bool). AreMarked l (length c.args.told.now) []) (sym c.deref_mut.ensures.value) c.in-Ok.ensures.unset in
    let long = c.in-Ok-rows_among.ensures.reads.so.marked [] unset in
    let marks_now = c.deref.ensures.value ∙ take_at c.rows_among.new.marks (drop (length c.rows_among.new.marks) c.in-Ok.marks.items) c.in-Ok.marks.len (omega (arith, long.long, c.in-Ok.ensures.unset.long, c.in-Ok.marks.ok.0)) in
    let none_there = part_whole c.args.told.now c.args.middle.now (length c.args.middle.now + 1) c.deref_mut.result.now read.0.items c.rows_among.new.marks read.1.now c.in-Ok-rows_among.ensures.reads (omega arith) in
    wrong_from c.args.bytes.now c.args.head c.args.behind.now c.args.told.now c.args.middle.now c.deref_mut.result.now read.0.items c.rows_among.new.marks read.1.now c.requires.head c.requires.behind c.requires.told c.requires.all unset
    c.in-Ok-rows_among.ensures.reads.so c.deref.result.now c.len.result c.bad_at.result none_there marks_now n c.if-is_end_two.ensures c.bad_at.ensures
