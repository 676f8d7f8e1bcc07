use Rattle.std.proofs.Common.{rules, ◌≡◌, ◌+◌, ◌<◌, ◌^◌, [], ◌++◌, map, drop, length, refl, subst}
use Rattle.cap_codec.specs.Rows.{row_of}
use Rattle.sync_link.specs.Signing.{OwesIn}
use Rattle.sync_link.specs.Talking.{Keeps}
use Rattle.sync_link.specs.Taking.{waiting_side}
use Rattle.sync_link.specs.TakingAll.{TakesAll}
use Rattle.sync_link.proofs.HearingOn.{counts_on, held_on}
use Rattle.sync_link.proofs.Owing.{asks_so, owes_held}
use Rattle.sync_link.proofs.Signed.{signs_on_held}
use Rattle.sync_link.proofs.side.inbox.hear_on.Goals as goal

pub returns-clause-counts : goal.returns-clause-counts
returns-clause-counts g c =
    let old = c.args.inbox.now in
    let bytes = c.hold.new.held.items in
    let rest = c.drop_front.new.held.items in
    let n = c.in_ok-taken.taken in
    let all : bytes ≡ old.held.items ++ c.args.piece.now = search rules in
    let left : rest ≡ drop n bytes = search rules in
    let takes : TakesAll g.S.Verify.rules g.R.Row.value c.args.participant.now c.take_all.new.participant old.due c.take_all.new.due bytes n c.args.out.now.items c.take_all.new.out.items (map row_of c.args.lists.now.rows.items) (map row_of c.take_all.new.lists.rows.items) = search rules in
    λ well signature may.
    counts_on g.S.Verify.rules g.R.Row.value c.args.participant.now c.take_all.new.participant old.due c.take_all.new.due old.at (old.at + n) old.held.items c.args.piece.now bytes rest n
    c.args.out.now.items c.take_all.new.out.items (map row_of c.args.lists.now.rows.items) (map row_of c.take_all.new.lists.rows.items) c.requires all refl left takes well signature may

pub returns-clause-held : goal.returns-clause-held
returns-clause-held g c =
    let old = c.args.inbox.now in
    let bytes = c.hold.new.held.items in
    let rest = c.drop_front.new.held.items in
    let n = c.in_ok-taken.taken in
    let all : bytes ≡ old.held.items ++ c.args.piece.now = search rules in
    let left : rest ≡ drop n bytes = search rules in
    let keeps : Keeps c.args.participant.now c.take_all.new.participant = search rules in
    let few : old.at + length bytes < 2 ^ 64 = search rules in
    let takes : TakesAll g.S.Verify.rules g.R.Row.value c.args.participant.now c.take_all.new.participant old.due c.take_all.new.due bytes n c.args.out.now.items c.take_all.new.out.items (map row_of c.args.lists.now.rows.items) (map row_of c.take_all.new.lists.rows.items) = search rules in
    held_on g.S.Verify.rules g.R.Row.value c.args.participant.now c.take_all.new.participant old.due c.take_all.new.due old.at (old.at + n) old.held.items c.args.piece.now bytes rest n
    c.args.out.now.items c.take_all.new.out.items (map row_of c.args.lists.now.rows.items) (map row_of c.take_all.new.lists.rows.items) c.requires all refl left takes keeps few

pub returns-clause-greets : goal.returns-clause-greets
returns-clause-greets g c =
    let old = c.args.inbox.now in
    let bytes = c.deref.result.now in
    let rest = c.drop_front.new.held.items in
    let n = c.in_ok-taken.taken in
    let all : bytes ≡ old.held.items ++ c.args.piece.now = search rules in
    signs_on_held (g.K.Signer.gives c.args.signer.now) g.S.Verify.rules g.R.Row.value c.args.participant.now old.due old.at old.held.items c.args.piece.now c.requires.holds bytes
    (waiting_side g.S.Verify.rules g.R.Row.value c.take_all.new.participant c.take_all.new.due (old.at + n) (drop n bytes)) (waiting_side g.S.Verify.rules g.R.Row.value c.take_all.new.participant c.take_all.new.due (old.at + n) rest)
    all refl (c.in_ok-taken.ensures.greets old.at)

pub returns-clause-due : goal.returns-clause-due
returns-clause-due g c =
    let old = c.args.inbox.now in
    let bytes = c.deref.result.now in
    let all : bytes ≡ old.held.items ++ c.args.piece.now = search rules in
    asks_so _ _ _ _ _ _ (λ owes. owes_held g.S.Verify.rules g.R.Row.value c.args.participant.now old.due old.at old.held.items c.args.piece.now c.requires.holds (subst (OwesIn (waiting_side g.S.Verify.rules g.R.Row.value c.args.participant.now old.due old.at [])) all (owes old.at))) c.take_all.ensures.due

pub returns-in_err-taken-clause-due : goal.returns-in_err-taken-clause-due
returns-in_err-taken-clause-due g c =
    let old = c.args.inbox.now in
    let bytes = c.deref.result.now in
    let all : bytes ≡ old.held.items ++ c.args.piece.now = search rules in
    asks_so _ _ _ _ _ _ (λ owes. owes_held g.S.Verify.rules g.R.Row.value c.args.participant.now old.due old.at old.held.items c.args.piece.now c.requires.holds (subst (OwesIn (waiting_side g.S.Verify.rules g.R.Row.value c.args.participant.now old.due old.at [])) all (owes old.at))) c.take_all.ensures.due

pub returns-in_err-drop_front-clause-due : goal.returns-in_err-drop_front-clause-due
returns-in_err-drop_front-clause-due g c =
    let old = c.args.inbox.now in
    let bytes = c.deref.result.now in
    let all : bytes ≡ old.held.items ++ c.args.piece.now = search rules in
    asks_so _ _ _ _ _ _ (λ owes. owes_held g.S.Verify.rules g.R.Row.value c.args.participant.now old.due old.at old.held.items c.args.piece.now c.requires.holds (subst (OwesIn (waiting_side g.S.Verify.rules g.R.Row.value c.args.participant.now old.due old.at [])) all (owes old.at))) c.take_all.ensures.due
