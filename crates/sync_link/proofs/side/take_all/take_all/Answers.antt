use Rattle.std.proofs.Common.{rules, ◌≡◌, inl, refl, map, ap, arith, None}
use Rattle.cap_codec.specs.Rows.{row_of}
use Rattle.sync_link.proofs.Asked.{signing_fails, signing_on}
use Rattle.sync_link.proofs.Owing.{asks_front}
use Rattle.sync_link.proofs.Signed.{signs_closed, signs_end, signs_more}
use Rattle.sync_link.proofs.Taken.{all_behind, front_none, front_by, front_end, front_closed, more_taken, once_by, signs_on}
use Rattle.sync_link.proofs.side.take_all.take_all.Goals as goal

pub loop-participant-init : goal.loop-participant-init
loop-participant-init g c = record {
  front = front_none g.S.Verify.rules g.R.Row.value c.args.participant.now c.args.due.now c.args.bytes.now c.args.out.now.items (map row_of c.args.lists.now.rows.items) c.requires.fits;
  signing = record { asked = record { gives_same = refl; unasked = λ unsigned. (unsigned, refl); once = inl refl }; counts = refl };
  signs = λ signature made. inl made;
  greets = λ at signature made. inl made;
  due = inl (refl, refl);
}

-- ---- a message is whole

pub loop-participant-preserved : goal.loop-participant-preserved
loop-participant-preserved g c =
    let now = c.loop-participant in
    let is = now.invariant in
    let e = c.in-Ok-Some.ensures in
    let first = c.args.participant.now in
    let new = c.take.new.participant in
    let once = once_by g.S.Verify.rules g.R.Row.value first now.participant new c.args.due.now now.due c.take.new.due c.args.bytes.now now.taken c.args.out.now.items now.out.items c.take.new.out.items (map row_of c.args.lists.now.rows.items) (map row_of now.lists.rows.items) (map row_of c.take.new.lists.rows.items)
    is.front _ c.in-Ok-Some.field-0 (all_behind now.taken c.args.bytes.now) e.keeps e.steps e.counts e.fits e.read in
    record {
      front =
          front_by g.S.Verify.rules g.R.Row.value first now.participant new c.args.due.now now.due c.take.new.due c.args.bytes.now now.taken c.args.out.now.items now.out.items c.take.new.out.items (map row_of c.args.lists.now.rows.items) (map row_of now.lists.rows.items) (map row_of c.take.new.lists.rows.items)
          is.front _ c.in-Ok-Some.field-0 (all_behind now.taken c.args.bytes.now) e.keeps e.steps e.counts e.fits e.read c.in-Ok-Some.more c.in-Ok-Some.field-0-is;
      signing = signing_on _ is.signing e.signing;
      signs =
          signs_on (g.K.Signer.gives c.args.signer.now) (g.K.Signer.gives now.signer) first.role now.participant.role first.hello now.participant.hello first.signature now.participant.signature new.signature is.signing.asked.gives_same
          (ap (λ t. t.role) is.front.keeps) (ap (λ t. t.hello) is.front.keeps) is.signs e.signs;
      greets =
          signs_more (g.K.Signer.gives c.args.signer.now) (g.K.Signer.gives now.signer) g.S.Verify.rules g.R.Row.value first now.participant new c.args.due.now now.due c.take.new.due c.args.bytes.now now.taken c.args.out.now.items now.out.items (map row_of c.args.lists.now.rows.items) (map row_of now.lists.rows.items)
          is.front is.greets is.signing.asked.gives_same _ (all_behind now.taken c.args.bytes.now) once c.in-Ok-Some.field-0 e.greets c.in-Ok-Some.more c.in-Ok-Some.field-0-is;
      due = asks_front g.S.Verify.rules g.R.Row.value c.args.participant.now now.participant c.args.due.now now.due c.args.bytes.now now.taken c.args.out.now.items now.out.items (map row_of c.args.lists.now.rows.items) (map row_of now.lists.rows.items)
          now.invariant.front c.take.new.participant.signature c.args.signer.now now.signer c.take.new.signer _ (all_behind now.taken c.args.bytes.now) now.invariant.due c.take.ensures.due;
    }

pub overflow_add-taken : goal.overflow_add-taken
overflow_add-taken g c =
    let now = c.loop-participant in
    let e = c.in-Ok-Some.ensures in
    let some = more_taken g.S.Verify.rules g.R.Row.value c.args.participant.now now.participant c.take.new.participant c.args.due.now now.due c.take.new.due c.args.bytes.now now.taken c.args.out.now.items now.out.items c.take.new.out.items (map row_of c.args.lists.now.rows.items) (map row_of now.lists.rows.items) (map row_of c.take.new.lists.rows.items)
    now.invariant.front _ c.in-Ok-Some.field-0 (all_behind now.taken c.args.bytes.now) e.keeps e.steps e.counts e.fits e.read c.in-Ok-Some.more c.in-Ok-Some.field-0-is in
    omega (arith, c.requires.few, some.1)

pub loop-participant-smaller : goal.loop-participant-smaller
loop-participant-smaller g c =
    let now = c.loop-participant in
    let e = c.in-Ok-Some.ensures in
    let some = more_taken g.S.Verify.rules g.R.Row.value c.args.participant.now now.participant c.take.new.participant c.args.due.now now.due c.take.new.due c.args.bytes.now now.taken c.args.out.now.items now.out.items c.take.new.out.items (map row_of c.args.lists.now.rows.items) (map row_of now.lists.rows.items) (map row_of c.take.new.lists.rows.items)
    now.invariant.front _ c.in-Ok-Some.field-0 (all_behind now.taken c.args.bytes.now) e.keeps e.steps e.counts e.fits e.read c.in-Ok-Some.more c.in-Ok-Some.field-0-is in
    omega (arith, some.0, some.1)

-- ---- none is

pub returns-in-Ok-None-clause-takes : goal.returns-in-Ok-None-clause-takes
returns-in-Ok-None-clause-takes g c =
    let now = c.loop-participant in
    let e = c.in-Ok-None.ensures in
    let none : c.in-Ok-None.field-0 ≡ None = search rules in
    front_end g.S.Verify.rules g.R.Row.value c.args.participant.now now.participant c.take.new.participant c.args.due.now now.due c.take.new.due c.args.bytes.now now.taken c.args.out.now.items now.out.items c.take.new.out.items (map row_of c.args.lists.now.rows.items) (map row_of now.lists.rows.items) (map row_of c.take.new.lists.rows.items)
    now.invariant.front _ c.in-Ok-None.field-0 (all_behind now.taken c.args.bytes.now) e.keeps e.steps e.counts e.fits e.read none (e.holds none)

pub returns-in-Ok-None-clause-signs : goal.returns-in-Ok-None-clause-signs
returns-in-Ok-None-clause-signs g c =
    let now = c.loop-participant in
    let is = now.invariant in
    let first = c.args.participant.now in
    signs_on (g.K.Signer.gives c.args.signer.now) (g.K.Signer.gives now.signer) first.role now.participant.role first.hello now.participant.hello first.signature now.participant.signature c.take.new.participant.signature is.signing.asked.gives_same
    (ap (λ t. t.role) is.front.keeps) (ap (λ t. t.hello) is.front.keeps) is.signs c.in-Ok-None.ensures.signs

pub returns-in-Ok-None-clause-greets : goal.returns-in-Ok-None-clause-greets
returns-in-Ok-None-clause-greets g c =
    let now = c.loop-participant in
    let is = now.invariant in
    let e = c.in-Ok-None.ensures in
    let none : c.in-Ok-None.field-0 ≡ None = search rules in
    let once = once_by g.S.Verify.rules g.R.Row.value c.args.participant.now now.participant c.take.new.participant c.args.due.now now.due c.take.new.due c.args.bytes.now now.taken c.args.out.now.items now.out.items c.take.new.out.items (map row_of c.args.lists.now.rows.items) (map row_of now.lists.rows.items) (map row_of c.take.new.lists.rows.items)
    is.front _ c.in-Ok-None.field-0 (all_behind now.taken c.args.bytes.now) e.keeps e.steps e.counts e.fits e.read in
    signs_end (g.K.Signer.gives c.args.signer.now) (g.K.Signer.gives now.signer) g.S.Verify.rules g.R.Row.value c.args.participant.now now.participant c.take.new.participant c.args.due.now now.due c.take.new.due c.args.bytes.now now.taken c.args.out.now.items now.out.items (map row_of c.args.lists.now.rows.items) (map row_of now.lists.rows.items)
    is.front is.greets is.signing.asked.gives_same _ (all_behind now.taken c.args.bytes.now) once c.in-Ok-None.field-0 e.greets none

pub returns-in-Ok-None-clause-signing : goal.returns-in-Ok-None-clause-signing
returns-in-Ok-None-clause-signing g c = signing_on c.loop-participant.taken c.loop-participant.invariant.signing c.in-Ok-None.ensures.signing

pub returns-in-Err-clause-signing : goal.returns-in-Err-clause-signing
returns-in-Err-clause-signing g c = signing_fails c.in-Err.stop c.loop-participant.invariant.signing c.in-Err.ensures.signing

-- ---- nothing is due

pub returns-clause-takes : goal.returns-clause-takes
returns-clause-takes g c =
    let now = c.loop-participant in
    front_closed g.S.Verify.rules g.R.Row.value c.args.participant.now now.participant c.args.due.now now.due c.args.bytes.now now.taken c.args.out.now.items now.out.items (map row_of c.args.lists.now.rows.items) (map row_of now.lists.rows.items)
    now.invariant.front (c.is_open.ensures.closed (search rules))

pub returns-clause-greets : goal.returns-clause-greets
returns-clause-greets g c =
    let now = c.loop-participant in
    signs_closed (g.K.Signer.gives c.args.signer.now) (g.K.Signer.gives c.args.signer.now) g.S.Verify.rules g.R.Row.value c.args.participant.now now.participant now.participant c.args.due.now now.due now.due c.args.bytes.now now.taken c.args.out.now.items now.out.items (map row_of c.args.lists.now.rows.items) (map row_of now.lists.rows.items)
    now.invariant.front now.invariant.greets

pub returns-in-Ok-None-clause-due : goal.returns-in-Ok-None-clause-due
returns-in-Ok-None-clause-due g c =
    let now = c.loop-participant in
    asks_front g.S.Verify.rules g.R.Row.value c.args.participant.now now.participant c.args.due.now now.due c.args.bytes.now now.taken c.args.out.now.items now.out.items (map row_of c.args.lists.now.rows.items) (map row_of now.lists.rows.items)
    now.invariant.front c.take.new.participant.signature c.args.signer.now now.signer c.take.new.signer _ (all_behind now.taken c.args.bytes.now) now.invariant.due c.take.ensures.due

pub returns-in-Err-clause-due : goal.returns-in-Err-clause-due
returns-in-Err-clause-due g c =
    let now = c.loop-participant in
    asks_front g.S.Verify.rules g.R.Row.value c.args.participant.now now.participant c.args.due.now now.due c.args.bytes.now now.taken c.args.out.now.items now.out.items (map row_of c.args.lists.now.rows.items) (map row_of now.lists.rows.items)
    now.invariant.front c.take.new.participant.signature c.args.signer.now now.signer c.take.new.signer _ (all_behind now.taken c.args.bytes.now) now.invariant.due c.take.ensures.due
