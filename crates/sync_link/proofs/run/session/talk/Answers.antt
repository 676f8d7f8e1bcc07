use Rattle.std.proofs.Common.{inl, refl, ◌∙◌, arith}
use Rattle.std.proofs.lemmas.List.{length-take, length-append, length-drop}
use Rattle.sync_link.specs.UnderWay.{IsStill, now_of}
use Rattle.sync_link.proofs.Asked.{asks_on, unasked_on}
use Rattle.sync_link.proofs.AskedFor.{acts_as, still_or_owes}
use Rattle.sync_link.proofs.LinkEnds.{unkept_room}
use Rattle.sync_link.proofs.Talked.{Keeps, is_now, keeps_self, keeps_on}
use Rattle.sync_link.proofs.run.session.talk.Goals as goal

pub returns-in-Err-clause-goes_on : goal.returns-in-Err-clause-goes_on
returns-in-Err-clause-goes_on g c start is u =
    let now = now_of g.S.Verify.rules c.args.session.now c.args.pass.now (g.L.Link.facts c.args.link.now) (g.K.Signer.left c.args.signer.now) (g.K.Signer.faults c.args.signer.now) in
    unkept_room start now u (IsStill now.progress.side.signature c.args.signer.now c.args.signer.now) (still_or_owes start now.progress u.bytes u.written u.rows u.reached c.args.signer.now)

pub talking-init : goal.talking-init
talking-init g c = record {
  pass = c.requires.pass;
  namespace = refl;
  counted = c.requires.counted;
  gives = refl;
  most = refl;
  unasked = λ unsigned. (unsigned, refl);
  asks = inl refl;
  room = omega (arith, c.in-Ok.ensures.len, c.in-Ok.room.ok.0);
  keeps = keeps_self g.S.Verify.rules c.args.cell.now.namespace (g.K.Signer.gives c.args.signer.now) (g.L.Link.most c.args.link.now) (now_of g.S.Verify.rules c.args.session.now c.args.pass.now (g.L.Link.facts c.args.link.now) (g.K.Signer.left c.args.signer.now) (g.K.Signer.faults c.args.signer.now));
}

pub hear_piece-requires-clause-open : goal.hear_piece-requires-clause-open
hear_piece-requires-clause-open g c κs within = c.is_open.ensures.open c.talking-test.true

pub talking-preserved : goal.talking-preserved
talking-preserved g c =
    let i = c.talking.invariant in
    record {
      pass = c.in-Ok-hear_piece.ensures.pass;
      namespace = c.in-Ok-hear_piece.ensures.namespace ∙ i.namespace;
      counted = c.in-Ok-hear_piece.ensures.counted;
      gives = c.in-Ok-hear_piece.ensures.asking.gives_same ∙ i.gives;
      most = c.in-Ok-hear_piece.ensures.most ∙ i.most;
      unasked = unasked_on c.args.session.now.side.signature c.talking.session.side.signature c.hear_piece.new.session.side.signature c.args.signer.now c.talking.signer c.hear_piece.new.signer i.unasked c.in-Ok-hear_piece.ensures.asking.unasked;
      asks = asks_on g.K.Signer.asks c.args.session.now.side.signature c.talking.session.side.signature c.args.signer.now c.talking.signer c.hear_piece.new.signer i.unasked i.asks c.hear_piece.ensures.asking.once;
      room = simp (length-take, length-append, length-drop) (omega (arith, i.room, c.deref_mut.ensures.len, c.hear_piece.auto.room, c.talking.room.ok.0));
      keeps = keeps_on g.S.Verify.rules c.args.cell.now.namespace (g.K.Signer.gives c.args.signer.now) (g.K.Signer.gives c.talking.signer) (g.L.Link.most c.args.link.now) (g.L.Link.most c.talking.link)
          (now_of g.S.Verify.rules c.args.session.now c.args.pass.now (g.L.Link.facts c.args.link.now) (g.K.Signer.left c.args.signer.now) (g.K.Signer.faults c.args.signer.now))
          (now_of g.S.Verify.rules c.talking.session c.talking.pass (g.L.Link.facts c.talking.link) (g.K.Signer.left c.talking.signer) (g.K.Signer.faults c.talking.signer))
          (now_of g.S.Verify.rules c.hear_piece.new.session c.hear_piece.new.pass (g.L.Link.facts c.hear_piece.new.link) (g.K.Signer.left c.hear_piece.new.signer) (g.K.Signer.faults c.hear_piece.new.signer))
          i.gives i.most i.keeps c.in-Ok-hear_piece.ensures.goes_on;
    }

pub returns-in-Err-hear_piece-clause-asking : goal.returns-in-Err-hear_piece-clause-asking
returns-in-Err-hear_piece-clause-asking g c =
    let i = c.talking.invariant in
    let asked = c.hear_piece.ensures.asking in
    record {
      gives_same = asked.gives_same ∙ i.gives;
      unasked = tt;
      once = asks_on g.K.Signer.asks c.args.session.now.side.signature c.talking.session.side.signature c.args.signer.now c.talking.signer c.hear_piece.new.signer i.unasked i.asks asked.once;
    }

pub returns-in-Err-hear_piece-clause-goes_on : goal.returns-in-Err-hear_piece-clause-goes_on
unfolding Keeps
returns-in-Err-hear_piece-clause-goes_on g c start is u =
    let i = c.talking.invariant in
    let now = is_now start g.S.Verify.rules c.args.cell.now.namespace (g.K.Signer.gives c.args.signer.now) (g.K.Signer.gives c.talking.signer) (g.L.Link.most c.args.link.now) (g.L.Link.most c.talking.link) i.gives i.most is in
    acts_as (λ still. let k = i.unasked still.0 in (k.0, still.1 ∙ k.1)) (c.in-Err-hear_piece.ensures.goes_on start now (i.keeps start is u))

pub returns-in-Ok-check_end-clause-goes_on : goal.returns-in-Ok-check_end-clause-goes_on
unfolding Keeps
returns-in-Ok-check_end-clause-goes_on g c start is u = c.talking.invariant.keeps start is u

pub returns-clause-goes_on : goal.returns-clause-goes_on
unfolding Keeps
returns-clause-goes_on g c start is u =
    let i = c.talking.invariant in
    acts_as i.unasked
    (c.in-Err-check_end.ensures.ends start c.talking.pass (g.L.Link.facts c.talking.link) (g.K.Signer.left c.talking.signer) (g.K.Signer.faults c.talking.signer) (i.keeps start is u))
