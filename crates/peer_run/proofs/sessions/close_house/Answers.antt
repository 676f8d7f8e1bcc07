use Rattle.std.proofs.Common.{◌∙◌, List, None, map, refl, ap, rules}
use Rattle.std.specs.String.{string_bytes}
use Rattle.sync_link.specs.Run.{Answer}
use Rattle.peer_stage.proofs.Faults.{stands_at}
use Rattle.peer_run.specs.Closing.{image_of, put_answer}
use Rattle.peer_run.specs.Telling.{AreNotForWant, AreTailsNotForWant, first_with_tails, told_of, told_tail}
use Rattle.peer_run.proofs.HostSteps.{closes_so, puts_same}
use Rattle.peer_run.proofs.sessions.close_house.Goals as goal

pub returns : goal.returns
returns g c =
    let name = string_bytes c.args.name.now in
    let x = c.args.attended.now in
    let h = g.H.Shelf.facts c.args.shelf.now in
    let h1 = g.H.Shelf.facts c.put_image.new.shelf in
    let put = c.in_ok-put.put in
    let none : AreNotForWant x.ends.items = search rules in
    let no_tail : AreTailsNotForWant x.tails.items = search rules in
    let puts = puts_same c.as_str.result.now c.deref-7.result.now name (image_of x.state) h h1 (put_answer put) c.as_str.ensures.value (c.deref-7.ensures.value ∙ c.in_ok-image.ensures) c.in_ok-put.ensures.puts in
    λ others. closes_so name c.args.awaited c.args.rows c.args.first x (record { awaited = c.args.awaited; sessions = c.in_ok-sessions.sessions; tails = c.in_ok-tails.tails; all_came = x.all_came; first = c.first_with_tails-first.result; left = x.left; kept = None; put = put })
    (record others { shelf = h }) (record others { shelf = h1 }) none no_tail
    (record {
      awaited_is = refl;
      sessions = c.in_ok-sessions.ensures ∙ ap (map told_of) c.deref-5.ensures.value;
      tails = c.in_ok-tails.ensures ∙ ap (map told_tail) c.deref-6.ensures.value;
      accepted_is = refl;
      first_is = c.first_with_tails-first.ensures ∙ ap (λ (answers : List Answer). first_with_tails c.args.rows c.args.first answers c.deref-4.result.now) c.deref-3.ensures.value ∙ ap (first_with_tails c.args.rows c.args.first x.ends.items) c.deref-4.ensures.value;
      left_is = refl;
      no_log = refl;
      put_is = refl;
    })
    (record { does = puts; read_faults = stands_at h.read_faults h1.read_faults (put_answer put) c.put_image.ensures.read_faults; write_faults = c.in_ok-put.ensures.write_faults; others = refl })
