use Rattle.std.proofs.Common.{◌≡◌, ℕ, List, ◌++◌, [], ◌∷◌, map, ap, ◌∙◌, arith, Vec, Global}
use Rattle.std.specs.Prelude.{option_map}
use Rattle.std.specs.Option.{option_copied}
use Rattle.std.proofs.lemmas.Bool.{iff_false}
use Rattle.std.proofs.lemmas.List.{length-map, map-append}
use Rattle.willow_area.specs.AreaBox.{area_box}
use Rattle.sync_pair.specs.Meeting.{meeting}
use Rattle.sync_pair.proofs.Plain.{sendable}
use Rattle.sync_pair.proofs.Exchanging.{begins, goes_on, turn_left, more_turns, left_can, right_can, all_said, few_items}
use Rattle.sync_pair.proofs.meet.meet_rows.Goals as goal

pub turns-init : goal.turns-init
turns-init g c =
    let value = g.R.Row.value in
    let a = c.args.left.now in
    let b = c.args.right.now in
    let x = option_map area_box (option_copied c.args.area) in
    let sa = sendable value a c.requires.left_few c.in_ok-caller.ensures.live c.requires.left_one c.requires.left_framed in
    let sb = sendable value b c.requires.right_few c.in_ok-answerer.ensures.live c.requires.right_one c.requires.right_framed in
    begins c.args.version (map value a) (map value b) x sa sb (map (λ turn. turn.items) c.new-turns.result.items) c.in_ok-caller.caller.side c.in_ok-answerer.answerer.side
    (map value c.in_ok-caller.caller.got.items) (map value c.in_ok-answerer.answerer.got.items)
    (ap (map (λ turn. turn.items)) c.new-turns.ensures.items) c.in_ok-caller.ensures.side c.in_ok-answerer.ensures.side
    (ap (map value) c.in_ok-caller.ensures.got) (ap (map value) c.in_ok-answerer.ensures.got)

-- the turns that were said
abbrev said : List (Vec ℕ Global) → List (List ℕ)
said turns = map (λ turn. turn.items) turns

pub next_turn-requires-clause-left : goal.next_turn-requires-clause-left
next_turn-requires-clause-left g c = λ writes.
    let value = g.R.Row.value in
    let all = meeting c.args.version (map value c.args.left.now) (map value c.args.right.now) (option_map area_box (option_copied c.args.area)) in
    let now = c.turns in
    let next = turn_left c.args.version all (said now.turns.items) now.caller.side now.answerer.side (map value now.caller.got.items) (map value now.answerer.got.items) now.invariant (iff_false c.is_done.ensures c.turns-test.true) in
    left_can c.args.version all (said now.turns.items) now.caller.side now.answerer.side (map value now.caller.got.items) (map value now.answerer.got.items) next writes

pub next_turn-requires-clause-right : goal.next_turn-requires-clause-right
next_turn-requires-clause-right g c = λ silent.
    let value = g.R.Row.value in
    let all = meeting c.args.version (map value c.args.left.now) (map value c.args.right.now) (option_map area_box (option_copied c.args.area)) in
    let now = c.turns in
    let next = turn_left c.args.version all (said now.turns.items) now.caller.side now.answerer.side (map value now.caller.got.items) (map value now.answerer.got.items) now.invariant (iff_false c.is_done.ensures c.turns-test.true) in
    right_can c.args.version all (said now.turns.items) now.caller.side now.answerer.side (map value now.caller.got.items) (map value now.answerer.got.items) next silent

pub turns-smaller : goal.turns-smaller
turns-smaller g c =
    let value = g.R.Row.value in
    let all = meeting c.args.version (map value c.args.left.now) (map value c.args.right.now) (option_map area_box (option_copied c.args.area)) in
    let now = c.turns in
    let next = turn_left c.args.version all (said now.turns.items) now.caller.side now.answerer.side (map value now.caller.got.items) (map value now.answerer.got.items) now.invariant (iff_false c.is_done.ensures c.turns-test.true) in
    let more = more_turns c.args.version all (said now.turns.items) now.caller.side now.answerer.side (map value now.caller.got.items) (map value now.answerer.got.items) next in
    let turns = length-map now.turns.items (λ (turn : Vec ℕ Global). turn.items) in
    omega (arith, more, turns, now.turns.ok.0, c.in_ok-push.ensures.len)

pub turns-preserved : goal.turns-preserved
turns-preserved g c =
    let value = g.R.Row.value in
    let all = meeting c.args.version (map value c.args.left.now) (map value c.args.right.now) (option_map area_box (option_copied c.args.area)) in
    let now = c.turns in
    let then = c.next_turn.new in
    let turn = c.in_ok-next_turn.field-0 in
    let next = turn_left c.args.version all (said now.turns.items) now.caller.side now.answerer.side (map value now.caller.got.items) (map value now.answerer.got.items) now.invariant (iff_false c.is_done.ensures c.turns-test.true) in
    let one_more : said c.push.new.self.items ≡ said now.turns.items ++ turn.items ∷ [] = ap said c.in_ok-push.ensures.items ∙ map-append (λ (t : Vec ℕ Global). t.items) now.turns.items (turn ∷ []) in
    goes_on c.args.version all (said now.turns.items) now.caller.side now.answerer.side (map value now.caller.got.items) (map value now.answerer.got.items) next
    (said c.push.new.self.items) then.left.side then.right.side turn.items (map value then.left.got.items) (map value then.right.got.items) one_more
    c.in_ok-next_turn.ensures.left (λ writes. ap (λ got. map value got.items) (c.next_turn.ensures.left_got writes))
    c.in_ok-next_turn.ensures.right (λ silent. ap (λ got. map value got.items) (c.next_turn.ensures.right_got silent))

pub overflow_add-result : goal.overflow_add-result
overflow_add-result g c =
    let value = g.R.Row.value in
    let a = c.args.left.now in
    let b = c.args.right.now in
    let x = option_map area_box (option_copied c.args.area) in
    let all = meeting c.args.version (map value a) (map value b) x in
    let sa = sendable value a c.requires.left_few c.in_ok-caller.ensures.live c.requires.left_one c.requires.left_framed in
    let sb = sendable value b c.requires.right_few c.in_ok-answerer.ensures.live c.requires.right_one c.requires.right_framed in
    let now = c.turns in
    let done = all_said c.args.version all (said now.turns.items) now.caller.side now.answerer.side (map value now.caller.got.items) (map value now.answerer.got.items) now.invariant (c.is_done.ensures.0 c.turns-test.false) in
    omega (arith, done.items, few_items c.args.version (map value a) (map value b) x sa sb, c.items-sent.ensures.sent, c.items-sent.ensures.read)

pub returns : goal.returns
returns g c =
    let value = g.R.Row.value in
    let all = meeting c.args.version (map value c.args.left.now) (map value c.args.right.now) (option_map area_box (option_copied c.args.area)) in
    let now = c.turns in
    let done = all_said c.args.version all (said now.turns.items) now.caller.side now.answerer.side (map value now.caller.got.items) (map value now.answerer.got.items) now.invariant (c.is_done.ensures.0 c.turns-test.false) in
    record {
      meeting = record {
        turns = done.turns;
        to_left = done.of_left;
        to_right = done.of_right;
        items = omega (arith, done.items, c.items-sent.ensures.sent, c.items-sent.ensures.read);
      };
    }
