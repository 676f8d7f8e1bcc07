use Rattle.std.proofs.Common.{◌≡◌, ◌∷◌, ◌++◌, [], List, ℕ, length, drop, get_or, map, sym, ap, ◌∙◌, subst, arith, length-drop}
use Rattle.std.specs.Vec.Iter.{into_iter_items}
use Rattle.auth_entry.specs.Authorised.{AuthorisedValue}
use Rattle.ns_cell.specs.Passes.{PassValue}
use Rattle.log_rule.proofs.Prefixes.{empty_from_length}
use Rattle.peer_run.specs.Preparing.{nonce_of}
use Rattle.peer_run.specs.declared.hall.Guest.{Guest}
use Rattle.peer_run.proofs.Guests.{passes_of, signers_of, nonces_of}
use Rattle.peer_run.proofs.Paired.{HasPaired, paired_start, paired_count, paired_left, paired_on, paired_end}
use Rattle.peer_run.proofs.hosting.guests_of.Goals as goal

-- ---- the numbers

pub unreachable-requires-in_default-next : goal.unreachable-requires-in_default-next
unreachable-requires-in_default-next c =
    let loop = c.loop-signer in
    let fits : length (drop 1 c.args.passes.items) ≡ length c.args.signers.items = omega (arith, length-drop 1 c.args.passes.items, c.args.passes.ok.0, c.args.signers.ok.0, c.requires.passes) in
    let next : into_iter_items loop.signer-iterator ≡ c.in-Some-signer.signer ∷ into_iter_items c.next-in-loop-signer.new.self = c.in-Some-signer.ensures.steps.0 in
    let left = paired_left (drop 1 c.args.passes.items) c.args.signers.items c.args.draws.now loop.guests.items (into_iter_items loop.passes) loop.yielded (into_iter_items loop.signer-iterator) loop.invariant fits in
    omega (arith, left, loop.passes.rest.ok.0, ap length next, c.in_default-next.ensures.cases.0)

pub bounds-draws-len : goal.bounds-draws-len
bounds-draws-len c =
    let loop = c.loop-signer in
    let fits : length (drop 1 c.args.passes.items) ≡ length c.args.signers.items = omega (arith, length-drop 1 c.args.passes.items, c.args.passes.ok.0, c.args.signers.ok.0, c.requires.passes) in
    let next : into_iter_items loop.signer-iterator ≡ c.in-Some-signer.signer ∷ into_iter_items c.next-in-loop-signer.new.self = c.in-Some-signer.ensures.steps.0 in
    let count = paired_count (drop 1 c.args.passes.items) c.args.signers.items c.args.draws.now loop.guests.items (into_iter_items loop.passes) loop.yielded (into_iter_items loop.signer-iterator) loop.invariant fits in
    omega (arith, count, ap length next, c.len-in-loop-signer.ensures, loop.guests.ok.0, c.args.signers.ok.0, c.requires.draws)

pub offset_bounds-draws-len : goal.offset_bounds-draws-len
offset_bounds-draws-len c =
    let loop = c.loop-signer in
    let fits : length (drop 1 c.args.passes.items) ≡ length c.args.signers.items = omega (arith, length-drop 1 c.args.passes.items, c.args.passes.ok.0, c.args.signers.ok.0, c.requires.passes) in
    let count = paired_count (drop 1 c.args.passes.items) c.args.signers.items c.args.draws.now loop.guests.items (into_iter_items loop.passes) loop.yielded (into_iter_items loop.signer-iterator) loop.invariant fits in
    omega (arith, count, c.len-in-loop-signer.ensures, loop.guests.ok.0, c.args.signers.ok.0, c.requires.few)

-- ---- the loop

pub loop-signer-init : goal.loop-signer-init
loop-signer-init c =
    let all = drop 1 c.args.passes.items in
    let left = into_iter_items c.next.new.self in
    let rest = into_iter_items c.into_iter-signer-iterator.result in
    let first = sym c.into_iter-passes.ensures.rest ∙ c.in-Some.ensures.cases.0 in
    subst (λ (guests : List Guest). HasPaired all c.args.signers.items c.args.draws.now guests left [] rest) (sym c.in_ok-guests.ensures.items)
    (paired_start all c.args.signers.items c.args.draws.now left rest (sym (ap (drop 1) first)) c.into_iter-signer-iterator.ensures.into_iter_gives.0)

pub loop-signer-preserved : goal.loop-signer-preserved
loop-signer-preserved c =
    let loop = c.loop-signer in
    let all = drop 1 c.args.passes.items in
    let left = into_iter_items c.next-in-loop-signer-2.new.self in
    let rest = into_iter_items c.next-in-loop-signer.new.self in
    let guest : Guest = record { pass = c.in-Some-next.pass; signer = c.in-Some-signer.signer; nonce = c.nonce_of-nonce.result } in
    let fits : length all ≡ length c.args.signers.items = omega (arith, length-drop 1 c.args.passes.items, c.args.passes.ok.0, c.args.signers.ok.0, c.requires.passes) in
    let same : length c.args.draws.now ≡ length c.args.signers.items = omega (arith, c.args.signers.ok.0, c.requires.draws) in
    let at : c.len-in-loop-signer.result ≡ length loop.guests.items = omega (arith, c.len-in-loop-signer.ensures, loop.guests.ok.0) in
    let nonce = c.nonce_of-nonce.ensures ∙ ap (λ (n : ℕ). nonce_of (get_or c.args.draws.now n [])) at in
    subst (λ (guests : List Guest). HasPaired all c.args.signers.items c.args.draws.now guests left (loop.yielded ++ c.in-Some-signer.signer ∷ []) rest) (sym c.in_ok-push.ensures.items)
    (paired_on all c.args.signers.items c.args.draws.now loop.guests.items (into_iter_items loop.passes) loop.yielded (into_iter_items loop.signer-iterator) loop.invariant fits guest left rest []
    c.in-Some-next.ensures.cases.0 c.in-Some-signer.ensures.steps.0 same nonce)

-- ---- the end

whole : (c : goal.After-drop-passes-2) → (passes_of c.loop-signer.guests.items ≡ drop 1 c.args.passes.items) × (signers_of c.loop-signer.guests.items ≡ c.args.signers.items) × (nonces_of c.loop-signer.guests.items ≡ map nonce_of c.args.draws.now)
whole c =
    let loop = c.loop-signer in
    let all = drop 1 c.args.passes.items in
    let fits : length all ≡ length c.args.signers.items = omega (arith, length-drop 1 c.args.passes.items, c.args.passes.ok.0, c.args.signers.ok.0, c.requires.passes) in
    let same : length c.args.draws.now ≡ length c.args.signers.items = omega (arith, c.args.signers.ok.0, c.requires.draws) in
    let none : into_iter_items loop.signer-iterator ≡ [] = empty_from_length (into_iter_items loop.signer-iterator) (omega (arith, c.in-None.ensures.steps.0, loop.signer-iterator.rest.ok.0)) in
    paired_end all c.args.signers.items c.args.draws.now loop.guests.items (into_iter_items loop.passes) loop.yielded (into_iter_items loop.signer-iterator) loop.invariant fits none same

pub returns-clause-passes : goal.returns-clause-passes
returns-clause-passes c =
    let first = sym c.into_iter-passes.ensures.rest ∙ c.in-Some.ensures.cases.0 in
    ap (λ (ps : List (PassValue AuthorisedValue)). c.in-Some.own ∷ ps) ((whole c).0 ∙ ap (drop 1) first) ∙ sym first

pub returns-clause-signers : goal.returns-clause-signers
returns-clause-signers c = (whole c).1

pub returns-clause-nonces : goal.returns-clause-nonces
returns-clause-nonces c = (whole c).2
