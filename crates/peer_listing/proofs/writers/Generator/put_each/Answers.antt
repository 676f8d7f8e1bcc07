use Rattle.std.proofs.Common.{◌≡◌, ℕ, ◌-◌, ◌≤◌, List, [], ◌++◌, get_or, ap, ◌∙◌, arith}
use Rattle.std.specs.Int.{w32, to_be_bytes}
use Rattle.spelling.specs.Spelling.{text_spelling}
use Rattle.sha_lanes.specs.declared.message.Message.{Message}
use Rattle.willow_entry.specs.RowBody.{row_body}
use Rattle.mc_cap.specs.Signature.{signature_spelling}
use Rattle.cap_codec.specs.Rows.{raw_spelling}
use Rattle.peer_listing.specs.Generator.{generated}
use Rattle.peer_listing.specs.Ranges.{frames_between}
use Rattle.peer_listing.proofs.Framed.{signed_begun, body_is, body_fits}
use Rattle.peer_listing.proofs.Ranges.{frames_more}
use Rattle.peer_listing.proofs.Signatures.{messages_long, message_at, signatures_long, signature_at}
use Rattle.peer_listing.proofs.writers.Generator.put_each.Goals as goal

none : Message
none = record { front = record { ref_ptr = (0, 0); now = [] }; rest = record { ref_ptr = (0, 0); now = [] } }

pub bounds-messages-at : goal.bounds-messages-at
bounds-messages-at c = messages_long c.args.from c.args.to c.rows.i (omega (arith, c.rows.auto.i)) c.rows-test.true c.args.messages.now c.requires.messages

pub entry_in-requires : goal.entry_in-requires
unfolding none
entry_in-requires c =
    signed_begun c.rows.i (get_or c.args.messages.now (c.rows.i - c.args.from) none).rest.now
    (message_at c.args.from c.args.to c.rows.i (omega (arith, c.rows.auto.i)) c.rows-test.true c.args.messages.now none c.requires.messages)

pub bounds-signatures-at : goal.bounds-signatures-at
bounds-signatures-at c = signatures_long c.args.from c.args.to c.rows.i (omega (arith, c.rows.auto.i)) c.rows-test.true c.args.signatures.now c.requires.signatures

pub put_frame-requires : goal.put_frame-requires
unfolding none
put_frame-requires c =
    let up : c.args.from ≤ c.rows.i = omega (arith, c.rows.auto.i) in
    let signed = (get_or c.args.messages.now (c.rows.i - c.args.from) none).rest.now in
    let signature = get_or c.args.signatures.now (c.rows.i - c.args.from) [] in
    body_fits c.rows.i (c.entry_in.result.now ++ (c.capability_bytes-capability.result.now ++ signature_spelling signature))
    (body_is c.rows.i signed c.entry_in.result.now c.capability_bytes-capability.result.now signature
    (message_at c.args.from c.args.to c.rows.i up c.rows-test.true c.args.messages.now none c.requires.messages) c.entry_in.ensures c.capability_bytes-capability.ensures
    (signature_at c.args.from c.args.to c.rows.i up c.rows-test.true c.args.signatures.now [] c.requires.signatures))

pub rows-preserved : goal.rows-preserved
unfolding none row_body
rows-preserved c =
    let up : c.args.from ≤ c.rows.i = omega (arith, c.rows.auto.i) in
    let out = c.args.out.now.items in
    let signed = (get_or c.args.messages.now (c.rows.i - c.args.from) none).rest.now in
    let signature = get_or c.args.signatures.now (c.rows.i - c.args.from) [] in
    let body : List ℕ = c.entry_in.result.now ++ (c.capability_bytes-capability.result.now ++ signature_spelling signature) in
    let is : body ≡ raw_spelling (generated c.rows.i) =
    body_is c.rows.i signed c.entry_in.result.now c.capability_bytes-capability.result.now signature
    (message_at c.args.from c.args.to c.rows.i up c.rows-test.true c.args.messages.now none c.requires.messages) c.entry_in.ensures c.capability_bytes-capability.ensures
    (signature_at c.args.from c.args.to c.rows.i up c.rows-test.true c.args.signatures.now [] c.requires.signatures) in
    c.in_ok-put_frame.ensures
    ∙ ap (λ (l : List ℕ). l ++ text_spelling (to_be_bytes w32) body) c.rows.invariant
    ∙ ap (λ (l : List ℕ). (out ++ frames_between c.args.from c.rows.i) ++ text_spelling (to_be_bytes w32) l) is
    ∙ frames_more out c.args.from c.rows.i up
