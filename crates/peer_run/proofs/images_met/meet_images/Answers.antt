use Rattle.std.proofs.Common.{ℕ, List, map, ◌∙◌, sym, ap, subst}
use Rattle.std.specs.List.{AllByRecursion}
use Rattle.willow_entry.specs.Frame.{HasFrame}
use Rattle.peer_image.specs.Image.{image}
use Rattle.auth_entry.specs.Rows.{entry_row}
use Rattle.peer_rows.specs.Logged.{authorised_rows, AreCounts}
use Rattle.peer_rows.specs.RowLogs.{HasTaken}
use Rattle.peer_run.specs.Transcript.{transcript}
use Rattle.peer_run.proofs.FirstOfBoth.{first_few}
use Rattle.peer_run.proofs.MetImages.{logged_framed, left_framed, right_framed, is_meeting}
use Rattle.peer_run.proofs.images_met.meet_images.Goals as goal

pub exchange-requires-clause-one_namespace : goal.exchange-requires-clause-one_namespace
exchange-requires-clause-one_namespace g c = c.in_ok-left_log.ensures.namespaces.1 ∙ c.requires.one_namespace ∙ sym c.in_ok-left_log.ensures.namespaces.0

pub exchange-requires-clause-left_frames : goal.exchange-requires-clause-left_frames
exchange-requires-clause-left_frames g c = logged_framed c.args.left.namespace c.args.left.rows.items c.in_ok-left_log.left_log c.in_ok-left_log.ensures.left.0 c.requires.left_image

pub exchange-requires-clause-right_frames : goal.exchange-requires-clause-right_frames
exchange-requires-clause-right_frames g c = logged_framed c.args.right.namespace c.args.right.rows.items c.in_ok-left_log.right_log c.in_ok-left_log.ensures.right.0 c.requires.right_image

pub write_store_image-requires : goal.write_store_image-requires
write_store_image-requires g c =
    let n = c.args.left.namespace in
    let a = authorised_rows n c.args.left.rows.items in
    let b = authorised_rows n c.args.right.rows.items in
    let taken = subst (λ (m : List ℕ). HasTaken entry_row (authorised_rows m c.args.right.rows.items) c.in_ok-left_log.right_log) c.requires.one_namespace c.in_ok-left_log.ensures.right.0 in
    let is = c.in-Ok.ensures a b c.in_ok-left_log.ensures.left.0 taken in
    subst (AllByRecursion HasFrame) (sym c.store.ensures.live)
    (left_framed n c.args.left.rows.items c.args.right.rows.items c.args.area.now c.args.limits.now c.exchange.new.left c.in-Ok.exchanged.left c.requires.left_image c.requires.right_image is.left)

pub write_store_image-requires-2 : goal.write_store_image-requires-2
write_store_image-requires-2 g c =
    let n = c.args.left.namespace in
    let a = authorised_rows n c.args.left.rows.items in
    let b = authorised_rows n c.args.right.rows.items in
    let taken = subst (λ (m : List ℕ). HasTaken entry_row (authorised_rows m c.args.right.rows.items) c.in_ok-left_log.right_log) c.requires.one_namespace c.in_ok-left_log.ensures.right.0 in
    let is = c.in-Ok.ensures a b c.in_ok-left_log.ensures.left.0 taken in
    subst (AllByRecursion HasFrame) (sym c.store-2.ensures.live)
    (right_framed n c.args.left.rows.items c.args.right.rows.items c.args.area.now c.args.limits.now c.exchange.new.right c.in-Ok.exchanged.right c.requires.left_image c.requires.right_image is.right)

pub counts_of-requires-clause-right_few : goal.counts_of-requires-clause-right_few
counts_of-requires-clause-right_few g c =
    first_few c.args.right.namespace c.args.right.rows.items c.in_ok-left_log.right_counts.first c.in_ok-left_log.ensures.right.1.first c.requires.right_image.count

pub returns : goal.returns
returns g c =
    let n = c.args.left.namespace in
    let a = authorised_rows n c.args.left.rows.items in
    let b = authorised_rows n c.args.right.rows.items in
    let taken = subst (λ (m : List ℕ). HasTaken entry_row (authorised_rows m c.args.right.rows.items) c.in_ok-left_log.right_log) c.requires.one_namespace c.in_ok-left_log.ensures.right.0 in
    let counted = subst (λ (m : List ℕ). AreCounts m c.args.right.rows.items c.in_ok-left_log.right_counts) c.requires.one_namespace c.in_ok-left_log.ensures.right.1 in
    let is = c.in-Ok.ensures a b c.in_ok-left_log.ensures.left.0 taken in
    is_meeting n c.args.left.rows.items c.args.right.rows.items c.args.area.now c.args.limits.now c.exchange.new.left c.exchange.new.right c.in-Ok.exchanged c.in_ok-left_log.left_counts c.in_ok-left_log.right_counts
    (record { left = c.in_ok-write_store_image.field-0; right = c.in_ok-write_store_image-2.field-0; transcript = c.in_ok-transcript_of.field-0; counts = c.counts_of.result })
    c.in_ok-left_log.ensures.left.1 counted is
    (c.in_ok-write_store_image.ensures ∙ ap (image n) c.store.ensures.live)
    (c.in_ok-write_store_image-2.ensures ∙ ap (image n) c.store-2.ensures.live)
    (c.in_ok-transcript_of.ensures ∙ ap (λ turns. transcript (map (λ t. t.items) turns)) c.deref.ensures.value)
    c.counts_of.ensures
