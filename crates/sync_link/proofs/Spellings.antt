-- Hellos, proofs and items are read as what they spell, and bytes that are one spell it.
use Rattle.std.proofs.Common.{◌≡◌, ℕ, ◌≤◌, ◌<◌, List, [], length, append-nil, Option, Some, None, refl, ap, ◌∙◌, subst, arith, length-append}
use Rattle.std.specs.Prelude.{option_map}
use Rattle.std.specs.Int.{w16, w32, to_be_bytes}
use Rattle.spelling.specs.Form.{AreBytes}
use Rattle.spelling.proofs.Joining.{alone}
use Rattle.spelling.proofs.Fields.{wide16, wide32}
use Rattle.mc_cap.specs.Forms.{capability_spelling}
use Rattle.mc_cap.specs.Signature.{signature_spelling, IsSignature}
use Rattle.mc_cap.specs.declared.capability.Capability.{Capability}
use Rattle.willow_entry.specs.Frame.{row_frame, HasFrame}
use Rattle.willow_entry.specs.declared.frame.TheConstants.{MAX_FRAME}
use Rattle.willow_entry.specs.Row.{RowValue}
use Rattle.willow_entry.specs.RowBody.{row_body}
use Rattle.cap_codec.specs.Reading.{capability_at}
use Rattle.cap_codec.specs.Rows.{IsRawRow}
use Rattle.cap_codec.proofs.CapReads.{capability-reads}
use Rattle.cap_codec.proofs.FormReads.{signature-reads}
use Rattle.sync_msg.specs.Items.{ItemValue, item_spelling, IsHead}
use Rattle.sync_msg.specs.declared.item.Item.TheVariants.{First, Agree, Split, Parts, Entries, Rest, Row, EndTurn, Bye}
use Rattle.sync_msg.proofs.HeadReads.{head-reads}
use Rattle.sync_hello.specs.HelloForm.{Draft, IsDraft, draft_of, draft_spelling, hello_spelling, IsHello}
use Rattle.sync_hello.specs.declared.hello.Hello.{Hello}
use Rattle.sync_hello.proofs.HelloReads.{IsLoose, loose-reads, draft-reads, short-reads}
use Rattle.session_rules.specs.Machine.{Whole}
use Rattle.session_rules.specs.Messages.{IsReadAs}
use Rattle.row_intake.specs.Readers.{all_read}
use Rattle.sync_link.specs.Readers.{hello_with, hello_drafted, hello_seen, proof_seen, row_spelled, row_seen, head_seen}
use Rattle.row_intake.proofs.Fronts.{all_front, body_spelled}
use Rattle.row_intake.proofs.Seen.{read_as, read_back, judged_as, judged_back}

-- ---- hellos

loose_draft : (h : Hello) → IsHello h → IsLoose (draft_of h)
loose_draft h f = record { version_fits = f.version_fits; nonce_fits = f.nonce_fits; ask_fits = f.ask_fits; short = f.short }

drafted : (h : Hello) → IsHello h → hello_drafted (draft_of h) ≡ Some h
drafted h f = ap (λ o. option_map (hello_with (draft_of h)) (all_read o)) (alone capability-reads h.capability f.capability_fits)

pub hello_as : (h : Hello) → IsHello h → IsReadAs hello_seen (hello_spelling h) h
unfolding hello_seen hello_spelling
hello_as h f = judged_as loose-reads hello_drafted (draft_of h) h (loose_draft h f) (drafted h f) (omega arith)

module _ (bytes : List ℕ) (h : Hello) (d : Draft) (fits : IsDraft d) (spelled : bytes ≡ draft_spelling d) where
  with_capability : (c : Capability) → all_read (capability_at d.text) ≡ Some c → hello_with d c ≡ h → IsHello h × (bytes ≡ hello_spelling h)
  unfolding hello_spelling
  with_capability c is same =
      let t = capability-reads.takes d.text c [] fits.text_fits.1 (all_front (capability_at d.text) c is) in
      let text : d.text ≡ capability_spelling c = t.parts ∙ append-nil (capability_spelling c) in
      let made : IsHello (hello_with d c) = record {
        version_fits = fits.version_fits;
        nonce_fits = fits.nonce_fits;
        ask_fits = fits.ask_fits;
        capability_fits = t.fits;
        short = subst (λ l. length l ≤ MAX_FRAME) text fits.text_fits.0;
      } in (
        subst IsHello same made,
        spelled ∙ ap (λ l. draft_spelling (record d { text = l })) text ∙ ap hello_spelling same,
      )

  by_capability : (o : Option Capability) → all_read (capability_at d.text) ≡ o → option_map (hello_with d) o ≡ Some h → IsHello h × (bytes ≡ hello_spelling h)
  by_capability None is e = absurd cc
  by_capability (Some c) is e = with_capability c is cc

pub hello_back : (bytes : List ℕ) (h : Hello) → AreBytes bytes → hello_seen bytes ≡ Whole h → IsHello h × (bytes ≡ hello_spelling h)
unfolding hello_seen
hello_back bytes h are e =
    let b = judged_back draft-reads hello_drafted bytes h are e in
    by_capability bytes h b.0 b.1 b.2 (all_read (capability_at b.0.text)) refl b.3

-- ---- proofs

pub proof_as : (signature : List ℕ) → IsSignature signature → IsReadAs proof_seen (signature_spelling signature) signature
unfolding proof_seen
proof_as signature f = read_as signature-reads signature f (omega (arith, length-append (to_be_bytes w16 (length signature)) signature, wide16.len (length signature)))

pub proof_back : (bytes signature : List ℕ) → AreBytes bytes → proof_seen bytes ≡ Whole signature → IsSignature signature × (bytes ≡ signature_spelling signature)
unfolding proof_seen
proof_back bytes signature are e = read_back signature-reads bytes signature are e

-- ---- items

some_head : (version : ℕ) (item : ItemValue) → IsHead version item → 0 < length (item_spelling item)
some_head version (First print) f = omega arith
some_head version Agree f = omega arith
some_head version (Split at lower upper) f = omega arith
some_head version (Parts points prints) f = omega arith
some_head version (Entries count) f = omega arith
some_head version (Rest count) f = omega arith
some_head version (Row row) f = absurd f
some_head version EndTurn f = omega arith
some_head version Bye f = omega arith

pub head_as : (version : ℕ) (item : ItemValue) → IsHead version item → IsReadAs (head_seen version) (item_spelling item) item
unfolding head_seen
head_as version item f = read_as (head-reads version) item f (some_head version item f)

pub row_as : (row : RowValue) → IsRawRow row → HasFrame row → IsReadAs row_seen (row_frame row) (Row row)
unfolding row_seen
row_as row f framed =
    judged_as short-reads row_spelled (row_body row) (Row row) framed (body_spelled Row row f)
    (omega (arith, length-append (to_be_bytes w32 (length (row_body row))) (row_body row), wide32.len (length (row_body row))))
