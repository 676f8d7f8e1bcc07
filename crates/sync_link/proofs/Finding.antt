-- What readers find at the front of bytes, told byte by byte.
use Rattle.std.proofs.Common.{◌≡◌, ℕ, zero, suc, ◌-◌, ◌≤◌, List, [], ◌++◌, length, take, append-nil, Option, Some, None, Result, Ok, Err, refl, sym, ap, ◌∙◌, subst, arith}
use Rattle.spelling.specs.Front.{Front}
use Rattle.spelling.specs.Front as front
use Rattle.spelling.specs.Form.{AreBytes}
use Rattle.spelling.specs.Reader.{Begins}
use Rattle.std.specs.Prelude.{option_map}
use Rattle.std.specs.Int.{w32, to_be_bytes}
use Rattle.spelling.specs.Reading.{exactly_at, text_at}
use Rattle.spelling.specs.Spelling.{text_spelling, IsText}
use Rattle.spelling.specs.declared.ending.End.{End}
use Rattle.spelling.specs.declared.ending.End.TheVariants as ends
use Rattle.spelling.specs.declared.ending.NoMemory.{NoMemory}
use Rattle.spelling.proofs.Joining.{whole_not_wrong}
use Rattle.spelling.proofs.Lists.{All-left, take_front}
use Rattle.cap_codec.specs.Reading.{signature_at, raw_at}
use Rattle.cap_codec.specs.Rows.{RawValue, IsRawRow, raw_spelling, row_of}
use Rattle.cap_codec.proofs.FormReads.{signature-reads}
use Rattle.cap_codec.proofs.RowReads.{raw-reads}
use Rattle.willow_entry.specs.Frame.{row_frame}
use Rattle.willow_entry.specs.RowBody.{row_body}
use Rattle.willow_entry.specs.declared.frame.TheConstants.{MAX_FRAME}
use Rattle.mc_cap.specs.Signature.{signature_spelling}
use Rattle.sync_msg.specs.Items.{ItemValue, HasPrints, IsHead, IsRowItem, item_spelling, item_value}
use Rattle.sync_msg.specs.declared.item.Item.TheVariants.{First, Agree, Split, Parts, Entries, Rest, Row, EndTurn, Bye}
use Rattle.sync_msg.specs.declared.reader.BadItem.{BadItem}
use Rattle.sync_msg.specs.declared.reader.Step.{Step}
use Rattle.sync_msg.specs.declared.reader.Step.TheVariants.{Got, More}
use Rattle.sync_msg.specs.ItemReading.{head_at, body_at}
use Rattle.sync_msg.specs.Reader.{ReaderState, MayCome, BeginsFrame, BeginsItem, TakesItem, HasNoItem, StepsItem}
use Rattle.sync_msg.proofs.HeadReads.{head-reads, head_reader, body-reads, body_reader}
use Rattle.sync_msg.proofs.InFront.{row_of as this_row}
use Rattle.sync_hello.specs.HelloReading.{draft_at}
use Rattle.sync_hello.specs.HelloSteps.{BeginsHello, ReadsHello}
use Rattle.sync_hello.specs.declared.read.HelloStep.{HelloStep}
use Rattle.sync_hello.specs.declared.read.HelloStep.TheVariants as hellos
use Rattle.sync_hello.proofs.HelloReads.{draft-reads, draft_reader}
use Rattle.session_rules.specs.Machine.{Whole, Part}
use Rattle.session_rules.specs.Messages.{IsReadAs, ArePart}
use Rattle.sync_core.proofs.Cases.{same_some}
use Rattle.row_intake.specs.Readers.{all_seen, all_read, judged_whole}
use Rattle.sync_link.specs.Readers.{hello_drafted, hello_seen, proof_seen, row_spelled, row_seen, head_seen, item_seen}
use Rattle.row_intake.specs.Found.{IsFound, GoWrong}
use Rattle.sync_link.specs.Found.{is_due, FindsHello, FindsItem}
use Rattle.row_intake.proofs.Seen.{part_front, judged_part, judged_back, read_back}
use Rattle.row_intake.proofs.Fronts.{all_front, all_wrong, parts_by}
use Rattle.sync_link.proofs.Spellings.{hello_as, hello_back, proof_as, proof_back, head_as, row_as}

-- ---- hellos

seen_part : {A B : Type 0} (judge : A → Option B) (f : Front A) → f ≡ front.Part → judged_whole judge (all_seen f) ≡ Part
seen_part judge f e = ap (λ x. judged_whole judge (all_seen x)) e

none_yet : hello_seen [] ≡ Part
unfolding hello_seen draft_at exactly_at
none_yet = refl

hello_part : (bytes : List ℕ) → AreBytes bytes → hello_seen bytes ≡ Part → BeginsHello bytes
unfolding hello_seen
hello_part bytes are e = (draft_reader.part bytes are).0 (part_front (draft_at bytes) (judged_part hello_drafted (all_seen (draft_at bytes)) e))

hello_parts : (bytes : List ℕ) → AreBytes bytes → BeginsHello bytes → ArePart hello_seen [] bytes
unfolding hello_seen
hello_parts bytes are begins = parts_by draft-reads hello_seen (λ held e. seen_part hello_drafted (draft_at held) e) [] bytes ((draft_reader.part bytes are).1 begins)

pub finds_hello : (bytes : List ℕ) (result : Result HelloStep NoMemory) → AreBytes bytes → ReadsHello bytes result → FindsHello bytes result
finds_hello bytes (Ok (hellos.Whole hello taken)) are t = (record { within = t.within; reads = subst (λ l. IsReadAs hello_seen l hello) (sym t.spelled) (hello_as hello t.fits) }, t.fits)
finds_hello bytes (Ok hellos.More) are begins = hello_parts bytes are begins
finds_hello bytes (Ok hellos.Bad) are none =
    all_wrong hello_seen bytes
    (λ held rest hello e whole.
    let back = hello_back held hello (All-left _ held rest (subst AreBytes e are)) whole in
    none.none_whole hello rest back.0 (e ∙ ap (λ l. l ++ rest) back.1))
    (λ part. none.none_begun (hello_part bytes are part)) none_yet
finds_hello bytes (Err e) are h = tt

-- ---- items

head_none : (version : ℕ) → head_seen version [] ≡ Part
unfolding head_seen head_at
head_none version = refl

head_back : (version : ℕ) (bytes : List ℕ) (item : ItemValue) → AreBytes bytes → head_seen version bytes ≡ Whole item → IsHead version item × (bytes ≡ item_spelling item)
unfolding head_seen
head_back version bytes item are e = read_back (head-reads version) bytes item are e

head_parts : (version : ℕ) (bytes : List ℕ) → AreBytes bytes → Begins item_spelling (IsHead version) bytes → ArePart (head_seen version) [] bytes
unfolding head_seen
head_parts version bytes are begins = parts_by (head-reads version) (head_seen version) (λ held e. ap all_seen e) [] bytes (((head_reader version).part bytes are).1 begins)

head_part : (version : ℕ) (bytes : List ℕ) → AreBytes bytes → head_seen version bytes ≡ Part → Begins item_spelling (IsHead version) bytes
unfolding head_seen
head_part version bytes are e = ((head_reader version).part bytes are).0 (part_front (head_at version bytes) e)

row_none : row_seen [] ≡ Part
unfolding row_seen body_at text_at
row_none = refl

-- bytes that are a row are its frame
row_back : (bytes : List ℕ) (item : ItemValue) → AreBytes bytes → row_seen bytes ≡ Whole item → IsRowItem IsRawRow item × (bytes ≡ item_spelling item)
unfolding row_seen row_body
row_back bytes item are e =
    let b = judged_back body-reads row_spelled bytes item are e in
    by_raw b.0 b.1 b.2 (all_read (raw_at b.0)) refl b.3
  where
    by_raw : (body : List ℕ) → IsText MAX_FRAME body → bytes ≡ text_spelling (to_be_bytes w32) body → (o : Option RawValue) → all_read (raw_at body) ≡ o → option_map (λ raw. Row (row_of raw)) o ≡ Some item
        → IsRowItem IsRawRow item × (bytes ≡ item_spelling item)
    by_raw body text spelled None is h = absurd cc
    by_raw body text spelled (Some raw) is h =
        let t = raw-reads.takes body raw [] text.1 (all_front (raw_at body) raw is) in
        let body_is : body ≡ raw_spelling raw = t.parts ∙ append-nil (raw_spelling raw) in
        let same : Row (row_of raw) ≡ item = same_some (Row (row_of raw)) item h in
        let framed : length (raw_spelling raw) ≤ MAX_FRAME = subst (λ l. length l ≤ MAX_FRAME) body_is text.0 in
        let fits : IsRowItem IsRawRow (Row (row_of raw)) = (record { entry_fits = t.fits.entry_fits; read_out = raw.token; token_fits = t.fits.token_fits; spelled = refl }, framed) in
        (subst (IsRowItem IsRawRow) same fits, spelled ∙ ap (text_spelling (to_be_bytes w32)) body_is ∙ ap item_spelling same)

row_parts : (bytes : List ℕ) → AreBytes bytes → BeginsFrame bytes → ArePart row_seen [] bytes
unfolding row_seen
row_parts bytes are begins = parts_by body-reads row_seen (λ held e. seen_part row_spelled (body_at held) e) [] bytes ((body_reader.part bytes are).1 begins)

row_part : (bytes : List ℕ) → AreBytes bytes → row_seen bytes ≡ Part → BeginsFrame bytes
unfolding row_seen
row_part bytes are e = (body_reader.part bytes are).0 (part_front (body_at bytes) (judged_part row_spelled (all_seen (body_at bytes)) e))

row_found : (bytes : List ℕ) (item : ItemValue) (taken : ℕ) → IsRowItem IsRawRow item → taken ≤ length bytes → take taken bytes ≡ item_spelling item → IsFound row_seen bytes item taken
row_found bytes item taken comes within spelled =
    let row = this_row IsRawRow item comes in
    let same : take taken bytes ≡ row_frame row.row = spelled ∙ ap item_spelling row.same in
    record { within = within; reads = subst (λ l. IsReadAs row_seen l item) (sym same) (subst (λ x. IsReadAs row_seen (row_frame row.row) x) (sym row.same) (row_as row.row row.fits row.framed)) }

-- ---- an item, by how many rows are due

found_item : (version due : ℕ) (bytes : List ℕ) (item : ItemValue) (taken : ℕ) → TakesItem (MayCome IsRawRow version due) bytes item taken → IsFound (item_seen version (is_due due)) bytes item taken
found_item version zero bytes item taken t = record { within = t.within; reads = subst (λ l. IsReadAs (head_seen version) l item) (sym t.spelled) (head_as version item t.comes) }
found_item version (suc due) bytes item taken t = row_found bytes item taken t.comes t.within t.spelled

begun_item : (version due : ℕ) (bytes : List ℕ) → AreBytes bytes → BeginsItem version due bytes → ArePart (item_seen version (is_due due)) [] bytes
begun_item version zero bytes are begins = head_parts version bytes are begins
begun_item version (suc due) bytes are begins = row_parts bytes are begins

no_item : (version due : ℕ) (bytes : List ℕ) → AreBytes bytes → HasNoItem (MayCome IsRawRow version due) (BeginsItem version due) bytes → GoWrong (item_seen version (is_due due)) [] bytes
no_item version zero bytes are none =
    all_wrong (head_seen version) bytes
    (λ held rest item e whole.
    let back = head_back version held item (All-left _ held rest (subst AreBytes e are)) whole in
    none.none_whole item rest back.0 (e ∙ ap (λ l. l ++ rest) back.1))
    (λ part. none.none_begun (head_part version bytes are part)) (head_none version)
no_item version (suc due) bytes are none =
    all_wrong row_seen bytes
    (λ held rest item e whole.
    let back = row_back held item (All-left _ held rest (subst AreBytes e are)) whole in
    none.none_whole item rest back.0 (e ∙ ap (λ l. l ++ rest) back.1))
    (λ part. none.none_begun (row_part bytes are part)) row_none

-- an item that may come has its fingerprints
head_prints : (version : ℕ) (item : ItemValue) → IsHead version item → HasPrints item
head_prints version (First print) f = tt
head_prints version Agree f = tt
head_prints version (Split at lower upper) f = tt
head_prints version (Parts points prints) f = (f.1.0.0, (f.1.0.1.0, f.1.1.0))
head_prints version (Entries count) f = tt
head_prints version (Rest count) f = tt
head_prints version (Row row) f = tt
head_prints version EndTurn f = tt
head_prints version Bye f = tt

row_prints : (item : ItemValue) → IsRowItem IsRawRow item → HasPrints item
row_prints (First print) f = tt
row_prints Agree f = tt
row_prints (Split at lower upper) f = tt
row_prints (Parts points prints) f = absurd f
row_prints (Entries count) f = tt
row_prints (Rest count) f = tt
row_prints (Row row) f = tt
row_prints EndTurn f = tt
row_prints Bye f = tt

may_prints : (version due : ℕ) (item : ItemValue) → MayCome IsRawRow version due item → HasPrints item
may_prints version zero item f = head_prints version item f
may_prints version (suc due) item f = row_prints item f

pub finds_item : (old new : ReaderState) (bytes : List ℕ) (result : Result (Step RawValue) (End BadItem)) → AreBytes bytes → StepsItem IsRawRow row_of old new bytes result → FindsItem old new bytes result
finds_item old new bytes (Ok (Got item taken)) are h = (found_item old.version old.due bytes (item_value row_of item) taken h.0, (h.1, may_prints old.version old.due (item_value row_of item) h.0.comes))
finds_item old new bytes (Ok More) are h = (begun_item old.version old.due bytes are h.0, h.1)
finds_item old new bytes (Err (ends.Refused bad)) are h = (no_item old.version old.due bytes are h.0, h.1.1)
finds_item old new bytes (Err ends.NoMemory) are h = h

-- ---- proofs

proof_none : proof_seen [] ≡ Part
unfolding proof_seen signature_at text_at
proof_none = refl

pub proof_found : (bytes signature rest : List ℕ) (taken : ℕ) → AreBytes bytes → signature_at bytes ≡ front.Whole signature rest → taken ≡ length bytes - length rest → IsFound proof_seen bytes signature taken
proof_found bytes signature rest taken are e n =
    let t = signature-reads.takes bytes signature rest are e in
    let same : take taken bytes ≡ signature_spelling signature = ap (λ k. take k bytes) n ∙ take_front bytes (signature_spelling signature) rest t.parts in
    record { within = omega (arith, n); reads = subst (λ l. IsReadAs proof_seen l signature) (sym same) (proof_as signature t.fits) }

pub proof_begun : (bytes : List ℕ) → signature_at bytes ≡ front.Part → ArePart proof_seen [] bytes
unfolding proof_seen
proof_begun bytes e = parts_by signature-reads proof_seen (λ held e. ap all_seen e) [] bytes e

part_not_wrong : {A : Type 0} (f : Front A) → f ≡ front.Part → f ≡ front.Wrong → ⊥
part_not_wrong f e h = cc

not_part : (bytes : List ℕ) → signature_at bytes ≡ front.Wrong → proof_seen bytes ≡ Part → ⊥
unfolding proof_seen
not_part bytes wrong part = part_not_wrong (signature_at bytes) (part_front (signature_at bytes) part) wrong

pub proof_wrong : (bytes : List ℕ) → AreBytes bytes → signature_at bytes ≡ front.Wrong → GoWrong proof_seen [] bytes
proof_wrong bytes are wrong =
    all_wrong proof_seen bytes
    (λ held rest signature e whole.
    let back = proof_back held signature (All-left _ held rest (subst AreBytes e are)) whole in
    whole_not_wrong signature rest (signature_at bytes) (ap signature_at (e ∙ ap (λ l. l ++ rest) back.1) ∙ signature-reads.again signature rest back.0) wrong)
    (not_part bytes wrong) proof_none
