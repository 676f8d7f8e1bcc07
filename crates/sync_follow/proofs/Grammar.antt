-- The messages of a feed are read as what they spell, and bytes that are one spell it.
use Rattle.std.proofs.Common.{◌≡◌, ℕ, ◌-◌, ◌<◌, ◌≤◌, ◌^◌, Bool, true, false, cond, eqb, List, [], ◌∷◌, ◌++◌, length, take, Some, None, refl, sym, ap, ◌∙◌, subst, arith}
use Rattle.std.proofs.lemmas.Bool.{eqb-true, eq-eqb, lt-ltb, ltb-true}
use Rattle.std.specs.Prelude.{nat_lt}
use Rattle.std.specs.Int.{w32, to_be_bytes}
use Rattle.spelling.specs.Front.{Front}
use Rattle.spelling.specs.Front as front
use Rattle.spelling.specs.Form.{AreBytes}
use Rattle.spelling.specs.Reading.{guard}
use Rattle.spelling.specs.Spelling.{byte_spelling, text_spelling, IsText}
use Rattle.spelling.proofs.Exact.{exactly-reads}
use Rattle.spelling.proofs.Fields.{byte-reads, byte_follows}
use Rattle.spelling.proofs.Joining.{Reads, Takes, Reads-guard, Reads-last, Reads-then, Reads-when, whole_not_part}
use Rattle.spelling.proofs.Lists.{All-left, take_front}
use Rattle.willow_entry.specs.Frame.{HasFrame}
use Rattle.willow_entry.specs.Row.{RowValue}
use Rattle.willow_entry.specs.RowBody.{row_body, ReadsBody}
use Rattle.willow_entry.specs.declared.frame.TheConstants.{MAX_FRAME}
use Rattle.cap_codec.specs.Rows.{IsRawRow}
use Rattle.ns_state.specs.declared.live_log.TheConstants.{LOG_LIMIT}
use Rattle.sync_msg.specs.ItemReading.{body_at}
use Rattle.sync_msg.proofs.HeadReads.{body-reads}
use Rattle.sync_hello.proofs.HelloReads.{IsShort, short-reads}
use Rattle.session_rules.specs.Machine.{Whole, Part}
use Rattle.session_rules.specs.Messages.{IsReadAs, ArePart}
use Rattle.row_intake.specs.Found.{IsFound, GoWrong}
use Rattle.row_intake.specs.Readers.{all_seen, judged_whole}
use Rattle.row_intake.proofs.Fronts.{all_wrong, parts_by, body_spelled, body_none}
use Rattle.row_intake.proofs.Seen.{judged_as, judged_back, judged_part, part_front}
use Rattle.sync_follow.specs.Feeds.{fed_row, feed_end}
use Rattle.sync_follow.specs.Grammar.{FeedText, Body, Stop, FeedMessage, FedRow, FeedEnd, framed_at, stop_at, behind_kind, text_in_feed, message_of, feed_seen}

-- ---- texts

-- the first byte of a text, and what stands behind it
abbrev kind_of : FeedText → ℕ
kind_of (Body body) = 10
kind_of Stop = 11

abbrev behind_bytes : ℕ → FeedText → List ℕ
behind_bytes count (Body body) = text_spelling (to_be_bytes w32) body
behind_bytes count Stop = to_be_bytes w32 count

abbrev pub text_bytes : ℕ → FeedText → List ℕ
text_bytes count text = byte_spelling (kind_of text) ++ behind_bytes count text

abbrev body_in : FeedText → List ℕ
body_in (Body body) = body
body_in Stop = []

abbrev no_value : FeedText → Unit {0}
no_value text = tt

module _ (P : List ℕ → Type 0) (bodies : Reads body_at (text_spelling (to_be_bytes w32)) P) (count : ℕ) where
  -- a text that may come behind so many rows, whose body is one of these
  abbrev FitsBehind : ℕ → FeedText → Type 0
  FitsBehind kind (Body body) = (kind ≡ 10) × ((nat_lt count LOG_LIMIT ≡ true) × P body)
  FitsBehind kind Stop = kind ≡ 11

  abbrev pub FitsText : FeedText → Type 0
  FitsText text = (kind_of text < 2 ^ 8) × FitsBehind (kind_of text) text

  framed-reads : Reads framed_at (λ text. text_spelling (to_be_bytes w32) (body_in text)) (λ text. P (body_in text) × (text ≡ Body (body_in text)))
  unfolding framed_at
  framed-reads = Reads-last body_in Body bodies (λ body. refl)

  stop-reads : Reads (stop_at count) (λ text. to_be_bytes w32 count) (λ text. Unit {0} × (text ≡ Stop))
  unfolding stop_at
  stop-reads = Reads-last no_value (λ u. Stop) (exactly-reads (to_be_bytes w32 count)) (λ u. refl)

  no_stop : (body : List ℕ) → Stop ≡ Body body → ⊥
  no_stop body e = cc

  no_body : (body : List ℕ) → Body body ≡ Stop → ⊥
  no_body body e = cc

  untrue : false ≡ true → ⊥
  untrue e = cc

  abbrev FitsFramed : FeedText → Type 0
  FitsFramed text = (nat_lt count LOG_LIMIT ≡ true) × (P (body_in text) × (text ≡ Body (body_in text)))

  abbrev FitsStop : ℕ → FeedText → Type 0
  FitsStop kind text = (eqb kind 11 ≡ true) × (Unit {0} × (text ≡ Stop))

  framed_same : (text : FeedText) → FitsFramed text → text_spelling (to_be_bytes w32) (body_in text) ≡ behind_bytes count text
  framed_same (Body body) f = refl
  framed_same Stop f = absurd (no_stop [] f.1.1)

  framed_there : (kind : ℕ) → eqb kind 10 ≡ true → (text : FeedText) → FitsFramed text → FitsBehind kind text
  framed_there kind is (Body body) f = (eqb-true kind 10 is, (f.0, f.1.0))
  framed_there kind is Stop f = absurd (no_stop [] f.1.1)

  framed_back : (kind : ℕ) → eqb kind 10 ≡ true → (text : FeedText) → FitsBehind kind text → FitsFramed text
  framed_back kind is (Body body) f = (f.1.0, (f.1.1, refl))
  framed_back kind is Stop f = absurd (omega (arith, f, eqb-true kind 10 is))

  stop_same : (kind : ℕ) (text : FeedText) → FitsStop kind text → to_be_bytes w32 count ≡ behind_bytes count text
  stop_same kind (Body body) f = absurd (no_body body f.1.1)
  stop_same kind Stop f = refl

  stop_there : (kind : ℕ) (text : FeedText) → FitsStop kind text → FitsBehind kind text
  stop_there kind (Body body) f = absurd (no_body body f.1.1)
  stop_there kind Stop f = eqb-true kind 11 f.0

  stop_back : (kind : ℕ) → eqb kind 10 ≡ false → (text : FeedText) → FitsBehind kind text → FitsStop kind text
  stop_back kind is (Body body) f = absurd (untrue (sym is ∙ eq-eqb kind 10 f.0))
  stop_back kind is Stop f = (eq-eqb kind 11 f, (tt, refl))

  behind_by : (kind : ℕ) (b : Bool) → eqb kind 10 ≡ b → Reads (λ bytes. cond b (guard (nat_lt count LOG_LIMIT) (framed_at bytes)) (guard (eqb kind 11) (stop_at count bytes))) (behind_bytes count) (FitsBehind kind)
  behind_by kind true is = Reads-when (Reads-guard (nat_lt count LOG_LIMIT) framed-reads) framed_same (framed_there kind is) (framed_back kind is)
  behind_by kind false is = Reads-when (Reads-guard (eqb kind 11) stop-reads) (stop_same kind) (stop_there kind) (stop_back kind is)

  behind-reads : (kind : ℕ) → Reads (λ bytes. behind_kind count kind bytes) (behind_bytes count) (FitsBehind kind)
  unfolding behind_kind
  behind-reads kind = behind_by kind (eqb kind 10) refl

  tells : (kind : ℕ) (text : FeedText) → FitsBehind kind text → kind_of text ≡ kind
  tells kind (Body body) f = sym f.0
  tells kind Stop f = sym f

  -- the reader goes with the spelling
  pub texts-read : Reads (text_in_feed count) (text_bytes count) FitsText
  unfolding text_in_feed
  texts-read = Reads-then (λ kind. behind_kind count kind.0 kind.1) kind_of byte-reads behind-reads tells (byte_follows 11 Stop (omega arith) refl)

-- ---- messages

module _ (count : ℕ) where
  -- a row is read as itself where there may be more
  pub row_as : (row : RowValue) → IsRawRow row → HasFrame row → count < LOG_LIMIT → IsReadAs (feed_seen count) (fed_row row) (FedRow row)
  unfolding feed_seen
  row_as row f framed room =
      judged_as (texts-read IsShort short-reads count) message_of (Body (row_body row)) (FedRow row)
      (omega arith, (refl, (lt-ltb count LOG_LIMIT room, framed))) (body_spelled FedRow row f) (omega arith)

  -- so is the end
  pub end_as : IsReadAs (feed_seen count) (feed_end count) FeedEnd
  unfolding feed_seen
  end_as = judged_as (texts-read IsShort short-reads count) message_of Stop FeedEnd (omega arith, refl) refl (omega arith)

  abbrev strict : Reads (text_in_feed count) (text_bytes count) (FitsText (IsText MAX_FRAME) body-reads count)
  strict = texts-read (IsText MAX_FRAME) body-reads count

  none_yet : feed_seen count [] ≡ Part
  unfolding feed_seen text_in_feed
  none_yet = refl

  part_seen : (held : List ℕ) → text_in_feed count held ≡ front.Part → feed_seen count held ≡ Part
  unfolding feed_seen
  part_seen held e = ap (λ f. judged_whole message_of (all_seen f)) e

  part_back : (bytes : List ℕ) → feed_seen count bytes ≡ Part → text_in_feed count bytes ≡ front.Part
  unfolding feed_seen
  part_back bytes e = part_front (text_in_feed count bytes) (judged_part message_of (all_seen (text_in_feed count bytes)) e)

  -- bytes that are a message spell a text that is it
  pub message_back : (bytes : List ℕ) (m : FeedMessage) → AreBytes bytes → feed_seen count bytes ≡ Whole m
      → (text : FeedText) × FitsText (IsText MAX_FRAME) body-reads count text × (bytes ≡ text_bytes count text) × (message_of text ≡ Some m)
  unfolding feed_seen
  message_back bytes m are e = judged_back strict message_of bytes m are e

  -- what is taken of a text
  pub text_taken : (bytes : List ℕ) → AreBytes bytes → (text : FeedText) (rest : List ℕ) → text_in_feed count bytes ≡ front.Whole text rest → Takes bytes (text_bytes count text) rest (FitsText (IsText MAX_FRAME) body-reads count text)
  text_taken bytes are text rest whole = strict.takes bytes text rest are whole

  -- ---- what stands in front

  pub part_found : (bytes : List ℕ) → text_in_feed count bytes ≡ front.Part → ArePart (feed_seen count) [] bytes
  part_found bytes e = parts_by strict (feed_seen count) part_seen [] bytes e

  module _ (bytes : List ℕ) (are : AreBytes bytes) where
    -- what is no text is no message
    pub wrong_found : text_in_feed count bytes ≡ front.Wrong → GoWrong (feed_seen count) [] bytes
    wrong_found wrong =
        all_wrong (feed_seen count) bytes
        (λ held rest m e whole.
        let b = message_back held m (All-left _ held rest (subst AreBytes e are)) whole in
        whole_wrong (b.0) rest (ap (text_in_feed count) (e ∙ ap (λ l. l ++ rest) b.2) ∙ strict.again b.0 rest b.1))
        (λ part. part_wrong (text_in_feed count bytes) (part_back bytes part) wrong) none_yet
      where
        part_wrong : (f : Front FeedText) → f ≡ front.Part → f ≡ front.Wrong → ⊥
        part_wrong f e h = cc

        whole_wrong : (text : FeedText) (rest : List ℕ) → text_in_feed count bytes ≡ front.Whole text rest → ⊥
        whole_wrong text rest e =
            let different : front.Whole text rest ≡ front.Wrong = sym e ∙ wrong in
            cc

    module _ (text : FeedText) (rest : List ℕ) (whole : text_in_feed count bytes ≡ front.Whole text rest) where
      -- neither is a text that is no message
      pub none_found : message_of text ≡ None → GoWrong (feed_seen count) [] bytes
      none_found none =
          all_wrong (feed_seen count) bytes
          (λ held behind m e seen.
          let b = message_back held m (All-left _ held behind (subst AreBytes e are)) seen in
          let again : text_in_feed count bytes ≡ front.Whole b.0 behind = ap (text_in_feed count) (e ∙ ap (λ l. l ++ behind) b.2) ∙ strict.again b.0 behind b.1 in
          let same : text ≡ b.0 = same_text text b.0 rest behind (sym whole ∙ again) in
          no_message m (sym none ∙ ap message_of same ∙ b.3))
          (λ part. whole_not_part text rest (text_in_feed count bytes) whole (part_back bytes part)) none_yet
        where
          same_text : (x y : FeedText) (a b : List ℕ) → front.Whole x a ≡ front.Whole y b → x ≡ y
          same_text x y a b e = cc

          no_message : (m : FeedMessage) → None ≡ Some m → ⊥
          no_message m e = cc

      -- just its bytes are taken
      front_of : take (length bytes - length rest) bytes ≡ text_bytes count text
      front_of = take_front bytes (text_bytes count text) rest (strict.takes bytes text rest are whole).parts

      pub found_as : (m : FeedMessage) → IsReadAs (feed_seen count) (text_bytes count text) m → IsFound (feed_seen count) bytes m (length bytes - length rest)
      found_as m reads = record { within = omega arith; reads = subst (λ l. IsReadAs (feed_seen count) l m) (sym front_of) reads }

    -- a frame whose body is a row's
    pub row_found : (body : List ℕ) (rest : List ℕ) (row : RowValue) → text_in_feed count bytes ≡ front.Whole (Body body) rest → ReadsBody IsRawRow body (Some row) → IsFound (feed_seen count) bytes (FedRow row) (length bytes - length rest)
    row_found body rest row whole reads =
        let t = strict.takes bytes (Body body) rest are whole in
        let room : count < LOG_LIMIT = ltb-true count LOG_LIMIT t.fits.1.1.0 in
        let framed : HasFrame row = subst (λ l. length l ≤ MAX_FRAME) reads.1 t.fits.1.1.1.0 in
        found_as (Body body) rest whole (FedRow row) (subst (λ l. IsReadAs (feed_seen count) (10 ∷ text_spelling (to_be_bytes w32) l) (FedRow row)) (sym reads.1) (row_as row reads.0 framed room))

    -- there is room for it
    pub row_room : (body : List ℕ) (rest : List ℕ) → text_in_feed count bytes ≡ front.Whole (Body body) rest → count < LOG_LIMIT
    row_room body rest whole = let t = strict.takes bytes (Body body) rest are whole in ltb-true count LOG_LIMIT t.fits.1.1.0

    -- a frame whose body is no row's
    pub no_row_found : (body : List ℕ) (rest : List ℕ) → text_in_feed count bytes ≡ front.Whole (Body body) rest → ReadsBody IsRawRow body None → GoWrong (feed_seen count) [] bytes
    no_row_found body rest whole none =
        let t = strict.takes bytes (Body body) rest are whole in
        none_found (Body body) rest whole (body_none FedRow body t.fits.1.1.1.1 none)

    -- the end
    pub end_found : (rest : List ℕ) → text_in_feed count bytes ≡ front.Whole Stop rest → IsFound (feed_seen count) bytes FeedEnd (length bytes - length rest)
    end_found rest whole = found_as Stop rest whole FeedEnd end_as
