-- The reader of hellos, before their capability is read, goes with their spelling.
use Rattle.std.proofs.Common.{◌≡◌, ℕ, ◌<◌, ◌≤◌, ◌^◌, false, ltb, List, [], ◌∷◌, ◌++◌, length, None, refl, sym, ap, ◌∙◌, append_assoc, arith, replicate}
use Rattle.std.specs.Int.{w32, to_be_bytes}
use Rattle.std.proofs.lemmas.Bool.{le-ltb}
use Rattle.std.proofs.lemmas.List.{length-append, length-replicate, take_at, drop_at}
use Rattle.spelling.specs.Front.{Front, Whole, ◌>>=◌}
use Rattle.spelling.specs.Form.{IsForm}
use Rattle.spelling.specs.Reader.{IsReader}
use Rattle.spelling.specs.Spelling.{text_spelling, AreSoManyBytes, IsText}
use Rattle.spelling.specs.Reading.{byte_at, bytes_at, exactly_at, text_at}
use Rattle.spelling.proofs.Joining.{bind_whole, Reads, Reads-then, Reads-last, Reads-is, any_follows, one_spelling, whole_value, whole_rest}
use Rattle.spelling.proofs.Fields.{byte-reads, byte_follows, bytes-reads, u32_up_to-reads, zeros_are_bytes}
use Rattle.spelling.proofs.Exact.{exactly-reads}
use Rattle.spelling.proofs.Reader.{reader}
use Rattle.willow_area.specs.Area.{IsArea}
use Rattle.willow_area.specs.AreaSpelling.{area_at, area_spelling}
use Rattle.willow_area.specs.declared.area.Area.{Area}
use Rattle.willow_area.proofs.AreaReads.{area-reads, whole_asks as area_asks}
use Rattle.willow_entry.specs.declared.frame.TheConstants.{MAX_FRAME}
use Rattle.mc_cap.specs.Forms.{capability_spelling}
use Rattle.mc_cap.specs.declared.capability.Capability.{Capability}
use Rattle.cap_codec.proofs.CapReads.{capability-reads}
use Rattle.sync_msg.specs.ItemReading.{body_at}
use Rattle.sync_msg.proofs.HeadReads.{body-reads}
use Rattle.sync_hello.specs.declared.hello.Hello.{Hello}
use Rattle.sync_hello.specs.HelloForm.{Draft, magic, draft_spelling, IsDraft, draft_of, hello_spelling, IsHello}
use Rattle.sync_hello.specs.HelloReading.{draft_at}
use Rattle.sync_hello.specs.Memory.{HelloAsks}

-- ---- the bytes of a capability

-- so many of them as their length tells, whatever they are
bytes_again : (x rest : List ℕ) → bytes_at (length x) (x ++ rest) ≡ Whole x rest
bytes_again x rest =
    let long : ltb (length (x ++ rest)) (length x) ≡ false = le-ltb _ _ (omega (arith, length-append x rest)) in
    rw (long, take_at x rest (length x) refl, drop_at x rest (length x) refl) refl

text_again : (x rest : List ℕ) → length x ≤ MAX_FRAME → body_at (text_spelling (to_be_bytes w32) x ++ rest) ≡ Whole x rest
unfolding body_at text_at
text_again x rest short =
    ap body_at (append_assoc (to_be_bytes w32 (length x)) x rest)
    ∙ ap (λ (q : Front ℕ). q >>= λ n. bytes_at n.0 n.1) ((u32_up_to-reads MAX_FRAME (omega arith)).again (length x) (x ++ rest) (short, omega (arith, short)))
    ∙ bytes_again x rest

-- few enough numbers, of which it is not asked that they are bytes
abbrev pub IsShort : List ℕ → Type 0
IsShort text = length text ≤ MAX_FRAME

pub short-reads : Reads body_at (text_spelling (to_be_bytes w32)) IsShort
short-reads = record {
  takes = λ bytes x rest are e. let t = body-reads.takes bytes x rest are e in record { fits = t.fits.0; parts = t.parts; rest_are = t.rest_are };
  again = text_again;
  more = body-reads.more;
  wrong = body-reads.wrong;
  part = λ bytes are e. let c = body-reads.part bytes are e in record { value = c.value; more = c.more; fits_value = c.fits_value.0; parts = c.parts };
}

-- ---- fields that can stand behind any beginning

zeros : AreSoManyBytes 16 (replicate 16 0)
zeros = (length-replicate {A = ℕ} 16 0, zeros_are_bytes 16)

-- everything
unfoldable everything : Area
everything = record { subspace = None; path = []; times = record { start = 0; end = None } }

everything_fits : IsArea everything
unfolding everything
everything_fits = record { subspace_fits = tt; path_fits = record { few = omega arith; parts_fit = tt; short = omega arith }; times_fit = record { starts = omega arith; ends = tt } }

-- ---- the fields, from the last to the first

abbrev draft : ℕ → List ℕ → Area → List ℕ → Draft
draft version nonce ask text = record { version = version; nonce = nonce; ask = ask; text = text }

-- the spellings from a field on
abbrev text_on : Draft → List ℕ
text_on d = text_spelling (to_be_bytes w32) d.text

abbrev ask_on : Draft → List ℕ
ask_on d = area_spelling d.ask ++ text_on d

abbrev nonce_on : Draft → List ℕ
nonce_on d = d.nonce ++ ask_on d

-- whichever bytes of a capability fit
module _ (Fits : List ℕ → Type 0) (texts : Reads body_at (text_spelling (to_be_bytes w32)) Fits) (no_bytes : Fits []) where
  from_ask : (version : ℕ) (nonce : List ℕ) (ask : Area) → Reads (λ bytes. body_at bytes >>= λ text. Whole (draft version nonce ask text.0) text.1) text_on
      (λ d. Fits d.text × (d ≡ draft version nonce ask d.text))
  from_ask version nonce ask = Reads-last (λ (d : Draft). d.text) (draft version nonce ask) texts (λ text. refl)

  from_nonce : (version : ℕ) (nonce : List ℕ) → Reads (λ bytes. area_at bytes >>= λ ask. body_at ask.1 >>= λ text. Whole (draft version nonce ask.0 text.0) text.1) ask_on
      (λ d. IsArea d.ask × (Fits d.text × (d ≡ draft version nonce d.ask d.text)))
  from_nonce version nonce =
      Reads-then (λ (ask : Area × List ℕ). body_at ask.1 >>= λ text. Whole (draft version nonce ask.0 text.0) text.1) (λ (d : Draft). d.ask) area-reads (from_ask version nonce) (λ ask d f. ap (λ (x : Draft). x.ask) f.1)
      (any_follows area-reads (λ ask f. (draft version nonce ask [], (no_bytes, refl))))

  from_version : (version : ℕ) → Reads (λ bytes. bytes_at 16 bytes >>= λ nonce. area_at nonce.1 >>= λ ask. body_at ask.1 >>= λ text. Whole (draft version nonce.0 ask.0 text.0) text.1) nonce_on
      (λ d. AreSoManyBytes 16 d.nonce × (IsArea d.ask × (Fits d.text × (d ≡ draft version d.nonce d.ask d.text))))
  from_version version =
      Reads-then (λ (nonce : List ℕ × List ℕ). area_at nonce.1 >>= λ ask. body_at ask.1 >>= λ text. Whole (draft version nonce.0 ask.0 text.0) text.1) (λ (d : Draft). d.nonce) (bytes-reads 16) (from_nonce version) (λ nonce d f. ap (λ (x : Draft). x.nonce) f.1.1)
      (any_follows (bytes-reads 16) (λ nonce f. (draft version nonce everything [], (everything_fits, (no_bytes, refl)))))

  -- what stands behind the text WSY
  abbrev IsBehind : Draft → Type 0
  IsBehind d = (d.version < 2 ^ 8) × (AreSoManyBytes 16 d.nonce × (IsArea d.ask × (Fits d.text × (d ≡ draft d.version d.nonce d.ask d.text))))

  from_letters : Reads (λ bytes. byte_at bytes >>= λ version. bytes_at 16 version.1 >>= λ nonce. area_at nonce.1 >>= λ ask. body_at ask.1 >>= λ text. Whole (draft version.0 nonce.0 ask.0 text.0) text.1) (λ d. d.version ∷ nonce_on d) IsBehind
  from_letters =
      Reads-then (λ (version : ℕ × List ℕ). bytes_at 16 version.1 >>= λ nonce. area_at nonce.1 >>= λ ask. body_at ask.1 >>= λ text. Whole (draft version.0 nonce.0 ask.0 text.0) text.1) (λ (d : Draft). d.version) byte-reads from_version (λ version d f. ap (λ (x : Draft). x.version) f.1.1.1)
      (byte_follows 0 (draft 0 (replicate 16 0) everything []) (omega arith) (zeros, (everything_fits, (no_bytes, refl))))

  fields-read : Reads draft_at draft_spelling (λ d. Unit {0} × IsBehind d)
  unfolding draft_at
  fields-read =
      let joined = Reads-then (λ (letters : Unit {0} × List ℕ). byte_at letters.1 >>= λ version. bytes_at 16 version.1 >>= λ nonce. area_at nonce.1 >>= λ ask. body_at ask.1 >>= λ text. Whole (draft version.0 nonce.0 ask.0 text.0) text.1) (λ (d : Draft). tt) (exactly-reads magic) (λ letters. from_letters) (λ letters d f. refl)
      (any_follows (exactly-reads magic) (λ letters f. (draft 0 (replicate 16 0) everything [], (omega arith, (zeros, (everything_fits, (no_bytes, refl))))))) in
      Reads-is joined (λ d. refl) (λ d f. f) (λ d f. f)

-- a draft whose capability's field is not asked to be bytes
pub record IsLoose (d : Draft) : Type 0 where
  pub version_fits : d.version < 2 ^ 8
  pub nonce_fits : AreSoManyBytes 16 d.nonce
  pub ask_fits : IsArea d.ask
  pub short : length d.text ≤ MAX_FRAME

pub loose-reads : Reads draft_at draft_spelling IsLoose
loose-reads =
    Reads-is (fields-read IsShort short-reads (omega arith)) (λ d. refl) (λ d f. record { version_fits = f.1.0; nonce_fits = f.1.1.0; ask_fits = f.1.1.1.0; short = f.1.1.1.1.0 })
    (λ d f. (tt, (f.version_fits, (f.nonce_fits, (f.ask_fits, (f.short, refl))))))

pub draft-reads : Reads draft_at draft_spelling IsDraft
draft-reads =
    Reads-is (fields-read (IsText MAX_FRAME) body-reads (omega arith, tt)) (λ d. refl) (λ d f. record { version_fits = f.1.0; nonce_fits = f.1.1.0; ask_fits = f.1.1.1.0; text_fits = f.1.1.1.1.0 })
    (λ d f. (tt, (f.version_fits, (f.nonce_fits, (f.ask_fits, (f.text_fits, refl))))))

pub draft_reader : IsReader draft_at draft_spelling IsDraft
draft_reader = reader draft-reads

-- a draft that stands in front asked for memory with its ask
pub draft_asks : (bytes : List ℕ) (d : Draft) (rest : List ℕ) → draft_at bytes ≡ Whole d rest → HelloAsks bytes
unfolding draft_at
draft_asks bytes d rest is =
    let letters = bind_whole (exactly_at magic bytes) (λ l. byte_at l.1 >>= λ version. bytes_at 16 version.1 >>= λ nonce. area_at nonce.1 >>= λ ask. body_at ask.1 >>= λ text. Whole (draft version.0 nonce.0 ask.0 text.0) text.1) d rest is in
    let version = bind_whole (byte_at letters.1) (λ v. bytes_at 16 v.1 >>= λ nonce. area_at nonce.1 >>= λ ask. body_at ask.1 >>= λ text. Whole (draft v.0 nonce.0 ask.0 text.0) text.1) d rest letters.3 in
    let nonce = bind_whole (bytes_at 16 version.1) (λ n. area_at n.1 >>= λ ask. body_at ask.1 >>= λ text. Whole (draft version.0 n.0 ask.0 text.0) text.1) d rest version.3 in
    let ask = bind_whole (area_at nonce.1) (λ a. body_at a.1 >>= λ text. Whole (draft version.0 nonce.0 a.0 text.0) text.1) d rest nonce.3 in
    rw (letters.2, version.2, nonce.2) (area_asks nonce.1 ask.0 ask.1 ask.2)

-- ---- hellos

-- in front of anything, a hello gives its draft
pub hello_again : (h : Hello) (rest : List ℕ) → IsHello h → draft_at (hello_spelling h ++ rest) ≡ Whole (draft_of h) rest
unfolding hello_spelling
hello_again h rest f = loose-reads.again (draft_of h) rest (record { version_fits = f.version_fits; nonce_fits = f.nonce_fits; ask_fits = f.ask_fits; short = f.short })

same_fields : (h k : Hello) → draft_of h ≡ draft_of k → h.capability ≡ k.capability → h ≡ k
same_fields h k same capability =
    ap (λ (d : Draft). record { version = d.version; nonce = d.nonce; ask = d.ask; capability = h.capability }) same
    ∙ ap (λ (c : Capability). record { version = k.version; nonce = k.nonce; ask = k.ask; capability = c }) capability

-- hellos with the same draft are the same
pub same_hello : (h k : Hello) → IsHello h → IsHello k → draft_of h ≡ draft_of k → h ≡ k
same_hello h k f g same =
    let texts : capability_spelling h.capability ++ [] ≡ capability_spelling k.capability ++ [] = ap (λ (d : Draft). d.text ++ []) same in
    same_fields h k same (one_spelling capability-reads h.capability k.capability [] [] f.capability_fits g.capability_fits texts).0

pub hello_form : IsForm hello_spelling IsHello
hello_form h k a b f g e =
    let whole : Whole (draft_of h) a ≡ Whole (draft_of k) b = sym (hello_again h a f) ∙ ap draft_at e ∙ hello_again k b g in
    (same_hello h k f g (whole_value (draft_of h) (draft_of k) a b whole), whole_rest (draft_of h) (draft_of k) a b whole)
