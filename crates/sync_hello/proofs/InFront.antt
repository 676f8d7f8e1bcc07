-- What was read at the front of bytes, told by the spellings.
use Rattle.std.proofs.Common.{◌≡◌, ℕ, ◌-◌, List, [], ◌++◌, length, take, drop, Result, Err, sym, ap, subst, ◌∙◌, arith, inl, inr}
use Rattle.std.specs.Result.{IsErrAnd}
use Rattle.std.proofs.lemmas.Result.{err_from_is_err_and}
use Rattle.std.proofs.lemmas.List.{length-take, take-append-drop}
use Rattle.spelling.specs.Front.{Front, Whole, Part, Wrong}
use Rattle.spelling.specs.Form.{AreBytes}
use Rattle.spelling.specs.declared.input.Unread.{Unread}
use Rattle.spelling.specs.declared.input.Unread.TheVariants as unread
use Rattle.spelling.proofs.Joining.{alone, part_until, whole_value, whole_not_part, whole_not_wrong}
use Rattle.spelling.proofs.Lists.{take_front}
use Rattle.mc_cap.specs.Forms.{IsCapability}
use Rattle.sync_hello.specs.declared.hello.Hello.{Hello}
use Rattle.sync_hello.specs.HelloForm.{Draft, draft_of, hello_spelling}
use Rattle.sync_hello.specs.HelloReading.{draft_at, GivesHello}
use Rattle.sync_hello.specs.HelloSteps.{TakesHello, IsInFront, HaveOneHello, AreNeverBoth}
use Rattle.sync_hello.proofs.HelloReads.{draft-reads, draft_reader, hello_again, same_hello}

part_not_wrong : {A : Type 0} (r : Front A) → r ≡ Part → r ≡ Wrong → ⊥
part_not_wrong r e f = cc

-- an error that is handed on says of the bytes what it said
pub handed_on : (bytes : List ℕ) (u : Unread) (result : Result (Hello × ℕ) Unread) → IsErrAnd result (λ e. e ≡ u) → IsInFront bytes (Err u) → IsInFront bytes result
handed_on bytes u result err h =
    let p = err_from_is_err_and result err in
    subst (λ (r : Result (Hello × ℕ) Unread). IsInFront bytes r) (ap (λ (e : Unread). Err e) (sym p.2) ∙ sym p.1) h

pub hello_taken : (bytes input : List ℕ) (h : Hello) (left : List ℕ) (taken : ℕ) → AreBytes bytes → input ≡ bytes → IsCapability h.capability × (draft_at input ≡ Whole (draft_of h) left) → taken ≡ length bytes - length left
    → TakesHello bytes h taken
unfolding hello_spelling
hello_taken bytes input h left taken are is read n =
    let t = draft-reads.takes bytes (draft_of h) left are (ap draft_at (sym is) ∙ read.1) in
    record {
      fits = record { version_fits = t.fits.version_fits; nonce_fits = t.fits.nonce_fits; ask_fits = t.fits.ask_fits; capability_fits = read.0; short = t.fits.text_fits.0 };
      within = omega (arith, n);
      spelled = ap (λ (k : ℕ). take k bytes) n ∙ take_front bytes (hello_spelling h) left t.parts;
    }

fails : (bytes left : List ℕ) (u : Unread) → AreBytes bytes → GivesHello (Err u) left (draft_at bytes) → IsInFront bytes (Err u)
fails bytes left unread.Part are h = (draft_reader.part bytes are).0 h
fails bytes left unread.NoMemory are h = tt
fails bytes left unread.Wrong are (inl wrong) = record {
  none_begun = λ b. part_not_wrong (draft_at bytes) ((draft_reader.part bytes are).1 b) wrong;
  none_whole = λ hello rest fits e. whole_not_wrong (draft_of hello) rest (draft_at bytes) (ap draft_at e ∙ hello_again hello rest fits) wrong;
}
fails bytes left unread.Wrong are (inr read) = record {
  none_begun = λ b. whole_not_part read.0 read.1 (draft_at bytes) read.2 ((draft_reader.part bytes are).1 b);
  none_whole = λ hello rest fits e.
      let same = whole_value read.0 (draft_of hello) read.1 rest (sym read.2 ∙ ap draft_at e ∙ hello_again hello rest fits) in
      read.3 hello.capability fits.capability_fits (ap (λ (d : Draft). d.text) same);
}

pub hello_end : (bytes input left : List ℕ) (u : Unread) → AreBytes bytes → input ≡ bytes → GivesHello (Err u) left (draft_at input) → IsInFront bytes (Err u)
hello_end bytes input left u are is h = fails bytes left u are (subst (λ (l : List ℕ). GivesHello (Err u) left (draft_at l)) is h)

-- ---- one answer

-- what is taken stands in front
drafted : (bytes : List ℕ) (h : Hello) (taken : ℕ) → TakesHello bytes h taken → draft_at bytes ≡ Whole (draft_of h) (drop taken bytes)
drafted bytes h taken t = ap draft_at (sym (take-append-drop taken bytes) ∙ ap (λ (l : List ℕ). l ++ drop taken bytes) t.spelled) ∙ hello_again h (drop taken bytes) t.fits

pub one_hello : HaveOneHello
one_hello bytes hello other taken more t u =
    let drafts = whole_value (draft_of hello) (draft_of other) (drop taken bytes) (drop more bytes) (sym (drafted bytes hello taken t) ∙ drafted bytes other more u) in
    let same = same_hello hello other t.fits u.fits drafts in
    (same, omega (arith, t.within, u.within, ap length t.spelled, ap length u.spelled, ap (λ (h : Hello). length (hello_spelling h)) same, length-take taken bytes, length-take more bytes))

pub never_both : AreNeverBoth
never_both bytes hello taken t b =
    whole_not_part (draft_of hello) (drop taken bytes) (draft_at bytes) (drafted bytes hello taken t)
    (part_until draft-reads bytes b.due b.value [] (ap draft_at (sym b.spelled) ∙ alone draft-reads b.value b.fits_value) b.some_due)
