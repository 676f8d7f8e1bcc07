-- What the side of a session has come to, piece by piece.
use Rattle.std.proofs.Common.{◌≡◌, ◌⊎◌, inl, inr, true, ℕ, List, [], ◌∷◌, ◌++◌, map, flat_map, All, Contains, Option, None, Some, refl, sym, ap, ◌∙◌, subst, append_assoc, append-nil, arith}
use Rattle.std.specs.Prelude.{IfSome}
use Rattle.std.proofs.lemmas.List.{map-append, append_cancel_left}
use Rattle.std.proofs.lemmas.List.Elements.{All-append}
use Rattle.spelling.specs.Form.{AreBytes}
use Rattle.spelling.proofs.Lists.{All-append as bytes_on}
use Rattle.mc_cap.specs.Signature.{signature_spelling, IsSignature}
use Rattle.willow_entry.specs.Row.{RowValue, live}
use Rattle.cap_codec.specs.Rows.{RawValue, IsRaw, row_of}
use Rattle.sync_hello.specs.HelloForm.{hello_spelling}
use Rattle.session_rules.specs.Machine.{Machine}
use Rattle.session_rules.specs.Reading.{Stand, Waits, Move, move, read, start as started, said, ending_of}
use Rattle.session_rules.specs.Rounds.{IsFront}
use Rattle.session_rules.specs.Greeting.{HasHello}
use Rattle.session_rules.specs.Session as session
use Rattle.session_rules.specs.Session.{Proof}
use Rattle.session_rules.proofs.Growing.{front_by}
use Rattle.session_rules.proofs.Runs.{run_append}
use Rattle.sync_link.specs.Greetings.{greeting}
use Rattle.sync_link.specs.Places.{offers_of, places}
use Rattle.sync_link.specs.Sessions.{SessionStage, SessionMessage, SessionCause, own_part, session_of}
use Rattle.sync_link.specs.Sessions as sessions
use Rattle.sync_link.specs.Talking.{own_message}
use Rattle.sync_link.specs.Standing.{Side, MayBe, ReadsPiece, party_of}
use Rattle.sync_link.specs.Progress.{Progress, CountsOn, HasRead, HaveRead}
use Rattle.sync_link.specs.Kept.{log_rows}
use Rattle.sync_link.specs.Signing.{SaysProof, SignsFor, SignsTo}
use Rattle.sync_link.specs.Run.{IsProofOf}
use Rattle.sync_link.specs.UnderWay.{Start, brought, Reached}
use Rattle.sync_link.proofs.Owing.{owes_grows, owes_now}
use Rattle.sync_link.proofs.ReadOn.{reads_on}
use Rattle.sync_link.proofs.Greeted.{Quiet, Proved, told, waits_hello, hello_longer}

-- ---- a signature that may be

abbrev pub chosen : Option (List ℕ) → List ℕ
chosen None = []
chosen (Some signature) = signature

pub may_chosen : (made : Option (List ℕ)) → MayBe made (chosen made)
may_chosen None = tt
may_chosen (Some signature) = refl

-- ---- fronts

pub front_trans : {A : Type 0} (xs ys zs : List A) → IsFront xs ys → IsFront ys zs → IsFront xs zs
front_trans xs ys zs a b = front_by xs zs (a.behind ++ b.behind) (b.joined ∙ ap (λ l. l ++ b.behind) a.joined ∙ append_assoc xs a.behind b.behind)

-- ---- what a side that is not signed has written

module _ (start : Start) where
  abbrev rows : List RowValue
  rows = live (log_rows start.log)

  abbrev here : List ℕ → Machine SessionStage SessionMessage SessionMessage RowValue SessionCause
  here signature = session_of (brought start signature) rows

  abbrev own : List ℕ
  own = hello_spelling start.hello

  -- what is said by one with this signature
  abbrev OutIs : List ℕ → List ℕ → Type 0
  OutIs signature written = IsFront written own ⊎ ((later : List ℕ) × (written ≡ own ++ (signature_spelling signature ++ later)))

  out_is : (signature bytes : List ℕ) → OutIs signature (sessions.out (brought start signature) rows bytes)
  out_is signature bytes = by_case (told (greeting start.rules start.namespace) places (own_part (brought start signature)) (offers_of start.interest rows) bytes)
    where
      spell : List SessionMessage → List ℕ
      spell = flat_map (here signature).spelling

      by_case : (Quiet (greeting start.rules start.namespace) places (own_part (brought start signature)) (offers_of start.interest rows) (sessions.said (brought start signature) rows bytes)
          ⊎ Proved (greeting start.rules start.namespace) places (own_part (brought start signature)) (offers_of start.interest rows) (sessions.said (brought start signature) rows bytes))
          → OutIs signature (sessions.out (brought start signature) rows bytes)
      by_case (inl (inl none)) = inl (front_by _ own own (ap (λ l. flat_map (here signature).spelling l ++ own) (sym none)))
      by_case (inl (inr one)) = inl (front_by _ own [] (sym (append-nil own) ∙ sym (ap (λ l. flat_map (here signature).spelling l ++ []) one ∙ append-nil (own ++ []))))
      by_case (inr both) = inr (flat_map (here signature).spelling both.0, ap (flat_map (here signature).spelling) both.1)

  -- no two signatures begin alike
  apart : (xs ys : List ℕ) → signature_spelling [] ++ xs ≡ signature_spelling (1 ∷ []) ++ ys → ⊥
  apart xs ys e = cc

  pub unsigned_quiet : (bytes written : List ℕ) → ((signature : List ℕ) → written ≡ sessions.out (brought start signature) rows bytes) → IsFront written own
  unsigned_quiet bytes written each = by_case (subst (OutIs []) (sym (each [])) (out_is [] bytes)) (subst (OutIs (1 ∷ [])) (sym (each (1 ∷ []))) (out_is (1 ∷ []) bytes))
    where
      by_case : OutIs [] written → OutIs (1 ∷ []) written → IsFront written own
      by_case (inl h) k = h
      by_case (inr h) (inl k) = k
      by_case (inr h) (inr k) = absurd (apart h.0 k.0 (append_cancel_left own (signature_spelling [] ++ h.0) (signature_spelling (1 ∷ []) ++ k.0) (sym h.1 ∙ k.1)))

  -- ---- what was read

  module _ (side : Progress) (bytes written : List ℕ) (raws : List RawValue) (r : Reached start side bytes written raws) where
    -- of the session that has this signature
    pub has_read : (signature : List ℕ) → MayBe side.side.signature signature → HasRead (brought start signature) rows side bytes written (map row_of raws)
    has_read signature may = subst (λ (x : Side). HasRead (party_of x signature) x.rows side bytes written (map row_of raws)) r.side_is (r.read signature may)

    -- its end
    pub ending_is : (signature : List ℕ) → MayBe side.side.signature signature → sessions.ending (brought start signature) rows bytes ≡ ending_of side.side.stand
    ending_is signature may = sym (ap ending_of (has_read signature may).stands)

    -- whatever was written, it is no more than the own hello, or the signature is one that the signer may give
    pub signed_or_quiet : (more : List ℕ) → IsProofOf (brought start (chosen side.side.signature)) start.gives (bytes ++ more) ⊎ IsFront written own
    signed_or_quiet more = by_case side.side.signature refl
      where
        longer : (signature : List ℕ) → IsProofOf (brought start signature) start.gives bytes → IsProofOf (brought start signature) start.gives (bytes ++ more)
        longer signature p = record { other = p.other; stands = hello_longer (greeting start.rules start.namespace) places (own_part (brought start signature)) (offers_of start.interest rows) bytes more p.other p.stands; given = p.given; fits = p.fits }

        by_case : (made : Option (List ℕ)) → side.side.signature ≡ made → IsProofOf (brought start (chosen made)) start.gives (bytes ++ more) ⊎ IsFront written own
        by_case None e = inr (unsigned_quiet bytes written (λ signature. (has_read signature (subst (λ o. MayBe o signature) (sym e) tt)).wrote))
        by_case (Some signature) e = inl (longer signature (r.signed signature e))

    -- it is a signature in form
    pub proof_fits : IsSignature (chosen side.side.signature)
    proof_fits = by_case side.side.signature refl
      where
        by_case : (made : Option (List ℕ)) → side.side.signature ≡ made → IsSignature (chosen made)
        by_case None e = (omega arith, tt)
        by_case (Some signature) e = (r.signed signature e).fits

    -- ---- a piece more

    abbrev stands_at : List ℕ → Stand SessionStage SessionCause
    stands_at signature = (read (here signature) (started (here signature)) bytes).stand

    signs_for : (signature piece : List ℕ) → MayBe side.side.signature signature → IsSignature signature → SignsFor start.gives side.side piece signature → IsProofOf (brought start signature) start.gives (bytes ++ piece)
    signs_for signature piece may fits s =
        let h = has_read signature may in
        let g = greeting start.rules start.namespace in
        let o = own_part (brought start signature) in
        let at_front : (read (here signature) (stands_at signature) s.front).stand ≡ Waits (session.Proving s.other) s.at s.held =
        ap (λ q. (read (here signature) q s.front).stand) (sym h.stands) ∙ subst (λ (x : Side). (read (session_of (party_of x signature) x.rows) side.side.stand s.front).stand ≡ Waits (session.Proving s.other) s.at s.held) r.side_is s.waits in
        let both : (read (here signature) (started (here signature)) (bytes ++ s.front)).stand ≡ Waits (session.Proving s.other) s.at s.held =
        ap (λ (m : Move SessionStage SessionMessage RowValue SessionCause). m.stand) (run_append (move (here signature)) (started (here signature)) bytes s.front) ∙ at_front in
        let front = waits_hello g places o (offers_of start.interest rows) (bytes ++ s.front) s.other s.at s.held both in
        record {
          other = s.other;
          stands = subst (λ l. HasHello g l s.other) (append_assoc bytes s.front s.behind ∙ ap (λ l. bytes ++ l) (sym s.joined)) (hello_longer g places o (offers_of start.interest rows) (bytes ++ s.front) s.behind s.other front);
          given = subst (λ (x : Side). start.gives (own_message x.role x.hello s.other) signature ≡ true) r.side_is s.given;
          fits = fits;
        }

    pub reached_on : (new : Progress) (piece said : List ℕ) (came : List RawValue) → AreBytes piece → All IsRaw came
        → (f : ReadsPiece side.side new.side piece [] said [] (map row_of came)) → CountsOn side new piece → SignsTo start.gives side.side new.side piece → IfSome new.side.signature IsSignature
        → ((signature : List ℕ) → new.side.signature ≡ Some signature → (side.side.signature ≡ Some signature) ⊎ SaysProof side.side piece signature)
        → Reached start new (bytes ++ piece) (written ++ said) (raws ++ came)
    reached_on new piece said came are_bytes are f counts signs fits due =
        let on = reads_on side new bytes piece written [] said (map row_of raws) [] (map row_of came) r.read f counts in
        let rows_on : map row_of raws ++ f.taken ≡ map row_of (raws ++ came) = ap (λ l. map row_of raws ++ l) (sym f.got) ∙ sym (map-append row_of raws came) in
        record {
          side_is = f.kept ∙ ap (λ (x : Side). record x { signature = new.side.signature; stand = new.side.stand }) r.side_is;
          are_bytes = bytes_on _ bytes piece r.are_bytes are_bytes;
          read = subst (λ l. HaveRead new (bytes ++ piece) (written ++ said) l) rows_on (subst (λ l. HaveRead new (bytes ++ piece) (written ++ l) (map row_of raws ++ f.taken)) (sym f.wrote) on);
          read_out = All-append IsRaw raws came r.read_out are;
          signed = λ signature e. by_case signature e (signs signature e);
          owes = λ signature e. by_due signature e (due signature e);
        }
      where
        by_due : (signature : List ℕ) → new.side.signature ≡ Some signature → (side.side.signature ≡ Some signature) ⊎ SaysProof side.side piece signature → Contains (sessions.said (brought start signature) rows (bytes ++ piece)) (Proof signature)
        by_due signature e (inl old) = owes_grows (brought start signature) rows bytes piece (r.owes signature old)
        by_due signature e (inr says) =
            let may = f.signed_once signature (subst (λ o. MayBe o signature) (sym e) refl) in
            owes_now (brought start signature) rows bytes piece side.side.stand (has_read signature may).stands
            (subst (λ (x : Side). Contains (read (session_of (party_of x signature) x.rows) side.side.stand piece).says (Proof signature)) r.side_is says)

        by_case : (signature : List ℕ) → new.side.signature ≡ Some signature → (side.side.signature ≡ Some signature) ⊎ SignsFor start.gives side.side piece signature → IsProofOf (brought start signature) start.gives (bytes ++ piece)
        by_case signature e (inl old) =
            let p = r.signed signature old in
            record { other = p.other; stands = hello_longer (greeting start.rules start.namespace) places (own_part (brought start signature)) (offers_of start.interest rows) bytes piece p.other p.stands; given = p.given; fits = p.fits }
        by_case signature e (inr s) = signs_for signature piece (f.signed_once signature (subst (λ o. MayBe o signature) (sym e) refl)) (subst (λ o. IfSome o IsSignature) e fits) s
