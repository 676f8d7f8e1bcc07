-- A session asked its signer only where its proof was due to what it read.
use Rattle.std.proofs.Common.{◌≡◌, ◌⊎◌, inl, inr, ℕ, Bool, List, ◌++◌, Contains, Option, None, Some, refl, sym, subst}
use Rattle.willow_entry.specs.Row.{RowValue, live}
use Rattle.cap_codec.specs.Rows.{RawValue}
use Rattle.willow_outside.specs.Facts.{LinkFacts}
use Rattle.auth_entry.specs.Authorised.{AuthorisedValue}
use Rattle.ns_cell.specs.Passes.{PassValue}
use Rattle.session_rules.specs.Reading.{read}
use Rattle.session_rules.specs.Session.{Proof}
use Rattle.sync_link.specs.Sessions.{Party, session_of}
use Rattle.sync_link.specs.Kept.{log_rows}
use Rattle.sync_link.specs.Standing.{Side, MayBe, party_of}
use Rattle.sync_link.specs.Progress.{Progress}
use Rattle.sync_link.specs.Signing.{OwesIn}
use Rattle.sync_link.specs.Asking.{AsksWhere}
use Rattle.sync_link.specs.Run.{ActsInTime, Answer, OwesProof}
use Rattle.sync_link.specs.UnderWay.{Start, IsStill, Reached, brought}
use Rattle.sync_link.proofs.Owing.{owes_grows, owes_now, owes_resigned}
use Rattle.sync_link.proofs.Reaching.{has_read}

module _ (start : Start) (side : Progress) (bytes written : List ℕ) (raws : List RawValue) (r : Reached start side bytes written raws) where
  abbrev rows : List RowValue
  rows = live (log_rows start.log)

  -- the proof of a side that is signed is due, with whatever signature
  owes_signed : (signature : List ℕ) → side.side.signature ≡ Some signature → OwesProof (brought start) rows bytes
  owes_signed signature made other = owes_resigned (brought start signature) rows other bytes (r.owes signature made)

  -- that of one that is not, where it is due to a piece
  owes_piece : (piece : List ℕ) → side.side.signature ≡ None → OwesIn side.side piece → OwesProof (brought start) rows (bytes ++ piece)
  owes_piece piece none owes signature =
      let may = subst (λ o. MayBe o signature) (sym none) tt in
      let says = subst (λ (x : Side). Contains (read (session_of (party_of x signature) x.rows) side.side.stand piece).says (Proof signature)) r.side_is (owes signature) in
      owes_now (brought start signature) rows bytes piece side.side.stand (has_read start side bytes written raws r signature may).stands says

  -- it is not signed, or its proof was due
  pub unsigned_or_owes : (side.side.signature ≡ None) ⊎ OwesProof (brought start) rows bytes
  unsigned_or_owes = by_case side.side.signature refl
    where
      by_case : (made : Option (List ℕ)) → side.side.signature ≡ made → (side.side.signature ≡ None) ⊎ OwesProof (brought start) rows bytes
      by_case None e = inl e
      by_case (Some signature) e = inr (owes_signed signature e)

  module _ {K : Type 0} where
    pub still_or_owes : (signer : K) → IsStill side.side.signature signer signer ⊎ OwesProof (brought start) rows bytes
    still_or_owes signer = by_case unsigned_or_owes
      where
        by_case : (side.side.signature ≡ None) ⊎ OwesProof (brought start) rows bytes → IsStill side.side.signature signer signer ⊎ OwesProof (brought start) rows bytes
        by_case (inl none) = inl (none, refl)
        by_case (inr owes) = inr owes

    module _ (old new : K) (more : List ℕ) where
      -- more is read, and the signer is as it was
      pub unasked_or_owes : new ≡ old → IsStill side.side.signature old new ⊎ OwesProof (brought start) rows (bytes ++ more)
      unasked_or_owes same = by_case unsigned_or_owes
        where
          by_case : (side.side.signature ≡ None) ⊎ OwesProof (brought start) rows bytes → IsStill side.side.signature old new ⊎ OwesProof (brought start) rows (bytes ++ more)
          by_case (inl none) = inl (none, same)
          by_case (inr owes) = inr (λ signature. owes_grows (brought start signature) rows bytes more (owes signature))

      -- or it was asked in that
      pub asked_or_owes : (made : Option (List ℕ)) → AsksWhere side.side.signature made old new (OwesIn side.side more) → IsStill side.side.signature old new ⊎ OwesProof (brought start) rows (bytes ++ more)
      asked_or_owes made (inl same) = unasked_or_owes same.0
      asked_or_owes made (inr h) = inr (owes_piece more h.0 h.1)

-- whatever else it is by which the signer is as it was
pub acts_as : {still still' : Type 0} {most : ℕ} {p : List ℕ → Party} {gives : List ℕ → List ℕ → Bool} {before after : PassValue AuthorisedValue} {link link' : LinkFacts} {faults faults' : ℕ} {answer : Answer} → (still → still')
    → ActsInTime still most p gives before after link link' faults faults' answer → ActsInTime still' most p gives before after link link' faults faults' answer
acts_as {still} {still'} {most} {p} so t = record { did = t.did; asked = by_case t.asked; stops = t.stops }
  where
    by_case : still ⊎ OwesProof p (live (log_rows t.did.log)) t.did.bytes → still' ⊎ OwesProof p (live (log_rows t.did.log)) t.did.bytes
    by_case (inl is) = inl (so is)
    by_case (inr owes) = inr owes
