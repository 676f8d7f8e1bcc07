-- The frame of a row.
use Rattle.std.proofs.Common.{◌≡◌, ◌∙◌, ℕ, ◌≤◌, List, length, ap, refl}
use Rattle.willow_entry.specs.declared.entry.Entry.{Entry}
use Rattle.willow_entry.specs.Frame.{row_frame}
use Rattle.willow_entry.specs.RowBody.{row_body}
use Rattle.willow_entry.specs.declared.frame.TheConstants.{MAX_FRAME}
use Rattle.cap_codec.specs.Rows.{RawValue, FitsFrame, row_of, frame}
use Rattle.cap_codec.specs.declared.token.WriteToken.{WriteToken}
use Rattle.mc_cap.specs.declared.capability.Capability.{Capability}
use Rattle.peer_make.specs.Writing.{EntryWords, entry_under, row_under}

-- a body that a frame may carry
pub body_fits : (r : RawValue) → FitsFrame r → length (row_body (row_of r)) ≤ MAX_FRAME
unfolding row_body
body_fits r fits = fits.short

-- what a store has as a row's frame is the frame of the row
pub frame_is : (r : RawValue) → row_frame (row_of r) ≡ frame r
unfolding row_body
frame_is r = refl

-- the row of what was read and signed
pub made_row : (words : EntryWords) (c : Capability) (signature : List ℕ) (r : RawValue) → r.entry ≡ entry_under words c → r.token ≡ record { capability = c; signature = signature } → r ≡ row_under words c signature
made_row words c signature r entry token =
    let of_entry : r ≡ record { entry = entry_under words c; token = r.token } = ap (λ (e : Entry). record { entry = e; token = r.token }) entry in
    of_entry ∙ ap (λ (t : WriteToken). record { entry = entry_under words c; token = t }) token
