-- The reader of rows that tell their capability by a number goes with their spelling.
use Rattle.std.proofs.Common.{◌≡◌, ℕ, ◌<◌, ◌^◌, List, [], ◌++◌, refl, ap, arith}
use Rattle.std.specs.Int.{w32, to_be_bytes}
use Rattle.spelling.specs.Front.{Front, Whole, ◌>>=◌}
use Rattle.spelling.specs.Reading.{number_at}
use Rattle.spelling.proofs.Joining.{Reads, Reads-then, Reads-last, Reads-is, any_follows}
use Rattle.spelling.proofs.Fields.{u32-reads}
use Rattle.willow_entry.specs.EntryForm.{entry_spelling, entry_at}
use Rattle.willow_entry.specs.declared.entry.Entry.{Entry}
use Rattle.willow_entry.proofs.EntryReads.{entry-reads}
use Rattle.mc_cap.specs.Signature.{IsSignature, signature_spelling}
use Rattle.mc_cap.specs.declared.capability.Capability.{Capability}
use Rattle.cap_codec.specs.declared.numbered.NumberedRow.{NumberedRow}
use Rattle.cap_codec.specs.Reading.{signature_at}
use Rattle.cap_codec.specs.Rows.{RawValue}
use Rattle.cap_codec.specs.Numbered.{numbered_at, numbered_spelling, IsNumberedRow, row_with}
use Rattle.cap_codec.proofs.FormReads.{signature-reads, no_bytes}

abbrev numbered : Entry → ℕ → List ℕ → NumberedRow
numbered entry number signature = record { entry = entry; number = number; signature = signature }

abbrev signed_at : Entry → ℕ → List ℕ → Front NumberedRow
signed_at entry number bytes = signature_at bytes >>= λ s. Whole (numbered entry number s.0) s.1

from_number : (e : Entry) (n : ℕ) → Reads (signed_at e n) (λ (r : NumberedRow). signature_spelling r.signature) (λ r. IsSignature r.signature × (r ≡ numbered e n r.signature))
from_number e n = Reads-last (λ (r : NumberedRow). r.signature) (numbered e n) signature-reads (λ s. refl)

abbrev counted_at : Entry → List ℕ → Front NumberedRow
counted_at entry bytes = number_at w32 bytes >>= λ n. signed_at entry n.0 n.1

from_entry : (e : Entry) → Reads (counted_at e) (λ (r : NumberedRow). to_be_bytes w32 r.number ++ signature_spelling r.signature)
    (λ r. (r.number < 2 ^ 32) × (IsSignature r.signature × (r ≡ numbered e r.number r.signature)))
from_entry e =
    Reads-then (λ (n : ℕ × List ℕ). signed_at e n.0 n.1) (λ (r : NumberedRow). r.number) u32-reads (from_number e) (λ n r f. ap (λ (x : NumberedRow). x.number) f.1)
    (any_follows u32-reads (λ n f. (numbered e n [], (no_bytes, refl))))

pub numbered-reads : Reads numbered_at numbered_spelling IsNumberedRow
unfolding numbered_at
numbered-reads =
    let joined = Reads-then (λ (e : Entry × List ℕ). counted_at e.0 e.1) (λ (r : NumberedRow). r.entry) entry-reads from_entry (λ e r f. ap (λ (x : NumberedRow). x.entry) f.1.1)
    (any_follows entry-reads (λ e f. (numbered e 0 [], (omega arith, (no_bytes, refl))))) in
    Reads-is joined (λ r. refl)
    (λ r f. record { entry_fits = f.0; number_fits = f.1.0; signature_fits = f.1.1.0 })
    (λ r f. (f.entry_fits, (f.number_fits, (f.signature_fits, refl))))

-- a row is told by its entry and its token
pub row_is : (x y : RawValue) → x.entry ≡ y.entry → x.token ≡ y.token → x ≡ y
row_is x y e t = λ i. record { entry = e i; token = t i }
