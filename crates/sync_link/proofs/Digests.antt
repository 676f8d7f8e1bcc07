-- Fingerprints are 32 bytes.
use Rattle.std.proofs.Common.{ℕ, zero, suc, ◌^◌, ◌<◌, List, arith}
use Rattle.std.specs.Int.{byte_at, bytes_high_first}
use Rattle.sha2.specs.Sha256.{sha256, digest_bytes}
use Rattle.sha2.proofs.Facts256.{length-sha256}
use Rattle.spelling.specs.Form.{AreBytes}
use Rattle.spelling.specs.Spelling.{AreSoManyBytes}
use Rattle.spelling.proofs.Lists.{All-append}
use Rattle.willow_entry.specs.Row.{RowValue}
use Rattle.block_store.specs.Fingerprint.{fingerprint_of}

byte_at_below : (k n : ℕ) → byte_at k n < 2 ^ 8
byte_at_below zero n = omega arith
byte_at_below (suc k) n = omega arith

high_first_bytes : (k n : ℕ) → AreBytes (bytes_high_first k n)
high_first_bytes zero n = tt
high_first_bytes (suc k) n = (byte_at_below k n, high_first_bytes k n)

digest_bytes_bytes : (h : List ℕ) (n : ℕ) → AreBytes (digest_bytes h n)
unfolding digest_bytes
digest_bytes_bytes h zero = tt
digest_bytes_bytes h (suc n) = All-append (λ b. b < 2 ^ 8) (digest_bytes h n) _ (digest_bytes_bytes h n) (high_first_bytes 4 _)

sha256_bytes : (m : List ℕ) → AreBytes (sha256 m)
unfolding sha256
sha256_bytes m = digest_bytes_bytes _ 8

pub fingerprint_fits : (rows : List RowValue) → AreSoManyBytes 32 (fingerprint_of rows)
fingerprint_fits rows = (length-sha256 _, sha256_bytes _)
