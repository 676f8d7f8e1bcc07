-- Digests, numbers in bytes and the digits of a message are bytes.
use Rattle.std.proofs.Common.{◌≡◌, ℕ, zero, suc, ◌^◌, ◌<◌, List, ◌++◌, length, refl, arith, length-append}
use Rattle.std.specs.Int.{byte_at, bytes_high_first}
use Rattle.std.proofs.lemmas.Nat.{from_be_bytes-to_be_bytes_4}
use Rattle.sha2.specs.Sha256.{sha256, digest_bytes}
use Rattle.sha2.proofs.Facts256.{length-sha256}
use Rattle.spelling.specs.Form.{AreBytes}
use Rattle.spelling.proofs.Lists.{All-append}
use Rattle.lms_core.specs.Bytes.{u16_str, u32_str, u32_at, field}
use Rattle.lms_core.specs.OneTime.{front, d_mesg, checksum, digits, message_hash}

byte_at_below : (k n : ℕ) → byte_at k n < 2 ^ 8
byte_at_below zero n = omega arith
byte_at_below (suc k) n = omega arith

high_first_bytes : (k n : ℕ) → AreBytes (bytes_high_first k n)
high_first_bytes zero n = tt
high_first_bytes (suc k) n = (byte_at_below k n, high_first_bytes k n)

digest_bytes_bytes : (h : List ℕ) (n : ℕ) → AreBytes (digest_bytes h n)
unfolding digest_bytes
digest_bytes_bytes h zero = tt
digest_bytes_bytes h (suc n) = All-append (λ b. b < 2 ^ 8) (digest_bytes h n) _ (digest_bytes_bytes h n) (high_first_bytes 4 _)

pub sha256_bytes : (m : List ℕ) → AreBytes (sha256 m)
unfolding sha256
sha256_bytes m = digest_bytes_bytes _ 8

pub length_u32_str : (n : ℕ) → length (u32_str n) ≡ 4
unfolding u32_str
length_u32_str n = refl

pub length_u16_str : (n : ℕ) → length (u16_str n) ≡ 2
unfolding u16_str
length_u16_str n = refl

pub u16_str_bytes : (n : ℕ) → AreBytes (u16_str n)
unfolding u16_str
u16_str_bytes n = high_first_bytes 2 n

-- a field that spells a number
pub u32_at_by : (at n : ℕ) (bytes : List ℕ) → n < 2 ^ 32 → field at 4 bytes ≡ u32_str n → u32_at at bytes ≡ n
unfolding u32_at u32_str
u32_at_by at n bytes h e = rw e (from_be_bytes-to_be_bytes_4 n h)

-- a message has 34 digits
pub length_digits : (id c message : List ℕ) (q : ℕ) → length (digits (message_hash id q c message)) ≡ 34
unfolding digits message_hash
length_digits id c message q =
    let hash = sha256 ((front id q d_mesg ++ c) ++ message) in
    omega (arith, length-append hash (u16_str (checksum hash)), length-sha256 ((front id q d_mesg ++ c) ++ message), length_u16_str (checksum hash))

pub digits_bytes : (id c message : List ℕ) (q : ℕ) → AreBytes (digits (message_hash id q c message))
unfolding digits message_hash
digits_bytes id c message q =
    let hash = sha256 ((front id q d_mesg ++ c) ++ message) in
    All-append (λ b. b < 2 ^ 8) hash (u16_str (checksum hash)) (sha256_bytes ((front id q d_mesg ++ c) ++ message)) (u16_str_bytes (checksum hash))
