-- Signers of many indices, and of an open key: how many there are, and that none has signed.
use Rattle.std.proofs.Common.{◌≡◌, ◌∙◌, ℕ, zero, suc, List, length, All, refl, sym, ap, subst}
use Rattle.std.proofs.lemmas.List.{length-map, length-replicate}
use Rattle.std.proofs.lemmas.List.Elements.{All-nil, All-cons, All-map, All-replicate}
use Rattle.willow_outside.specs.Facts.{ShelfFacts}
use Rattle.lms_core.specs.Key.{Key}
use Rattle.lms_core.specs.Use.{Use, uses_from}
use Rattle.peer_words.specs.declared.command.SignerWord.{SignerWord}
use Rattle.peer_words.specs.declared.command.SignerWord.TheVariants.{OpenKey, LmsFile}
use Rattle.peer_make.specs.KeySigners.{AreSignersOf, left_of}
use Rattle.peer_make.specs.declared.key_signer.KeySigner.{KeySigner}
use Rattle.peer_make.specs.declared.key_signer.KeySigner.TheVariants.{Open, Once}

length-uses_from : (k : Key) (index n : ℕ) → length (uses_from k index n) ≡ n
unfolding uses_from
length-uses_from k index zero = refl
length-uses_from k index (suc n) = ap suc (length-uses_from k (suc index) n)

uses_left : (k : Key) (index n : ℕ) → All (λ (u : Use). u.left ≡ 1) (uses_from k index n)
unfolding uses_from
uses_left k index zero = All-nil (λ (u : Use). u.left ≡ 1)
uses_left k index (suc n) = All-cons (λ (u : Use). u.left ≡ 1) _ (uses_from k (suc index) n) refl (uses_left k (suc index) n)

-- there are as many as were asked for
pub as_many : (key : SignerWord) (count : ℕ) (old new : ShelfFacts) (signers : List KeySigner) → AreSignersOf key count old new signers → length signers ≡ count
as_many (OpenKey key) count old new signers is = ap length is.0 ∙ length-replicate count (Open key)
as_many (LmsFile name) count old new signers is =
    let k = is.2.key in
    ap length is.1 ∙ length-map is.0 Once ∙ ap length is.2.handed_out.signers_are ∙ length-uses_from k k.next count

-- none has signed
pub none_signed : (key : SignerWord) (count : ℕ) (old new : ShelfFacts) (signers : List KeySigner) → AreSignersOf key count old new signers → All (λ s. left_of s ≡ 1) signers
none_signed (OpenKey key) count old new signers is = subst (All (λ s. left_of s ≡ 1)) (sym is.0) (All-replicate (λ s. left_of s ≡ 1) count (Open key) refl)
none_signed (LmsFile name) count old new signers is =
    let k = is.2.key in
    subst (All (λ s. left_of s ≡ 1)) (sym is.1)
    (All-map (λ s. left_of s ≡ 1) Once is.0 (subst (All (λ (u : Use). u.left ≡ 1)) (sym is.2.handed_out.signers_are) (uses_left k k.next count)))
