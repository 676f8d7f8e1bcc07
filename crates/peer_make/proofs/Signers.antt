-- What is told of a signer that made no signature.
use Rattle.std.proofs.Common.{◌≡◌, ℕ, ◌+◌, ◌<◌, List, Option, Some, None, sym, ap, ◌∙◌, subst, arith}
use Rattle.std.specs.String.{string_bytes}
use Rattle.willow_outside.specs.Facts.{Names, ShelfFacts}
use Rattle.willow_outside.specs.Names.{GetsName}
use Rattle.lms_core.specs.Accepts.{leaves}
use Rattle.lms_core.specs.Key.{Key, key_file}
use Rattle.lms_core.proofs.Files.{file_once}
use Rattle.peer_stage.proofs.Ends.{IsCondition}
use Rattle.peer_stage.specs.declared.outcome.Stop.{Stop}
use Rattle.peer_stage.specs.declared.outcome.Stop.TheVariants as stop
use Rattle.peer_words.specs.declared.command.SignerWord.{SignerWord}
use Rattle.peer_words.specs.declared.command.SignerWord.TheVariants.{OpenKey, LmsFile}
use Rattle.peer_make.specs.Signing.{StopsSigning}
use Rattle.peer_make.specs.Deeds.{CanSign, SignerRose}

-- what a shelf that tells its names gives under one of them
pub given : (told : Option Names) (names : Names) (name : List ℕ) (found : Option (List ℕ)) → told ≡ Some names → GetsName told name found → names name ≡ found
given (Some f) names name found told gets =
    let same : f ≡ names = cc in
    ap (λ (g : Names). g name) (sym same) ∙ gets
given None names name found told gets = absurd cc

-- a signer that can sign meets no condition
pub signer_ready : (key : SignerWord) (h h' : ShelfFacts) (e : Stop) → CanSign key h → IsCondition e → StopsSigning key h h' e → ⊥
signer_ready (OpenKey key) h h' stop.NoMemory can condition fails = condition
signer_ready (OpenKey key) h h' e can condition fails = fails
signer_ready (LmsFile name) h h' (stop.Missing other) can condition fails =
    let none : None ≡ Some (key_file can.key) = sym (given h.names can.names (string_bytes name) None can.told fails.1) ∙ can.file in
    absurd cc
signer_ready (LmsFile name) h h' (stop.BadInput from at) can condition fails =
    let some : Some fails.2.bytes ≡ Some (key_file can.key) = sym (given h.names can.names (string_bytes name) (Some fails.2.bytes) can.told fails.2.no_key.held) ∙ can.file in
    let same : fails.2.bytes ≡ key_file can.key = cc in
    fails.2.no_key.no_key can.key can.is_key same
signer_ready (LmsFile name) h h' stop.KeySpent can condition fails =
    let some : Some (key_file fails.key) ≡ Some (key_file can.key) = sym (given h.names can.names (string_bytes name) (Some (key_file fails.key)) can.told fails.spent.held.file) ∙ can.file in
    let file : key_file fails.key ≡ key_file can.key = cc in
    let same = file_once fails.key can.key fails.spent.held.key can.is_key file in
    let short = subst (λ (k : Key). leaves k.height < k.next + 1) same fails.spent.short in
    omega (arith, short, can.room)
signer_ready (LmsFile name) h h' stop.ReadFault can condition fails = condition
signer_ready (LmsFile name) h h' stop.WriteFault can condition fails = condition
signer_ready (LmsFile name) h h' stop.NoMemory can condition fails = condition
signer_ready (LmsFile name) h h' e can condition fails = fails

pub signer_rose : (key : SignerWord) (h h' : ShelfFacts) → StopsSigning key h h' stop.ReadFault → SignerRose key h.read_faults h'.read_faults
signer_rose (OpenKey key) h h' fails = fails
signer_rose (LmsFile name) h h' fails = fails.0

pub signer_wrote : (key : SignerWord) (h h' : ShelfFacts) → StopsSigning key h h' stop.WriteFault → SignerRose key h.write_faults h'.write_faults
signer_wrote (OpenKey key) h h' fails = fails
signer_wrote (LmsFile name) h h' fails = fails.1.rose
