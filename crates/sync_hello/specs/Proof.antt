-- How a side proves that it has its capability.
use Rattle.std.specs.Prelude.{ℕ, Bool, not, List, ◌∷◌, ◌++◌, Option}
use Rattle.spelling.specs.Answers.{cause_if}
use Rattle.scheme_core.specs.Rules.{Rules}
use Rattle.mc_cap.specs.Grant.{receiver_of}
use Rattle.sync_msg.specs.declared.role.Role.{Role}
use Rattle.sync_msg.specs.declared.role.Role.TheVariants.{Caller, Answerer}
use Rattle.sync_hello.specs.declared.hello.Hello.{Hello}
use Rattle.session_end.specs.declared.refusal.HelloRefusal.{HelloRefusal}
use Rattle.session_end.specs.declared.refusal.HelloRefusal.TheVariants.{BadProof}
use Rattle.sync_hello.specs.HelloForm.{hello_spelling}

-- the byte of a side
abbrev pub role_byte : Role → ℕ
role_byte Caller = 0
role_byte Answerer = 1

-- which of the two hellos is that of the side
abbrev pub hello_of : Role → Hello → Hello → Hello
hello_of Caller caller answerer = caller
hello_of Answerer caller answerer = answerer

-- what a side signs: the letter S, the side in a byte, the caller's hello and the answerer's hello
unfoldable pub proof_message : Role → Hello → Hello → List ℕ
proof_message signer caller answerer = 83 ∷ (role_byte signer ∷ (hello_spelling caller ++ hello_spelling answerer))

-- the signature of that message is accepted for the receiver of the side's capability
abbrev pub is_proof : Rules → Role → Hello → Hello → List ℕ → Bool
is_proof rules signer caller answerer signature =
    rules.user (receiver_of (hello_of signer caller answerer).capability) (proof_message signer caller answerer) signature

-- why a proof is refused: it is none
abbrev pub proof_refusal : Rules → Role → Hello → Hello → List ℕ → Option HelloRefusal
proof_refusal rules signer caller answerer signature = cause_if (not (is_proof rules signer caller answerer signature)) BadProof
