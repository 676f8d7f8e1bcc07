-- To whom a side tells anything of its rows.
use Rattle.std.specs.Prelude.{◌≡◌, ℕ, List, ◌++◌, IsTrue}
use Rattle.willow_area.specs.Area.{in_area}
use Rattle.willow_entry.specs.Row.{RowValue}
use Rattle.mc_cap.specs.Grant.{granted, receiver_of}
use Rattle.mc_cap.specs.Signature.{IsSignature, signature_spelling}
use Rattle.sync_msg.specs.declared.role.Role.{Role}
use Rattle.sync_msg.specs.declared.role.Role.TheVariants.{Caller, Answerer}
use Rattle.sync_hello.specs.HelloForm.{hello_spelling, IsHello}
use Rattle.sync_hello.specs.Checked.{Passes}
use Rattle.sync_hello.specs.Proof.{proof_message}
use Rattle.sync_hello.specs.declared.hello.Hello.{Hello}
use Rattle.sync_link.specs.Sessions.{Party}

-- what the other side signs, where it said this hello
abbrev pub message_due : Role → Hello → Hello → List ℕ
message_due Caller own other = proof_message Answerer own other
message_due Answerer own other = proof_message Caller other own

-- The bytes begin with a hello and a proof. The hello passes in the namespace, and the proof is a signature of the proof
-- message of the two hellos that is accepted for the receiver of the hello's capability.
pub record IsGranted (p : Party) (bytes : List ℕ) : Type 0 where
  pub hello : Hello
  pub signature : List ℕ
  pub behind : List ℕ
  pub joined : bytes ≡ hello_spelling hello ++ (signature_spelling signature ++ behind)
  pub fits : IsHello hello
  pub proof_fits : IsSignature signature
  pub passes : Passes p.rules p.namespace hello
  pub proved : IsTrue (p.rules.user (receiver_of hello.capability) (message_due p.role p.hello hello) signature)

-- what the hello's capability grants includes the row
abbrev pub GrantsRow : Hello → RowValue → Type 0
GrantsRow hello row = IsTrue (in_area (granted hello.capability) row.entry.subspace row.entry.path row.entry.timestamp)
