-- How two stores greet each other: by hellos and proofs.
use Rattle.std.specs.Prelude.{ℕ, List, Option, option_map}
use Rattle.scheme_core.specs.Rules.{Rules}
use Rattle.willow_area.specs.AreaBox.{area_box}
use Rattle.willow_area.specs.Boxes.{Ranges}
use Rattle.mc_cap.specs.Signature.{signature_spelling}
use Rattle.sync_msg.specs.declared.role.Role.{Role}
use Rattle.sync_msg.specs.declared.role.Role.TheVariants as roles
use Rattle.session_end.specs.declared.refusal.HelloRefusal.{HelloRefusal}
use Rattle.sync_hello.specs.HelloForm.{hello_spelling}
use Rattle.sync_hello.specs.Checked.{hello_refusal}
use Rattle.sync_hello.specs.Proof.{proof_refusal}
use Rattle.sync_hello.specs.Common.{common_area}
use Rattle.sync_hello.specs.Version.{session_version}
use Rattle.sync_hello.specs.declared.hello.Hello.{Hello}
use Rattle.session_rules.specs.Talk as talk
use Rattle.session_rules.specs.Greeting.{Greeting}
use Rattle.sync_link.specs.Readers.{hello_seen, proof_seen}

-- the two sides, as the rules of sessions name them, and as stores do
abbrev pub side_of : Role → talk.Role
side_of roles.Caller = talk.Caller
side_of roles.Answerer = talk.Answerer

abbrev pub role_of : talk.Role → Role
role_of talk.Caller = roles.Caller
role_of talk.Answerer = roles.Answerer

-- What two hellos agree on: the version of the session, and the box of the area that both ask for, if there is one.
pub record Agreement : Type 0 where
  pub version : ℕ
  pub box : Option Ranges

abbrev pub agreement : Hello → Hello → Agreement
agreement caller answerer = record { version = session_version caller answerer; box = option_map area_box (common_area caller answerer) }

-- In a namespace, by the rules of a scheme: a hello is refused for the first of the conditions that fails, and a proof where
-- its signature is not accepted.
abbrev pub greeting : Rules → List ℕ → Greeting Hello (List ℕ) Agreement HelloRefusal
greeting rules namespace = record {
  sees_hello = hello_seen;
  hello_spelling = hello_spelling;
  hello_refusal = hello_refusal rules namespace;
  sees_proof = proof_seen;
  proof_spelling = signature_spelling;
  proof_refusal = λ signer caller answerer signature. proof_refusal rules (role_of signer) caller answerer signature;
  agreed = agreement;
}
