-- How two sides greet each other before they exchange anything: hellos and proofs.
use Rattle.std.specs.Prelude.{◌≡◌, ℕ, List, ◌++◌, Option, None}
use Rattle.session_rules.specs.Machine.{Seen, Whole}
use Rattle.session_rules.specs.Messages.{IsReadAs}
use Rattle.session_rules.specs.Talk.{Role, Caller, Answerer}

-- What reads and judges hellos and proofs. Hellos, proofs, what two hellos agree on and causes to refuse stay abstract.
pub record Greeting (H P A F : Type 0) : Type 0 where
  -- what some bytes are, and the bytes of a hello
  pub sees_hello : List ℕ → Seen H
  pub hello_spelling : H → List ℕ
  -- why a hello is refused, if it is
  pub hello_refusal : H → Option F
  -- what some bytes are, and the bytes of a proof
  pub sees_proof : List ℕ → Seen P
  pub proof_spelling : P → List ℕ
  -- why a proof is refused, if it is: whose it is, the caller's hello, the answerer's hello, and the proof
  pub proof_refusal : Role → H → H → P → Option F
  -- what the caller's hello and the answerer's agree on: all of the exchange that hangs on them
  pub agreed : H → H → A

-- a side's own part: which one it is, its hello, and its proof
pub record Own (H P : Type 0) : Type 0 where
  pub role : Role
  pub hello : H
  pub proof : P

-- the other side
abbrev pub other_role : Role → Role
other_role Caller = Answerer
other_role Answerer = Caller

-- of the own and the other side's, the caller's and the answerer's
abbrev pub caller_of : {H : Type 0} → Role → H → H → H
caller_of Caller own other = own
caller_of Answerer own other = other

abbrev pub answerer_of : {H : Type 0} → Role → H → H → H
answerer_of Caller own other = other
answerer_of Answerer own other = own

-- why the other side's proof is refused, if it is
abbrev pub other_refusal : {H P A F : Type 0} → Greeting H P A F → Own H P → H → P → Option F
other_refusal g own hello proof =
    g.proof_refusal (other_role own.role) (caller_of own.role own.hello hello) (answerer_of own.role own.hello hello) proof

-- what the own hello and the other side's agree on
abbrev pub agreed_with : {H P A F : Type 0} → Greeting H P A F → Own H P → H → A
agreed_with g own hello = g.agreed (caller_of own.role own.hello hello) (answerer_of own.role own.hello hello)

-- a hello that passes stands in front of some bytes
pub record HasHello {H P A F : Type 0} (g : Greeting H P A F) (bytes : List ℕ) (hello : H) : Type 0 where
  pub hello_bytes : List ℕ
  pub behind : List ℕ
  pub joined : bytes ≡ hello_bytes ++ behind
  pub is_hello : g.sees_hello hello_bytes ≡ Whole hello
  pub passes : g.hello_refusal hello ≡ None

-- and behind it a proof that is accepted
pub record IsGreeted {H P A F : Type 0} (g : Greeting H P A F) (own : Own H P) (bytes : List ℕ) : Type 0 where
  pub hello : H
  pub proof : P
  pub greets : HasHello g bytes hello
  pub proof_bytes : List ℕ
  pub behind : List ℕ
  pub joined : greets.behind ≡ proof_bytes ++ behind
  pub is_proof : g.sees_proof proof_bytes ≡ Whole proof
  pub proof_passes : other_refusal g own hello proof ≡ None

-- ---- a greeting that passes

-- the bytes of a side's greeting
abbrev pub greeting_bytes : {H P A F : Type 0} → Greeting H P A F → H → P → List ℕ
greeting_bytes g hello proof = g.hello_spelling hello ++ g.proof_spelling proof

-- the other side's hello and proof are read as what they are, and pass
pub record Greets {H P A F : Type 0} (g : Greeting H P A F) (own : Own H P) (hello : H) (proof : P) : Type 0 where
  pub hello_read : IsReadAs g.sees_hello (g.hello_spelling hello) hello
  pub hello_passes : g.hello_refusal hello ≡ None
  pub proof_read : IsReadAs g.sees_proof (g.proof_spelling proof) proof
  pub proof_passes : other_refusal g own hello proof ≡ None
