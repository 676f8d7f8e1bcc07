-- How long a capability of a hello that passes can be.
use Rattle.std.proofs.Common.{◌≡◌, ℕ, ◌<◌, ◌^◌, List, None, arith}
use Rattle.spelling.specs.Spelling.{AreSoManyBytes}
use Rattle.scheme_core.specs.Rules.{Rules}
use Rattle.willow_area.specs.Area.{IsArea}
use Rattle.mc_cap.specs.Forms.{IsCapability}
use Rattle.cap_codec.proofs.CapabilityLengths.{capability_within}
use Rattle.sync_hello.specs.Checked.{hello_refusal}
use Rattle.sync_hello.specs.HelloForm.{HasSpelling, IsHello}
use Rattle.sync_hello.specs.declared.hello.Hello.{Hello}
use Rattle.sync_hello.proofs.Meaning.{passes_means}

pub has_spelling : (rules : Rules) (namespace : List ℕ) (hello : Hello) → IsCapability hello.capability → hello_refusal rules namespace hello ≡ None → HasSpelling hello
has_spelling rules namespace hello fits none =
    let few = ((passes_means rules namespace hello).0 none).valid.few in
    omega (arith, capability_within hello.capability fits few)

pub is_hello : (rules : Rules) (namespace : List ℕ) (hello : Hello) → hello.version < 2 ^ 8 → AreSoManyBytes 16 hello.nonce → IsArea hello.ask → IsCapability hello.capability → hello_refusal rules namespace hello ≡ None → IsHello hello
is_hello rules namespace hello version nonce ask capability none =
    record { version_fits = version; nonce_fits = nonce; ask_fits = ask; capability_fits = capability; short = has_spelling rules namespace hello capability none }
