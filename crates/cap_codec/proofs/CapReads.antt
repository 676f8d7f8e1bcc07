-- The readers of capabilities and tokens go with their spellings.
use Rattle.std.proofs.Common.{◌≡◌, ℕ, ◌-◌, Bool, false, List, [], ◌∷◌, ◌++◌, length, replicate, Option, None, refl, sym, ap, ◌∙◌, arith}
use Rattle.std.specs.Prelude.{is_some}
use Rattle.std.proofs.lemmas.List.{length-append, length-replicate}
use Rattle.spelling.specs.Front.{Front, Whole, ◌>>=◌}
use Rattle.spelling.specs.Form.{AreBytes}
use Rattle.spelling.specs.Reader.{IsReader}
use Rattle.spelling.proofs.Joining.{Reads, Reads-then, Reads-last, Reads-is, any_follows}
use Rattle.spelling.proofs.Fields.{byte_up_to-reads, zeros_are_bytes}
use Rattle.spelling.proofs.Reader.{reader}
use Rattle.spelling.proofs.Repeated.{list-reads}
use Rattle.willow_path.specs.Key.{IsKey, key_at}
use Rattle.willow_path.proofs.PathReads.{key-reads}
use Rattle.willow_area.specs.declared.area.Area.{Area}
use Rattle.willow_area.specs.Area.{IsArea}
use Rattle.willow_area.proofs.AreaReads.{area-reads}
use Rattle.mc_cap.specs.declared.capability.Mode.{Mode}
use Rattle.mc_cap.specs.declared.capability.Mode.TheVariants.{Read}
use Rattle.mc_cap.specs.declared.capability.Capability.{Capability}
use Rattle.mc_cap.specs.declared.chain.Delegation.{Delegation}
use Rattle.mc_cap.specs.declared.chain.TheConstants.{MAX_CHAIN}
use Rattle.mc_cap.specs.Signature.{IsSignature, signature_spelling}
use Rattle.mc_cap.specs.Forms.{delegation_spelling, IsDelegation, chain_spelling, IsChain, initial_spelling, capability_spelling, IsCapability}
use Rattle.cap_codec.specs.declared.token.WriteToken.{WriteToken}
use Rattle.cap_codec.specs.Reading.{signature_at, initial_at, delegation_at, chain_at, capability_at, token_at}
use Rattle.cap_codec.specs.Rows.{token_spelling, IsToken}
use Rattle.cap_codec.proofs.FormReads.{form_same, form-reads, signature-reads, no_bytes, IsInitial, initial-reads, initial_for, initial_for_fits}

-- ---- fields that can stand behind any beginning

unfoldable pub zero_key : List ℕ
zero_key = replicate 33 0

pub zero_key_fits : IsKey zero_key
unfolding zero_key
zero_key_fits = record { whole = length-replicate {A = ℕ} 33 0; kind = omega arith; bytes_fit = zeros_are_bytes 33 }

-- everything
unfoldable everything : Area
everything = record { subspace = None; path = []; times = record { start = 0; end = None } }

everything_fits : IsArea everything
unfolding everything
everything_fits = record { subspace_fits = tt; path_fits = record { few = omega arith; parts_fit = tt; short = omega arith }; times_fit = record { starts = omega arith; ends = tt } }

no_delegations : IsChain []
no_delegations = (omega arith, tt)

-- ---- delegations

abbrev delegation : Area → List ℕ → List ℕ → Delegation
delegation area user signature = record { area = area; user = user; signature = signature }

abbrev signed_at : Area → List ℕ → List ℕ → Front Delegation
signed_at area user bytes = signature_at bytes >>= λ s. Whole (delegation area user s.0) s.1

from_user : (area : Area) (user : List ℕ) → Reads (signed_at area user) (λ (d : Delegation). signature_spelling d.signature)
    (λ d. IsSignature d.signature × (d ≡ delegation area user d.signature))
from_user area user = Reads-last (λ (d : Delegation). d.signature) (delegation area user) signature-reads (λ s. refl)

abbrev handed_at : Area → List ℕ → Front Delegation
handed_at area bytes = key_at bytes >>= λ user. signed_at area user.0 user.1

from_area : (area : Area) → Reads (handed_at area) (λ (d : Delegation). d.user ++ signature_spelling d.signature)
    (λ d. IsKey d.user × (IsSignature d.signature × (d ≡ delegation area d.user d.signature)))
from_area area = Reads-then (λ (user : List ℕ × List ℕ). signed_at area user.0 user.1) (λ (d : Delegation). d.user) key-reads (from_user area) (λ user d f. ap (λ (x : Delegation). x.user) f.1)
    (any_follows key-reads (λ user f. (delegation area user [], (no_bytes, refl))))

pub delegation-reads : Reads delegation_at delegation_spelling IsDelegation
unfolding delegation_at
delegation-reads =
    let joined = Reads-then (λ (area : Area × List ℕ). handed_at area.0 area.1) (λ (d : Delegation). d.area) area-reads from_area (λ area d f. ap (λ (x : Delegation). x.area) f.1.1)
    (any_follows area-reads (λ area f. (delegation area zero_key [], (zero_key_fits, (no_bytes, refl))))) in
    Reads-is joined (λ d. refl)
    (λ d f. record { area_fits = f.0; user_fits = f.1.0; signature_fits = f.1.1.0 })
    (λ d f. (f.area_fits, (f.user_fits, (f.signature_fits, refl))))

some_delegation : IsDelegation (delegation everything zero_key [])
some_delegation = record { area_fits = everything_fits; user_fits = zero_key_fits; signature_fits = no_bytes }

pub chain-reads : Reads chain_at chain_spelling IsChain
unfolding chain_at
chain-reads = list-reads MAX_CHAIN (omega arith) (delegation everything zero_key []) some_delegation (byte_up_to-reads MAX_CHAIN) delegation-reads

-- ---- capabilities

abbrev capability : Mode × Bool → List ℕ → List ℕ → Option (List ℕ) → List Delegation → Capability
capability form namespace user initial chain = record { mode = form.0; namespace = namespace; user = user; initial = initial; chain = chain }

abbrev begun_at : Mode × Bool → List ℕ → List ℕ → Option (List ℕ) → List ℕ → Front Capability
begun_at form namespace user initial bytes = chain_at bytes >>= λ chain. Whole (capability form namespace user initial chain.0) chain.1

from_initial : (form : Mode × Bool) (namespace user : List ℕ) (initial : Option (List ℕ)) → Reads (begun_at form namespace user initial) (λ (c : Capability). chain_spelling c.chain)
    (λ c. IsChain c.chain × (c ≡ capability form namespace user initial c.chain))
from_initial form namespace user initial = Reads-last (λ (c : Capability). c.chain) (capability form namespace user initial) chain-reads (λ chain. refl)

abbrev given_at : Mode × Bool → List ℕ → List ℕ → List ℕ → Front Capability
given_at form namespace user bytes = initial_at form.1 bytes >>= λ initial. begun_at form namespace user initial.0 initial.1

from_receiver : (form : Mode × Bool) (namespace user : List ℕ) → Reads (given_at form namespace user) (λ (c : Capability). initial_spelling c.initial ++ chain_spelling c.chain)
    (λ c. IsInitial form.1 c.initial × (IsChain c.chain × (c ≡ capability form namespace user c.initial c.chain)))
from_receiver form namespace user =
    Reads-then (λ (initial : Option (List ℕ) × List ℕ). begun_at form namespace user initial.0 initial.1) (λ (c : Capability). c.initial) (initial-reads form.1) (from_initial form namespace user) (λ initial c f. ap (λ (x : Capability). x.initial) f.1)
    (any_follows (initial-reads form.1) (λ initial f. (capability form namespace user initial [], (no_delegations, refl))))

abbrev owned_at : Mode × Bool → List ℕ → List ℕ → Front Capability
owned_at form namespace bytes = key_at bytes >>= λ user. given_at form namespace user.0 user.1

from_namespace : (form : Mode × Bool) (namespace : List ℕ) → Reads (owned_at form namespace) (λ (c : Capability). c.user ++ (initial_spelling c.initial ++ chain_spelling c.chain))
    (λ c. IsKey c.user × (IsInitial form.1 c.initial × (IsChain c.chain × (c ≡ capability form namespace c.user c.initial c.chain))))
from_namespace form namespace =
    Reads-then (λ (user : List ℕ × List ℕ). given_at form namespace user.0 user.1) (λ (c : Capability). c.user) key-reads (from_receiver form namespace) (λ user c f. ap (λ (x : Capability). x.user) f.1.1)
    (any_follows key-reads (λ user f. (capability form namespace user (initial_for form.1) [], (initial_for_fits form.1, (no_delegations, refl)))))

abbrev formed_at : Mode × Bool → List ℕ → Front Capability
formed_at form bytes = key_at bytes >>= λ namespace. owned_at form namespace.0 namespace.1

-- the fields behind the first byte
abbrev Formed : Mode × Bool → Capability → Type 0
Formed form c = IsKey c.namespace × (IsKey c.user × (IsInitial form.1 c.initial × (IsChain c.chain × (c ≡ capability form c.namespace c.user c.initial c.chain))))

from_form : (form : Mode × Bool) → Reads (formed_at form) (λ (c : Capability). c.namespace ++ (c.user ++ (initial_spelling c.initial ++ chain_spelling c.chain))) (Formed form)
from_form form =
    Reads-then (λ (namespace : List ℕ × List ℕ). owned_at form namespace.0 namespace.1) (λ (c : Capability). c.namespace) key-reads (from_namespace form) (λ namespace c f. ap (λ (x : Capability). x.namespace) f.1.1.1)
    (any_follows key-reads (λ namespace f. (capability form namespace zero_key (initial_for form.1) [], (zero_key_fits, (initial_for_fits form.1, (no_delegations, refl))))))

abbrev form_of : Capability → Mode × Bool
form_of c = (c.mode, is_some c.initial)

pair_is : (m n : Mode) (a b : Bool) → m ≡ n → a ≡ b → ◌≡◌ {A = Mode × Bool} (m, a) (n, b)
pair_is m n a b e f = ap (λ (x : Mode). let p : Mode × Bool = (x, a) in p) e ∙ ap (λ (y : Bool). let p : Mode × Bool = (n, y) in p) f

form_told : (form : Mode × Bool) (c : Capability) → Formed form c → form_of c ≡ form
form_told form c f = pair_is c.mode form.0 (is_some c.initial) form.1 (ap (λ (x : Capability). x.mode) f.1.1.1.1) f.1.1.0.0

abbrev rest_of : Capability → List ℕ
rest_of c = c.namespace ++ (c.user ++ (initial_spelling c.initial ++ chain_spelling c.chain))

pub capability-reads : Reads capability_at capability_spelling IsCapability
unfolding capability_at capability_spelling
capability-reads =
    let joined = Reads-then (λ (form : (Mode × Bool) × List ℕ). formed_at form.0 form.1) form_of form-reads from_form form_told
    (any_follows form-reads (λ form f. (capability form zero_key zero_key (initial_for form.1) [], (zero_key_fits, (zero_key_fits, (initial_for_fits form.1, (no_delegations, refl))))))) in
    Reads-is joined (λ c. ap (λ (b : ℕ). b ∷ rest_of c) (form_same c.mode c.initial))
    (λ c f. record { namespace_fits = f.1.0; user_fits = f.1.1.0; initial_fits = f.1.1.1.0.1; chain_fits = f.1.1.1.1.0 })
    (λ c f. (tt, (f.namespace_fits, (f.user_fits, ((refl, f.initial_fits), (f.chain_fits, refl))))))

-- ---- tokens

abbrev token : Capability → List ℕ → WriteToken
token capability signature = record { capability = capability; signature = signature }

from_capability : (c : Capability) → Reads (λ bytes. signature_at bytes >>= λ s. Whole (token c s.0) s.1) (λ (t : WriteToken). signature_spelling t.signature)
    (λ t. IsSignature t.signature × (t ≡ token c t.signature))
from_capability c = Reads-last (λ (t : WriteToken). t.signature) (token c) signature-reads (λ s. refl)

pub token-reads : Reads token_at token_spelling IsToken
unfolding token_at
token-reads =
    let joined = Reads-then (λ (c : Capability × List ℕ). signature_at c.1 >>= λ s. Whole (token c.0 s.0) s.1) (λ (t : WriteToken). t.capability) capability-reads from_capability (λ c t f. ap (λ (x : WriteToken). x.capability) f.1)
    (any_follows capability-reads (λ c f. (token c [], (no_bytes, refl)))) in
    Reads-is joined (λ t. refl) (λ t f. record { capability_fits = f.0; signature_fits = f.1.0 }) (λ t f. (f.capability_fits, (f.signature_fits, refl)))

-- some token
unfoldable pub some_token : WriteToken
some_token = token (capability (Read, false) zero_key zero_key None []) []

pub some_token_fits : IsToken some_token
unfolding some_token
some_token_fits = record {
  capability_fits = record { namespace_fits = zero_key_fits; user_fits = zero_key_fits; initial_fits = tt; chain_fits = no_delegations };
  signature_fits = no_bytes;
}

-- ---- what the readers mean

pub signature_reader : IsReader signature_at signature_spelling IsSignature
signature_reader = reader signature-reads

pub capability_reader : IsReader capability_at capability_spelling IsCapability
capability_reader = reader capability-reads

pub token_reader : IsReader token_at token_spelling IsToken
token_reader = reader token-reads

-- how many bytes of what was read are the capability's
pub capability_long : (whole input : List ℕ) (c : Capability) (rest : List ℕ) (n : ℕ) → AreBytes whole → input ≡ whole → capability_at input ≡ Whole c rest → n ≡ length whole - length rest → n ≡ length (capability_spelling c)
capability_long whole input c rest n are same h is =
    let t = capability-reads.takes whole c rest are (ap capability_at (sym same) ∙ h) in
    omega (arith, is, ap length t.parts, length-append (capability_spelling c) rest)
