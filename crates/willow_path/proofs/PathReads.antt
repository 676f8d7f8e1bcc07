-- The readers of keys and paths go with their spellings.
use Rattle.std.proofs.Common.{◌≡◌, ℕ, zero, suc, ◌-◌, ◌<◌, ◌≤◌, ◌^◌, min, List, [], ◌∷◌, ◌++◌, length, replicate, refl, sym, ap, arith}
use Rattle.std.specs.List.{flat_map, AllByRecursion}
use Rattle.std.proofs.lemmas.List.{length-replicate}
use Rattle.spelling.specs.Front.{Whole, ◌>>=◌}
use Rattle.spelling.specs.Form.{IsForm}
use Rattle.spelling.specs.Reader.{IsReader}
use Rattle.spelling.specs.Reading.{bytes_at}
use Rattle.spelling.specs.Spelling.{AreSoManyBytes, IsText}
use Rattle.spelling.proofs.Joining.{Reads, Reads-when, Reads-then, Reads-made, Reads-last, any_follows, one_spelling}
use Rattle.spelling.proofs.Fields.{byte_up_to-reads, bytes-reads, zeros_are_bytes}
use Rattle.spelling.proofs.Reader.{reader}
use Rattle.spelling.proofs.Repeated.{text-reads}
use Rattle.willow_path.specs.declared.limits.TheConstants.{MAX_PART, MAX_PARTS, MAX_TOTAL}
use Rattle.willow_path.specs.Key.{IsKey, key_at}
use Rattle.willow_path.specs.Path.{IsPart, IsPath, total}
use Rattle.willow_path.specs.PathSpelling.{part_spelling, path_spelling, part_at, parts_at, path_at}

abbrev head : {A : Type 0} → A → List A → A
head d [] = d
head d (x ∷ xs) = x

abbrev tail : {A : Type 0} → List A → List A
tail [] = []
tail (x ∷ xs) = xs

-- ---- keys

abbrev KeyParts : List ℕ → Type 0
KeyParts key = ((head 0 key ≤ 1) × (head 0 key < 2 ^ 8)) × (AreSoManyBytes 32 (tail key) × (key ≡ head 0 key ∷ tail key))

key_there : (key : List ℕ) → KeyParts key → IsKey key
key_there [] f = absurd cc
key_there (kind ∷ body) f = record { whole = omega (arith, f.1.0.0); kind = f.0.0; bytes_fit = (f.0.1, f.1.0.1) }

key_back : (key : List ℕ) → IsKey key → KeyParts key
key_back [] f = absurd (omega (arith, f.whole))
key_back (kind ∷ body) f = ((f.kind, f.bytes_fit.0), ((omega (arith, f.whole), f.bytes_fit.1), refl))

zeros : AreSoManyBytes 32 (replicate 32 0)
zeros = (length-replicate {A = ℕ} 32 0, zeros_are_bytes 32)

pub key-reads : Reads key_at (λ key. key) IsKey
unfolding key_at
key-reads =
    Reads-when {fits = KeyParts} (Reads-then {T = List ℕ} (λ kind. bytes_at 32 kind.1 >>= λ body. Whole (kind.0 ∷ body.0) body.1) (head 0) (byte_up_to-reads 1)
    (λ kind. Reads-last tail (λ body. kind ∷ body) (bytes-reads 32) (λ body. refl)) (λ kind key f. ap (head 0) f.1)
    (any_follows (byte_up_to-reads 1) (λ kind f. (kind ∷ replicate 32 0, (zeros, refl)))))
    (λ key f. sym f.1.1) key_there key_back

-- ---- paths

pub part-reads : (room : ℕ) → Reads (part_at room) part_spelling (IsText (min MAX_PART room))
unfolding part_at
part-reads room = text-reads (min MAX_PART room) (omega arith) (byte_up_to-reads (min MAX_PART room))

-- so many components, which have so many bytes together at most
pub record AreParts (room count : ℕ) (parts : List (List ℕ)) : Type 0 where
  pub count_is : length parts ≡ count
  pub all_fit : AllByRecursion IsPart parts
  pub within : total parts ≤ room

abbrev FirstAndMore : ℕ → ℕ → List (List ℕ) → Type 0
FirstAndMore room count parts = IsText (min MAX_PART room) (head [] parts) × (AreParts (room - length (head [] parts)) count (tail parts) × (parts ≡ head [] parts ∷ tail parts))

parts_there : (room count : ℕ) (parts : List (List ℕ)) → FirstAndMore room count parts → AreParts room (suc count) parts
parts_there room count [] f = absurd cc
parts_there room count (part ∷ parts) f =
    record { count_is = omega (arith, f.1.0.count_is); all_fit = ((omega (arith, f.0.0), f.0.1), f.1.0.all_fit); within = omega (arith, f.0.0, f.1.0.within) }

parts_back : (room count : ℕ) (parts : List (List ℕ)) → AreParts room (suc count) parts → FirstAndMore room count parts
parts_back room count [] f = absurd (omega (arith, f.count_is))
parts_back room count (part ∷ parts) f =
    ((omega (arith, f.all_fit.0.0, f.within), f.all_fit.0.1), (record { count_is = omega (arith, f.count_is); all_fit = f.all_fit.1; within = omega (arith, f.within) }, refl))

none_spelled : (parts : List (List ℕ)) → parts ≡ [] → [] ≡ flat_map part_spelling parts
none_spelled parts e = ap (flat_map part_spelling) (sym e)

first_spelled : (room count : ℕ) (parts : List (List ℕ)) → FirstAndMore room count parts → part_spelling (head [] parts) ++ flat_map part_spelling (tail parts) ≡ flat_map part_spelling parts
first_spelled room count [] f = absurd cc
first_spelled room count (part ∷ parts) f = refl

none_there : (room : ℕ) (parts : List (List ℕ)) → parts ≡ [] → AreParts room 0 parts
none_there room [] e = record { count_is = refl; all_fit = tt; within = omega arith }
none_there room (part ∷ parts) e = absurd cc

none_back : (room : ℕ) (parts : List (List ℕ)) → AreParts room 0 parts → parts ≡ []
none_back room [] f = refl
none_back room (part ∷ parts) f = absurd (omega (arith, f.count_is))

-- so many components without bytes, which follow whatever is read before
no_bytes : (count room : ℕ) → AreParts room count (replicate count [])
no_bytes zero room = record { count_is = refl; all_fit = tt; within = omega arith }
no_bytes (suc count) room = let others = no_bytes count room in record { count_is = ap suc others.count_is; all_fit = ((omega arith, tt), others.all_fit); within = omega (arith, others.within) }

pub parts-reads : (count room : ℕ) → Reads (parts_at room count) (flat_map part_spelling) (AreParts room count)
unfolding parts_at
parts-reads zero room = Reads-when (Reads-made {T = List (List ℕ)} []) none_spelled (none_there room) (none_back room)
parts-reads (suc count) room =
    Reads-when {fits = FirstAndMore room count} (Reads-then {T = List (List ℕ)} (λ part. parts_at (room - length part.0) count part.1 >>= λ others. Whole (part.0 ∷ others.0) others.1) (head []) (part-reads room)
    (λ part. Reads-last tail (λ others. part ∷ others) (parts-reads count (room - length part)) (λ others. refl)) (λ part parts f. ap (head []) f.1)
    (any_follows (part-reads room) (λ part f. (part ∷ replicate count [], (no_bytes count (room - length part), refl)))))
    (first_spelled room count) (parts_there room count) (parts_back room count)

pub path-reads : Reads path_at path_spelling IsPath
unfolding path_at
path-reads =
    Reads-when (Reads-then {T = List (List ℕ)} (λ count. parts_at MAX_TOTAL count.0 count.1) length (byte_up_to-reads MAX_PARTS)
    (λ count. parts-reads count MAX_TOTAL) (λ count parts f. f.count_is)
    (any_follows (byte_up_to-reads MAX_PARTS) (λ count f. (replicate count [], no_bytes count MAX_TOTAL))))
    (λ parts f. refl)
    (λ parts f. record { few = f.0.0; parts_fit = f.1.all_fit; short = f.1.within })
    (λ parts f. ((f.few, omega (arith, f.few)), record { count_is = refl; all_fit = f.parts_fit; within = f.short }))

pub key_form : IsForm (λ (key : List ℕ). key) IsKey
key_form = one_spelling key-reads

pub path_form : IsForm path_spelling IsPath
path_form = one_spelling path-reads

pub key_reader : IsReader key_at (λ key. key) IsKey
key_reader = reader key-reads

pub path_reader : IsReader path_at path_spelling IsPath
path_reader = reader path-reads

pub digest_reader : IsReader (bytes_at 32) (λ digest. digest) (AreSoManyBytes 32)
digest_reader = reader (bytes-reads 32)
