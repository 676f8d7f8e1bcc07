-- Digests that are made in any order, and flags of those that are made ahead.
use Rattle.std.proofs.Common.{◌≡◌, ℕ, ◌+◌, ◌%◌, ◌<◌, ◌≤◌, Bool, true, false, IsTrue, List, [], ◌∷◌, length, map, slice_index_or, slice_set, refl, sym, ap, subst, ◌∙◌, inl, inr, arith}
use Rattle.std.proofs.lemmas.List.{length-map, ext_get_or, get_or-map, get_or-set_same, get_or-set_other}
use Rattle.std.proofs.lemmas.Bool.{cases_eq, false≢true}
use Rattle.sha_lanes.specs.declared.message.Message.{Message}
use Rattle.sha_lanes.specs.Message.{AreAlike, block_count, bytes_of, digest_of}
use Rattle.sha_lanes.specs.Windows.{AreHashed, IsBeside, IsHashed, message_at}
use Rattle.sha_lanes.proofs.OfLanes.{in_lanes}

-- four messages that have as many blocks as the first
pub AreAlike-four : (a b c d : Message) → block_count (bytes_of b) ≡ block_count (bytes_of a) → block_count (bytes_of c) ≡ block_count (bytes_of a)
    → block_count (bytes_of d) ≡ block_count (bytes_of a) → AreAlike (a ∷ b ∷ c ∷ d ∷ [])
AreAlike-four a b c d eb ec ed = λ i j none low lt.
    let same = in_lanes (λ l. block_count (bytes_of (slice_index_or (a ∷ b ∷ c ∷ d ∷ []) l none)) ≡ block_count (bytes_of a)) refl eb ec ed in
    same i (omega (arith, low, lt)) ∙ sym (same j lt)

pub AreAlike-counts : (messages : List Message) → length messages ≡ 4 → block_count (bytes_of (message_at messages 1)) ≡ block_count (bytes_of (message_at messages 0))
    → block_count (bytes_of (message_at messages 2)) ≡ block_count (bytes_of (message_at messages 0))
    → block_count (bytes_of (message_at messages 3)) ≡ block_count (bytes_of (message_at messages 0)) → AreAlike messages
AreAlike-counts (a ∷ b ∷ c ∷ d ∷ []) long eb ec ed = AreAlike-four a b c d eb ec ed
AreAlike-counts [] long eb ec ed = absurd (omega (arith, long))
AreAlike-counts (a ∷ []) long eb ec ed = absurd (omega (arith, long))
AreAlike-counts (a ∷ b ∷ []) long eb ec ed = absurd (omega (arith, long))
AreAlike-counts (a ∷ b ∷ c ∷ []) long eb ec ed = absurd (omega (arith, long))
AreAlike-counts (a ∷ b ∷ c ∷ d ∷ e ∷ more) long eb ec ed = absurd (omega (arith, long))

-- a digest is written
pub IsHashed-set : (messages : List Message) (digests : List (List ℕ)) (i k : ℕ) (digest : List ℕ) → i < length digests → digest ≡ digest_of (message_at messages i)
    → IsHashed messages digests k → IsHashed messages (slice_set digests i digest) k
IsHashed-set messages digests i k digest low is held = elim (cases_eq k i) [
  | inl here ↦ rw here (get_or-set_same digests i digest [] low ∙ is)
  | inr apart ↦ get_or-set_other digests i k digest [] apart ∙ held
]

pub IsHashed-here : (messages : List Message) (digests : List (List ℕ)) (i : ℕ) (digest : List ℕ) → i < length digests → digest ≡ digest_of (message_at messages i)
    → IsHashed messages (slice_set digests i digest) i
IsHashed-here messages digests i digest low is = get_or-set_same digests i digest [] low ∙ is

-- nothing is hashed yet
pub AreHashed-none : (messages : List Message) (digests : List (List ℕ)) (flags : List Bool) → length digests ≡ length messages
    → ((k : ℕ) → slice_index_or flags (k % 64) false ≡ false) → AreHashed messages digests flags 0
AreHashed-none messages digests flags long none = record {
  long = long;
  before = λ k low. absurd (omega arith);
  ahead = λ k from near there flag. absurd (false≢true (subst IsTrue (none k) flag));
}

-- more digests are made
pub AreHashed-keeps : (messages : List Message) (old new : List (List ℕ)) (flags : List Bool) (first : ℕ) → length new ≡ length messages
    → ((k : ℕ) → IsHashed messages old k → IsHashed messages new k) → AreHashed messages old flags first → AreHashed messages new flags first
AreHashed-keeps messages old new flags first long keeps held = record {
  long = long;
  before = λ k low. keeps k (held.before k low);
  ahead = λ k from near there flag. keeps k (held.ahead k from near there flag);
}

-- a digest that is made ahead is flagged
pub AreHashed-flag : (messages : List Message) (digests : List (List ℕ)) (flags : List Bool) (first place : ℕ) → IsBeside messages first place → IsHashed messages digests place
    → AreHashed messages digests flags first → AreHashed messages digests (slice_set flags (place % 64) true) first
AreHashed-flag messages digests flags first place beside made held = record {
  long = held.long;
  before = held.before;
  ahead = λ k from near there flag. elim (cases_eq k place) [
    | inl here ↦ rw here made
    | inr apart ↦
        let other : k % 64 ≡ place % 64 → ⊥ = λ same. apart (omega (arith, same, from, near, beside.from, beside.near)) in
        held.ahead k from near there (subst IsTrue (get_or-set_other flags (place % 64) (k % 64) true false other) flag)
  ];
}

-- the first message is hashed, and its flag is free for the place that comes into sight
pub AreHashed-next : (messages : List Message) (digests : List (List ℕ)) (flags : List Bool) (first : ℕ) → length flags ≡ 64 → IsHashed messages digests first
    → AreHashed messages digests flags first → AreHashed messages digests (slice_set flags (first % 64) false) (first + 1)
AreHashed-next messages digests flags first many made held = record {
  long = held.long;
  before = λ k low. elim (cases_eq k first) [
    | inl here ↦ rw here made
    | inr apart ↦ held.before k (omega (arith, low, apart))
  ];
  ahead = λ k from near there flag. elim (cases_eq k (first + 64)) [
    | inl last ↦
        let same : k % 64 ≡ first % 64 = omega (arith, last) in
        absurd (false≢true (subst IsTrue (ap (λ (p : ℕ). slice_index_or (slice_set flags (first % 64) false) p false) same
        ∙ get_or-set_same flags (first % 64) false false (omega (arith, many))) flag))
    | inr apart ↦
        let other : k % 64 ≡ first % 64 → ⊥ = λ same. apart (omega (arith, same, from, near)) in
        held.ahead k (omega (arith, from)) (omega (arith, near, apart)) there
        (subst IsTrue (get_or-set_other flags (first % 64) (k % 64) false false other) flag)
  ];
}

-- all are hashed
pub AreHashed-all : (messages : List Message) (digests : List (List ℕ)) (flags : List Bool) (first : ℕ) → length messages ≤ first
    → AreHashed messages digests flags first → digests ≡ map digest_of messages
AreHashed-all messages digests flags first all held =
    ext_get_or [] digests (map digest_of messages) (held.long ∙ sym (length-map messages digest_of))
    (λ k low. held.before k (omega (arith, low, held.long, all)) ∙ sym (get_or-map digest_of messages k _ [] (omega (arith, low, held.long))))
