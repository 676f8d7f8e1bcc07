-- Blocks of messages in pieces.
use Rattle.std.proofs.Common.{◌≡◌, ℕ, zero, suc, ◌+◌, ◌-◌, ◌*◌, ◌/◌, ◌%◌, ◌^◌, ◌<◌, ◌≤◌, List, [], ◌∷◌, ◌++◌, length, map, take, drop, replicate, slice_set, refl, sym, ap, ◌∙◌, arith, length-append, length-drop}
use Rattle.std.proofs.lemmas.List.{append_assoc, length-take, take_all, append-nil, drop_all, drop-append-le, drop-replicate, length-replicate, take-append-le, take-replicate}
use Rattle.std.proofs.Math.Seq.{set-append_seam, take-append-add}
use borrow.Rule.Slice.PartMut.{put_mid}
use Rattle.std.specs.Int.{w64, to_be_bytes}
use Rattle.sha2.specs.Sha256.{digest_bytes, hash_after, initial_hash_256, padded_message, sha256}
use Rattle.sha_lanes.specs.declared.message.Message.{Message}
use Rattle.sha_lanes.specs.Message.{AreAlike, block_count, bytes_of}
use Rattle.sha_lanes.specs.Windows.{message_at}

take-append : (n : ℕ) (p q : List ℕ) → take n (p ++ q) ≡ take n p ++ take (n - length p) q
take-append zero [] q = refl
take-append (suc n) [] q =
    let all : suc n - 0 ≡ suc n = omega arith in
    rw all refl
take-append zero (x ∷ p) q =
    let none : 0 - length (x ∷ p) ≡ 0 = omega arith in
    rw none refl
take-append (suc n) (x ∷ p) q =
    let less : suc n - length (x ∷ p) ≡ n - length p = omega arith in
    rw less (ap (λ (r : List ℕ). x ∷ r) (take-append n p q))

drop-append : (n : ℕ) (p q : List ℕ) → drop n (p ++ q) ≡ drop n p ++ drop (n - length p) q
drop-append zero [] q = refl
drop-append (suc n) [] q =
    let all : suc n - 0 ≡ suc n = omega arith in
    rw all refl
drop-append zero (x ∷ p) q =
    let none : 0 - length (x ∷ p) ≡ 0 = omega arith in
    rw none refl
drop-append (suc n) (x ∷ p) q =
    let less : suc n - length (x ∷ p) ≡ n - length p = omega arith in
    rw less (drop-append n p q)

-- what a block has of a further piece
pub block-piece : (front piece : List ℕ) (start used skip result : ℕ) (block new : List ℕ)
    → used ≤ 64 → length block ≡ 64 → take used block ≡ take 64 (drop start front) → skip ≡ start - length front
    → take result new ≡ take used block ++ take (64 - used) (drop skip piece)
    → take result new ≡ take 64 (drop start (front ++ piece))
block-piece front piece start used skip result block new room long held behind put =
    let mine = length-take used block in
    let theirs = length-take 64 (drop start front) in
    let left : 64 - length (drop start front) ≡ 64 - used = omega (arith, mine, theirs, ap length held) in
    let whole : take 64 (drop start (front ++ piece)) ≡ take 64 (drop start front) ++ take (64 - used) (drop skip piece) =
    ap (take 64) (drop-append start front piece) ∙ take-append 64 (drop start front) (drop (start - length front) piece)
    ∙ (λ i. take 64 (drop start front) ++ take (left i) (drop (sym behind i) piece)) in
    put ∙ ap (λ (r : List ℕ). r ++ take (64 - used) (drop skip piece)) held ∙ sym whole

-- a block that lies behind the first piece
pub block-behind : (front rest : List ℕ) (start : ℕ) → length front ≤ start → take 64 (drop (start - length front) rest) ≡ take 64 (drop start (front ++ rest))
block-behind front rest start from =
    let none = ap (λ (p : List ℕ). p ++ drop (start - length front) rest) (drop_all start front from) in
    sym (ap (take 64) (drop-append start front rest ∙ none))

-- a block that ends before the second piece
pub block-before : (message behind : List ℕ) (start : ℕ) → start + 64 ≤ length message → take 64 (drop start message) ≡ take 64 (drop start (message ++ behind))
block-before message behind start room =
    let long = length-drop start message in
    sym (ap (take 64) (drop-append-le start message behind (omega arith)) ∙ take-append-le 64 (drop start message) behind (omega (arith, long)))

-- a block that has all its bytes
pub block-whole : (message block : List ℕ) (start used : ℕ) → used ≤ 64 → length block ≡ 64 → start + 64 ≤ length message
    → take used block ≡ take 64 (drop start message) → block ≡ take 64 (drop start message)
block-whole message block start used room long there held =
    let all : used ≡ 64 = omega (arith, length-take used block, length-take 64 (drop start message), length-drop start message, ap length held) in
    sym (take_all 64 block (omega (arith, long))) ∙ rw all at held

-- a last block, written piece by piece over zeros
pub last_block-written : (bytes bits : List ℕ) → length bytes < 56
    → put_mid 56 8 (slice_set (bytes ++ drop (length bytes) (replicate 64 0)) (length bytes) 0x80) bits ≡ (bytes ++ 0x80 ∷ replicate (55 - length bytes) 0) ++ bits
last_block-written bytes bits short =
    let n = length bytes in
    let left : 64 - n ≡ suc (63 - n) = omega arith in
    let before : 56 ≡ n + suc (55 - n) = omega arith in
    let whole : List ℕ = bytes ++ 0x80 ∷ replicate (63 - n) 0 in
    let set : slice_set (bytes ++ drop n (replicate 64 0)) n 0x80 ≡ whole =
    ap (λ (z : List ℕ). slice_set (bytes ++ z) n 0x80) (drop-replicate n 64 0 ∙ ap (λ (k : ℕ). replicate k 0) left) ∙ set-append_seam bytes 0 (replicate (63 - n) 0) 0x80 in
    let front : take 56 whole ≡ bytes ++ 0x80 ∷ replicate (55 - n) 0 =
    ap (λ (k : ℕ). take k whole) before ∙ take-append-add bytes (0x80 ∷ replicate (63 - n) 0) (suc (55 - n))
    ∙ ap (λ (z : List ℕ). bytes ++ 0x80 ∷ z) (take-replicate (55 - n) (63 - n) 0 (omega arith)) in
    let behind : drop 8 (drop 56 whole) ≡ [] = drop_all 8 (drop 56 whole) (omega (arith, length-drop 56 whole, length-append bytes (0x80 ∷ replicate (63 - n) 0), length-replicate {A = ℕ} (63 - n) 0)) in
    ap (λ (v : List ℕ). put_mid 56 8 v bits) set ∙ (λ i. front i ++ (bits ++ behind i)) ∙ ap (λ (z : List ℕ). (bytes ++ 0x80 ∷ replicate (55 - n) 0) ++ z) (append-nil bits)

-- the pieces of a padded message
pub padded-pieces : (front rest zeros bits : List ℕ) → zeros ≡ 0x80 ∷ replicate ((119 - length (front ++ rest) % 64) % 64) 0
    → bits ≡ to_be_bytes w64 (length (front ++ rest) * 8 % 2 ^ 64) → ((front ++ rest) ++ zeros) ++ bits ≡ padded_message (front ++ rest)
padded-pieces front rest zeros bits ez eb = append_assoc (front ++ rest) zeros bits ∙ (λ i. (front ++ rest) ++ (ez i ++ eb i))

-- the last block of a message that leaves room for the whole padding there
pub last_block-padded : (front rest tail bits : List ℕ) (start : ℕ) → length front ≤ start → start ≡ length (front ++ rest) / 64 * 64 → length (front ++ rest) % 64 < 56
    → tail ≡ drop (start - length front) rest → bits ≡ to_be_bytes w64 (length (front ++ rest) * 8 % 2 ^ 64) → length bits ≡ 8
    → (tail ++ 0x80 ∷ replicate (55 - length tail) 0) ++ bits ≡ take 64 (drop start (padded_message (front ++ rest)))
last_block-padded front rest tail bits start from last room is eb many =
    let m = front ++ rest in
    let zeros : List ℕ = 0x80 ∷ replicate ((119 - length m % 64) % 64) 0 in
    let here : drop start m ≡ tail = drop-append start front rest ∙ ap (λ (p : List ℕ). p ++ drop (start - length front) rest) (drop_all start front from) ∙ sym is in
    let long : length tail ≡ length m % 64 = omega (arith, ap length here, length-drop start m) in
    let count : (119 - length m % 64) % 64 ≡ 55 - length tail = omega arith in
    let block : List ℕ = (tail ++ 0x80 ∷ replicate (55 - length tail) 0) ++ bits in
    let full : length block ≤ 64 = omega (arith, length-append (tail ++ 0x80 ∷ replicate (55 - length tail) 0) bits, length-append tail (0x80 ∷ replicate (55 - length tail) 0), length-replicate {A = ℕ} (55 - length tail) 0) in
    let parts : drop start ((m ++ zeros) ++ bits) ≡ block =
    drop-append-le start (m ++ zeros) bits (omega (arith, length-append m zeros))
    ∙ ap (λ (p : List ℕ). p ++ bits) (drop-append-le start m zeros (omega arith))
    ∙ (λ i. (here i ++ 0x80 ∷ replicate (count i) 0) ++ bits) in
    sym (ap (λ (p : List ℕ). take 64 (drop start p)) (sym (padded-pieces front rest zeros bits refl eb)) ∙ ap (take 64) parts ∙ take_all 64 block full)

-- a hash value after all blocks of a message is its digest
pub digest_bytes-hash_after : (bytes h : List ℕ) (n : ℕ) → h ≡ hash_after initial_hash_256 (padded_message bytes) n → n ≡ block_count bytes → digest_bytes h 8 ≡ sha256 bytes
unfolding sha256
digest_bytes-hash_after bytes h n held all = ap (λ (s : List ℕ). digest_bytes s 8) (held ∙ ap (hash_after initial_hash_256 (padded_message bytes)) all)

-- what is made of four messages
pub map-four : {X : Type 0} (f : Message → X) (messages : List Message) → length messages ≡ 4
    → map f messages ≡ f (message_at messages 0) ∷ f (message_at messages 1) ∷ f (message_at messages 2) ∷ f (message_at messages 3) ∷ []
map-four f (a ∷ b ∷ c ∷ d ∷ []) long = refl
map-four f [] long = absurd (omega (arith, long))
map-four f (a ∷ []) long = absurd (omega (arith, long))
map-four f (a ∷ b ∷ []) long = absurd (omega (arith, long))
map-four f (a ∷ b ∷ c ∷ []) long = absurd (omega (arith, long))
map-four f (a ∷ b ∷ c ∷ d ∷ e ∷ more) long = absurd (omega (arith, long))

-- messages with equally many blocks have as many as the first
pub block_count-alike : (messages : List Message) (l : ℕ) → length messages ≡ 4 → l < 4 → AreAlike messages
    → block_count (bytes_of (message_at messages 0)) ≡ block_count (bytes_of (message_at messages l))
block_count-alike messages zero long h alike = refl
block_count-alike messages (suc l) long h alike = alike 0 (suc l) _ (omega arith) (omega (arith, long))
