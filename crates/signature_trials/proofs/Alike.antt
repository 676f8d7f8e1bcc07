-- Messages with equally many blocks.
use Rattle.std.proofs.Common.{◌≡◌, ℕ, List, [], ◌∷◌, sym, ◌∙◌, arith}
use Rattle.std.proofs.lemmas.List.Elements.{All-cons, All-nil}
use Rattle.std.specs.List.{All}
use Rattle.sha_lanes.specs.declared.message.Message.{Message}
use Rattle.sha_lanes.specs.Message.{AreAlike, block_count, bytes_of}

-- messages that have one number of blocks
AreAlike-counted : (n : ℕ) (messages : List Message) → All (λ m. block_count (bytes_of m) ≡ n) messages → AreAlike messages
AreAlike-counted n messages counted i j d before within = counted i d (omega arith) ∙ sym (counted j d within)

-- four of them
pub AreAlike-counted_four : (n : ℕ) (first second third fourth : Message) → block_count (bytes_of first) ≡ n → block_count (bytes_of second) ≡ n
    → block_count (bytes_of third) ≡ n → block_count (bytes_of fourth) ≡ n → AreAlike (first ∷ second ∷ third ∷ fourth ∷ [])
AreAlike-counted_four n first second third fourth a b c d =
    let counted = λ (m : Message). block_count (bytes_of m) ≡ n in
    AreAlike-counted n (first ∷ second ∷ third ∷ fourth ∷ [])
    (All-cons counted first (second ∷ third ∷ fourth ∷ []) a
    (All-cons counted second (third ∷ fourth ∷ []) b (All-cons counted third (fourth ∷ []) c (All-cons counted fourth [] d (All-nil counted)))))
