-- What all of some bytes are as a message, by a reader of what stands at their front.
use Rattle.std.specs.Prelude.{List, ℕ, [], ◌∷◌, Option, Some, None, option_map}
use Rattle.spelling.specs.Front.{Front}
use Rattle.spelling.specs.Front as front
use Rattle.willow_entry.specs.Row.{RowValue}
use Rattle.cap_codec.specs.Reading.{raw_at}
use Rattle.cap_codec.specs.Rows.{row_of}
use Rattle.session_rules.specs.Machine.{Seen, Whole, Part, Wrong}

-- what all of some bytes are, by what stands at their front: bytes behind a whole value are of none
abbrev pub all_seen : {A : Type 0} → Front A → Seen A
all_seen (front.Whole x []) = Whole x
all_seen (front.Whole x (byte ∷ behind)) = Wrong
all_seen front.Part = Part
all_seen front.Wrong = Wrong

-- the value that all of some bytes spell, if they spell one
abbrev pub all_read : {A : Type 0} → Front A → Option A
all_read (front.Whole x []) = Some x
all_read (front.Whole x (byte ∷ behind)) = None
all_read front.Part = None
all_read front.Wrong = None

-- what is whole is judged then, and is wrong where it is nothing
abbrev pub whole_or_wrong : {A : Type 0} → Option A → Seen A
whole_or_wrong (Some x) = Whole x
whole_or_wrong None = Wrong

abbrev pub judged_whole : {A B : Type 0} → (A → Option B) → Seen A → Seen B
judged_whole judge (Whole x) = whole_or_wrong (judge x)
judged_whole judge Part = Part
judged_whole judge Wrong = Wrong

-- the message of the row that a body spells, an entry and a write token
abbrev pub row_spelled_as : {M : Type 0} → (RowValue → M) → List ℕ → Option M
row_spelled_as message body = option_map (λ raw. message (row_of raw)) (all_read (raw_at body))
