-- A small session, to look at. Hellos and proofs are bytes, rows are numbers, and two hellos agree on a number below which
-- rows are offered, or on none. The caller tells its rows, then the answerer those that it was not told.
use Rattle.std.specs.Prelude.{◌≡◌, ℕ, suc, ◌+◌, ◌-◌, Bool, true, false, not, ◌==◌, List, [], ◌∷◌, ◌++◌, length, min, nat_eq, nat_lt, nat_le, Option, None, Some, Result, Ok, Err, filter, if◌then◌else◌}
use Rattle.std.specs.List.{list_any}
use Rattle.session_rules.specs.Machine.{Seen, Whole, Part, Wrong}
use Rattle.session_rules.specs.Reading.{Over}
use Rattle.session_rules.specs.Messages.{hear}
use Rattle.session_rules.specs.Talk.{Role, Caller, Answerer, Talk}
use Rattle.session_rules.specs.Greeting.{Greeting}
use Rattle.session_rules.specs.Session.{Offering}
use Rattle.session_rules.specs.Pairs.{Pair, caller_side, exchanged}

-- one byte
abbrev pub byte_seen : List ℕ → Seen ℕ
byte_seen [] = Part
byte_seen (byte ∷ []) = Whole byte
byte_seen (byte ∷ next ∷ bytes) = Wrong

-- a hello up to 9: it asks for the rows below it
abbrev pub digit_seen : List ℕ → Seen ℕ
digit_seen [] = Part
digit_seen (byte ∷ []) = if nat_le byte 9 then Whole byte else Wrong
digit_seen (byte ∷ next ∷ bytes) = Wrong

-- what two hellos agree on, where that is more than the row 0
abbrev pub lower : ℕ → ℕ → Option ℕ
lower caller answerer = if nat_le (min caller answerer) 1 then None else Some (min caller answerer)

-- the hello 0 is refused; the proof is the sum of both hellos, and one more that of the answerer
abbrev pub side_number : Role → ℕ
side_number Caller = 0
side_number Answerer = 1

abbrev pub refused_if : Bool → ℕ → Option ℕ
refused_if true cause = Some cause
refused_if false cause = None

abbrev pub by_digits : Greeting ℕ ℕ (Option ℕ) ℕ
by_digits = record {
  sees_hello = digit_seen;
  hello_spelling = λ hello. hello ∷ [];
  hello_refusal = λ hello. refused_if (hello == 0) 0;
  sees_proof = byte_seen;
  proof_spelling = λ proof. proof ∷ [];
  proof_refusal = λ signer caller answerer proof. refused_if (not (proof == caller + answerer + side_number signer)) 1;
  agreed = lower;
}

-- ---- the exchange

-- a row, or that all are told
pub data NumberTold : Type 0 where
  Row : ℕ → NumberTold
  All : NumberTold

-- the caller has rows to tell, or listens; the answerer, who has rows and was told some, listens, or has rows to tell;
-- both are done
pub data Teller : Type 0 where
  Begins : List ℕ → Teller
  Listens : Teller
  Compares : List ℕ → List ℕ → Teller
  Answers : List ℕ → Teller
  IsDone : Teller

abbrev pub told_first : Role → List ℕ → Teller
told_first Caller rows = Begins rows
told_first Answerer rows = Compares rows []

abbrev pub next_told : Teller → Option (NumberTold × Teller)
next_told (Begins []) = Some (All, Listens)
next_told (Begins (n ∷ rows)) = Some (Row n, Begins rows)
next_told (Answers []) = Some (All, IsDone)
next_told (Answers (n ∷ rows)) = Some (Row n, Answers rows)
next_told teller = None

abbrev pub left_to_tell : Teller → ℕ
left_to_tell (Begins rows) = suc (length rows)
left_to_tell (Answers rows) = suc (length rows)
left_to_tell teller = 0

-- the answerer tells what it was not told
abbrev pub listened : Teller → NumberTold → Result Teller ℕ
listened Listens (Row n) = Ok Listens
listened Listens All = Ok IsDone
listened (Compares rows told) (Row n) = Ok (Compares rows (told ++ n ∷ []))
listened (Compares rows told) All = Ok (Answers (filter (λ r. not (list_any (nat_eq r) told)) rows))
listened teller item = Err 2

abbrev pub has_parted : Teller → Bool
has_parted IsDone = true
has_parted teller = false

abbrev pub row_told : NumberTold → Option ℕ
row_told (Row n) = Some n
row_told All = None

-- a row is the byte one above it
abbrev pub told_seen : List ℕ → Seen NumberTold
told_seen [] = Part
told_seen (byte ∷ []) = Whole (if byte == 0 then All else Row (byte - 1))
told_seen (byte ∷ next ∷ bytes) = Wrong

abbrev pub told_spelling : NumberTold → List ℕ
told_spelling (Row n) = suc n ∷ []
told_spelling All = 0 ∷ []

abbrev pub by_telling : Talk ℕ (Option ℕ) Teller NumberTold ℕ
by_telling = record {
  begin = λ role rows agreed. told_first role rows;
  said = next_told;
  to_say = left_to_tell;
  heard = listened;
  is_done = has_parted;
  row_in = row_told;
  sees = λ teller. told_seen;
  spelling = told_spelling;
}

-- of some rows those below the number that was agreed on are offered
abbrev pub offers_below : List ℕ → Offering (Option ℕ) ℕ
offers_below rows None = []
offers_below rows (Some limit) = filter (λ n. nat_lt n limit) rows

-- a caller that asks for what is below 9, and an answerer that asks for what is below 6
abbrev pub tellers : Pair ℕ ℕ (Option ℕ) ℕ ℕ Teller NumberTold ℕ
tellers = record {
  greeting = by_digits;
  talk = by_telling;
  caller = record { role = Caller; hello = 9; proof = 15 };
  answerer = record { role = Answerer; hello = 6; proof = 16 };
  caller_offers = offers_below (1 ∷ 3 ∷ 5 ∷ 8 ∷ []);
  answerer_offers = offers_below (2 ∷ 3 ∷ 7 ∷ []);
}

-- what they write: 1, 3 and 5 are told, and 2
abbrev pub caller_told : List ℕ
caller_told = 9 ∷ 15 ∷ 2 ∷ 4 ∷ 6 ∷ 0 ∷ []

abbrev pub answerer_told : List ℕ
answerer_told = 6 ∷ 16 ∷ 3 ∷ 0 ∷ []

-- once it has read what the answerer says in the first round behind their greetings, the caller is over
abbrev pub TellingCallerIsOver : Type 0
TellingCallerIsOver = (hear (caller_side tellers) told_spelling (exchanged tellers 1).1).stand ≡ Over
