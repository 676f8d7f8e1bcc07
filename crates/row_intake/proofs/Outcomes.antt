-- What is so of an answer, whatever it is, or where one was cut off.
use Rattle.std.proofs.Common.{◌≡◌, List, Result, Ok, Err}
use Rattle.willow_entry.specs.Row.{RowValue}
use Rattle.session_end.specs.declared.end.SessionEnd.{SessionEnd}
use Rattle.session_end.specs.declared.end.SessionEnd.TheVariants.{LinkRead, LinkWrite, ClosedEarly, BadMessage, Hello, Core, SignFault, LogFull, NoMemory}
use Rattle.session_rules.specs.Rounds.{IsFront}
use Rattle.session_rules.proofs.Growing.{front_is, front_self}
use Rattle.row_intake.specs.Answers.{AreAllOf, IsAllOf, Covers}

module _ {Report : Type 0} where
  -- the whole list is all of it, whatever is answered
  pub is_all : {A : Type 0} (all part : List A) (answer : Result Report SessionEnd) → part ≡ all → IsAllOf all part answer
  is_all all part (Ok report) e = e
  is_all all part (Err LinkRead) e = e
  is_all all part (Err LinkWrite) e = front_is part part all e (front_self part)
  is_all all part (Err (ClosedEarly at)) e = e
  is_all all part (Err (BadMessage at)) e = e
  is_all all part (Err (Hello cause)) e = e
  is_all all part (Err (Core cause)) e = e
  is_all all part (Err SignFault) e = front_is part part all e (front_self part)
  is_all all part (Err (LogFull missed)) e = e
  is_all all part (Err NoMemory) e = front_is part part all e (front_self part)

  pub are_all : (all part : List RowValue) (answer : Result Report SessionEnd) → part ≡ all → AreAllOf all part answer
  are_all all part (Ok report) e = e
  are_all all part (Err LinkRead) e = e
  are_all all part (Err LinkWrite) e = e
  are_all all part (Err (ClosedEarly at)) e = e
  are_all all part (Err (BadMessage at)) e = e
  are_all all part (Err (Hello cause)) e = e
  are_all all part (Err (Core cause)) e = e
  are_all all part (Err SignFault) e = front_is part part all e (front_self part)
  are_all all part (Err (LogFull missed)) e = e
  are_all all part (Err NoMemory) e = front_is part part all e (front_self part)

-- it was cut off by a signer that failed, or by want of memory
abbrev pub IsCut : SessionEnd → Type 0
IsCut LinkRead = ⊥
IsCut LinkWrite = ⊥
IsCut (ClosedEarly at) = ⊥
IsCut (BadMessage at) = ⊥
IsCut (Hello cause) = ⊥
IsCut (Core cause) = ⊥
IsCut SignFault = Unit {0}
IsCut (LogFull missed) = ⊥
IsCut NoMemory = Unit {0}

module _ (Report : Type 0) where
  pub cut_all : {A : Type 0} (all part : List A) (end : SessionEnd) → IsCut end → IsFront part all → IsAllOf {Report = Report} all part (Err end)
  cut_all all part LinkWrite cut h = absurd cut
  cut_all all part SignFault cut h = h
  cut_all all part NoMemory cut h = h
  cut_all all part LinkRead cut h = absurd cut
  cut_all all part (ClosedEarly at) cut h = absurd cut
  cut_all all part (BadMessage at) cut h = absurd cut
  cut_all all part (Hello cause) cut h = absurd cut
  cut_all all part (Core cause) cut h = absurd cut
  cut_all all part (LogFull missed) cut h = absurd cut

  pub cut_came : (all part : List RowValue) (end : SessionEnd) → IsCut end → IsFront part all → AreAllOf {Report = Report} all part (Err end)
  cut_came all part LinkWrite cut h = absurd cut
  cut_came all part SignFault cut h = h
  cut_came all part NoMemory cut h = h
  cut_came all part LinkRead cut h = absurd cut
  cut_came all part (ClosedEarly at) cut h = absurd cut
  cut_came all part (BadMessage at) cut h = absurd cut
  cut_came all part (Hello cause) cut h = absurd cut
  cut_came all part (Core cause) cut h = absurd cut
  cut_came all part (LogFull missed) cut h = absurd cut

  pub cut_covers : (log rows : List RowValue) (why : SessionEnd) → IsCut why → Covers {Report = Report} log rows (Err why)
  cut_covers log rows LinkWrite cut = absurd cut
  cut_covers log rows SignFault cut = tt
  cut_covers log rows NoMemory cut = tt
  cut_covers log rows LinkRead cut = absurd cut
  cut_covers log rows (ClosedEarly at) cut = absurd cut
  cut_covers log rows (BadMessage at) cut = absurd cut
  cut_covers log rows (Hello cause) cut = absurd cut
  cut_covers log rows (Core cause) cut = absurd cut
  cut_covers log rows (LogFull missed) cut = absurd cut
