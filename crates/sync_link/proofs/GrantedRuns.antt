-- What a session wrote tells rows and fingerprints only to one that may read them.
use Rattle.std.proofs.Common.{◌≡◌, ◌⊎◌, inl, inr, ℕ, List, [], ◌++◌, length, length-append, Contains, Ok, Err, refl, ap, arith}
use Rattle.std.specs.List.{IsDistinct}
use Rattle.willow_entry.specs.Row.{RowValue, same_row}
use Rattle.mc_cap.specs.Signature.{signature_spelling}
use Rattle.session_end.specs.declared.end.SessionEnd.TheVariants.{LinkRead, LinkWrite, ClosedEarly, BadMessage, Hello, Core, SignFault, LogFull, NoMemory}
use Rattle.sync_msg.specs.declared.item.Item.TheVariants.{Row}
use Rattle.sync_hello.specs.HelloForm.{hello_spelling}
use Rattle.session_rules.specs.Rounds.{IsFront}
use Rattle.session_rules.specs.Session.{Item}
use Rattle.session_rules.proofs.Growing.{front_self, front_is}
use Rattle.sync_link.specs.Sessions.{Party, said, told_rows, out}
use Rattle.sync_link.specs.Granting.{IsGranted, GrantsRow}
use Rattle.sync_link.specs.Settling.{IsOpening}
use Rattle.row_intake.specs.Answers.{IsAllOf}
use Rattle.sync_link.specs.Run.{Answer, IsSilent}
use Rattle.sync_link.specs.Ran.{Ran, side, opening_of, TellsGranted}
use Rattle.sync_link.proofs.Grants.{item_granted, row_told}
use Rattle.sync_link.proofs.Spellings.{hello_as}
use Rattle.sync_link.proofs.ToldOnce.{told_offered, told_once, told_nobody}

-- whatever is answered, it is a front
pub front_of : {A : Type 0} (all part : List A) (answer : Answer) → IsAllOf all part answer → IsFront part all
front_of all part (Ok report) e = front_is part part all e (front_self part)
front_of all part (Err LinkRead) e = front_is part part all e (front_self part)
front_of all part (Err LinkWrite) h = h
front_of all part (Err (ClosedEarly at)) e = front_is part part all e (front_self part)
front_of all part (Err (BadMessage at)) e = front_is part part all e (front_self part)
front_of all part (Err (Hello cause)) e = front_is part part all e (front_self part)
front_of all part (Err (Core cause)) e = front_is part part all e (front_self part)
front_of all part (Err SignFault) h = h
front_of all part (Err (LogFull missed)) e = front_is part part all e (front_self part)
front_of all part (Err NoMemory) h = h

abbrev pub IsWanting : Answer → Type 0
IsWanting answer = answer ≡ Err NoMemory

pub wanting_or_not : (answer : Answer) → IsWanting answer ⊎ (IsWanting answer → ⊥)
wanting_or_not (Ok report) = inr (λ e. cc)
wanting_or_not (Err LinkRead) = inr (λ e. cc)
wanting_or_not (Err LinkWrite) = inr (λ e. cc)
wanting_or_not (Err (ClosedEarly at)) = inr (λ e. cc)
wanting_or_not (Err (BadMessage at)) = inr (λ e. cc)
wanting_or_not (Err (Hello cause)) = inr (λ e. cc)
wanting_or_not (Err (Core cause)) = inr (λ e. cc)
wanting_or_not (Err SignFault) = inr (λ e. cc)
wanting_or_not (Err (LogFull missed)) = inr (λ e. cc)
wanting_or_not (Err NoMemory) = inl refl

-- where nothing was read, nobody is granted anything
nobody : (p : Party) (bytes : List ℕ) → bytes ≡ [] → IsGranted p bytes → ⊥
nobody p bytes none granted =
    omega (
      arith,
      ap length none,
      ap length granted.joined,
      length-append (hello_spelling granted.hello) (signature_spelling granted.signature ++ granted.behind),
      (hello_as granted.hello granted.fits).some_bytes,
    )

pub runs_granted : (p : List ℕ → Party) (ran : Ran p) → TellsGranted ran
runs_granted p ran =
    let party = side ran in
    let rows = opening_of ran in
    let bytes = ran.did.bytes in
    record {
      wrote = front_of (out party rows bytes) ran.did.written ran.answer ran.did.wrote;
      items = λ item c. item_granted party rows bytes ran.did.are_bytes item c;
      rows = λ row c. by_case ran.did.begun row c;
      offered = told_offered party rows bytes ran.did.are_bytes;
      once = once_by ran.did.begun;
    }
  where
    once_by : IsOpening (side ran).namespace (opening_of ran) ⊎ IsSilent ran.did.bytes ran.did.written → IsDistinct same_row (told_rows (side ran) (opening_of ran) ran.did.bytes)
    once_by (inl opening) = told_once (side ran) (opening_of ran) ran.did.bytes opening
    once_by (inr silent) = told_nobody (side ran) (opening_of ran) ran.did.bytes ran.did.are_bytes (nobody (side ran) ran.did.bytes silent.0)

    by_case : IsOpening (side ran).namespace (opening_of ran) ⊎ IsSilent ran.did.bytes ran.did.written
        → (row : RowValue) → Contains (said (side ran) (opening_of ran) ran.did.bytes) (Item (Row row))
        → (granted : IsGranted (side ran) ran.did.bytes) × (Contains (opening_of ran) row × GrantsRow granted.hello row)
    by_case (inl opening) row c =
        row_told (side ran) (opening_of ran) ran.did.bytes ran.did.are_bytes ran.did.own_fits.ask_fits (λ k d within. (opening.read_out k d within).entry_fits) row c
    by_case (inr silent) row c =
        absurd (nobody (side ran) ran.did.bytes silent.0 (item_granted (side ran) (opening_of ran) ran.did.bytes ran.did.are_bytes (Row row) c))
