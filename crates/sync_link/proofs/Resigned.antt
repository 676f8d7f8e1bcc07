-- A side with another signature.
use Rattle.std.proofs.Common.{◌≡◌, ◌⊎◌, inl, inr, ℕ, ◌<◌, ◌≤◌, List, ◌++◌, length, take, drop, map, flat_map, Ok, Err, sym, ap, ◌∙◌, subst, arith}
use Rattle.std.proofs.lemmas.List.{take-append-le, take-append-drop, length-append}
use Rattle.std.proofs.Math.Seq.{take-append_seam}
use Rattle.willow_entry.specs.Row.{RowValue}
use Rattle.mc_cap.specs.Signature.{signature_spelling}
use Rattle.session_end.specs.declared.end.SessionEnd.TheVariants.{LinkRead, LinkWrite, ClosedEarly, BadMessage, Hello, Core, SignFault, LogFull, NoMemory}
use Rattle.sync_hello.specs.HelloForm.{hello_spelling}
use Rattle.session_rules.specs.Rounds.{IsFront}
use Rattle.session_rules.specs.Session.{retold}
use Rattle.session_rules.proofs.Growing.{front_by}
use Rattle.session_rules.proofs.Retelling.{said_retold, same_got, same_ending}
use Rattle.sync_link.specs.Greetings.{greeting}
use Rattle.sync_link.specs.Places.{offers_of, places}
use Rattle.sync_link.specs.Sessions.{Party, SessionMessage, own_part, session_of, said, out, got, ending}
use Rattle.row_intake.specs.Answers.{IsAllOf}
use Rattle.sync_link.specs.Run.{Answer}
use Rattle.sync_link.proofs.Greeted.{Quiet, Proved, told}
use Rattle.sync_link.proofs.Reaching.{front_trans}

-- what is no longer than the first part, and a front of the whole, is a front of the first part
front_within : (front first behind : List ℕ) → length front ≤ length first → IsFront front (first ++ behind) → IsFront front first
front_within front first behind short h =
    front_by front first (drop (length front) first)
    (sym (take-append-drop (length front) first)
    ∙ ap (λ l. l ++ drop (length front) first)
    (sym (take-append-le (length front) first behind short) ∙ ap (take (length front)) h.joined ∙ take-append_seam front h.behind))

module _ (p : Party) (signature : List ℕ) (rows : List RowValue) (bytes : List ℕ) where
  abbrev pub resigned : Party
  resigned = record p { signature = signature }

  abbrev spell : List SessionMessage → List ℕ
  spell = flat_map (session_of p rows).spelling

  pub got_resigned : got resigned rows bytes ≡ got p rows bytes
  got_resigned = same_got (greeting p.rules p.namespace) places (own_part p) signature (offers_of p.interest rows) bytes

  pub ending_resigned : ending resigned rows bytes ≡ ending p rows bytes
  ending_resigned = same_ending (greeting p.rules p.namespace) places (own_part p) signature (offers_of p.interest rows) bytes

  said_resigned : said resigned rows bytes ≡ map (retold signature) (said p rows bytes)
  said_resigned = said_retold (greeting p.rules p.namespace) places (own_part p) signature (offers_of p.interest rows) bytes

  -- the two write the same, or behind their hello a signature each
  abbrev WriteApart : Type 0
  WriteApart = (later : List ℕ) × (later' : List ℕ) × (out p rows bytes ≡ hello_spelling p.hello ++ (signature_spelling p.signature ++ later)) × (out resigned rows bytes ≡ hello_spelling p.hello ++ (signature_spelling signature ++ later'))

  out_resigned : (out resigned rows bytes ≡ out p rows bytes) ⊎ WriteApart
  out_resigned = by_case (told (greeting p.rules p.namespace) places (own_part p) (offers_of p.interest rows) bytes)
    where
      by_case : (Quiet (greeting p.rules p.namespace) places (own_part p) (offers_of p.interest rows) (said p rows bytes) ⊎ Proved (greeting p.rules p.namespace) places (own_part p) (offers_of p.interest rows) (said p rows bytes))
          → (out resigned rows bytes ≡ out p rows bytes) ⊎ WriteApart
      by_case (inl (inl none)) = inl (ap spell (said_resigned ∙ ap (map (retold signature)) none ∙ sym none))
      by_case (inl (inr one)) = inl (ap spell (said_resigned ∙ ap (map (retold signature)) one ∙ sym one))
      by_case (inr both) = inr (spell both.0, spell (map (retold signature) both.0), ap spell both.1, ap spell (said_resigned ∙ ap (map (retold signature)) both.1))

  -- where no more than the hello was written, it is the same by either

  some_signature : (s : List ℕ) → 0 < length (signature_spelling s)
  some_signature s = omega arith

  all_quiet : (written : List ℕ) → length written ≤ length (hello_spelling p.hello) → written ≡ out p rows bytes → written ≡ out resigned rows bytes
  all_quiet written short e = by_case out_resigned
    where
      by_case : (out resigned rows bytes ≡ out p rows bytes) ⊎ WriteApart → written ≡ out resigned rows bytes
      by_case (inl same) = e ∙ sym same
      by_case (inr apart) =
          absurd (omega (
            arith,
            short,
            some_signature p.signature,
            ap length (e ∙ apart.2),
            length-append (hello_spelling p.hello) (signature_spelling p.signature ++ apart.0),
            length-append (signature_spelling p.signature) apart.0,
          ))

  front_quiet : (written : List ℕ) → length written ≤ length (hello_spelling p.hello) → IsFront written (out p rows bytes) → IsFront written (out resigned rows bytes)
  front_quiet written short h = by_case out_resigned
    where
      by_case : (out resigned rows bytes ≡ out p rows bytes) ⊎ WriteApart → IsFront written (out resigned rows bytes)
      by_case (inl same) = subst (IsFront written) (sym same) h
      by_case (inr apart) =
          let own = hello_spelling p.hello in
          front_trans written own (out resigned rows bytes)
          (front_within written own (signature_spelling p.signature ++ apart.0) short (subst (IsFront written) apart.2 h))
          (front_by own (out resigned rows bytes) (signature_spelling signature ++ apart.1) apart.3)

  pub quiet_resigned : (written : List ℕ) (answer : Answer) → length written ≤ length (hello_spelling p.hello) → IsAllOf (out p rows bytes) written answer → IsAllOf (out resigned rows bytes) written answer
  quiet_resigned written (Ok report) short e = all_quiet written short e
  quiet_resigned written (Err LinkRead) short e = all_quiet written short e
  quiet_resigned written (Err LinkWrite) short h = front_quiet written short h
  quiet_resigned written (Err (ClosedEarly at)) short e = all_quiet written short e
  quiet_resigned written (Err (BadMessage at)) short e = all_quiet written short e
  quiet_resigned written (Err (Hello cause)) short e = all_quiet written short e
  quiet_resigned written (Err (Core cause)) short e = all_quiet written short e
  quiet_resigned written (Err SignFault) short h = front_quiet written short h
  quiet_resigned written (Err (LogFull missed)) short e = all_quiet written short e
  quiet_resigned written (Err NoMemory) short h = front_quiet written short h
