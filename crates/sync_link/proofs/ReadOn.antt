-- A side that read some bytes and reads a piece has read both.
use Rattle.std.proofs.Common.{◌≡◌, ℕ, ◌+◌, List, [], ◌∷◌, ◌++◌, length, flat_map, append_assoc, append-nil, refl, sym, ap, ap₂, ◌∙◌, subst, arith}
use Rattle.std.proofs.lemmas.List.Concat.{flat_map-append}
use Rattle.scheme_core.specs.Rules.{Rules}
use Rattle.willow_entry.specs.Row.{RowValue}
use Rattle.area_interest.specs.declared.interest.Interest.{Interest}
use Rattle.sync_msg.specs.declared.role.Role.{Role}
use Rattle.sync_msg.specs.declared.role.Role.TheVariants.{Caller, Answerer}
use Rattle.sync_hello.specs.HelloForm.{hello_spelling}
use Rattle.sync_hello.specs.declared.hello.Hello.{Hello}
use Rattle.sync_core.specs.Steps.{count_one}
use Rattle.session_rules.specs.Machine.{Machine, Seen, Whole, Part, Wrong, Step, Goes, Ends, Refuses}
use Rattle.session_rules.specs.Reading.{Stand, Waits, Over, Broken, Refused, Move, stepped, judged, move, run, start}
use Rattle.session_rules.specs.Reading as reading
use Rattle.session_rules.specs.Session.{Hello as HelloMessage, Proof, Item}
use Rattle.session_rules.proofs.Runs.{run_append, run_idle}
use Rattle.sync_link.specs.Sessions.{Party, SessionStage, SessionMessage, SessionCause, session_of, said}
use Rattle.sync_link.specs.Standing.{Reads, ReadsPiece, party_of}
use Rattle.sync_link.specs.Progress.{Progress, AgreesOn, GoesWell, CountsOn, TalksOn, HasRead, HaveRead, begun, counted, progress_in, first_bytes, heard, noted, noting}
use Rattle.sync_link.proofs.Agreeing.{agreed_on, talks_well}

-- ---- the messages that are read

module _ {S M O R E : Type 0} (a : Machine S M O R E) where
  noted_stands : (at : ℕ) (m : M) (step : Step S O R E) → (stepped at (noted m step)).stand ≡ (stepped at step).stand
  noted_stands at m (Goes s says rows) = refl
  noted_stands at m (Ends says rows) = refl
  noted_stands at m (Refuses e) = refl

  judged_stands : (s : S) (at : ℕ) (held : List ℕ) (seen : Seen M) → (judged (noting a) s at held seen).stand ≡ (judged a s at held seen).stand
  judged_stands s at held (Whole m) = noted_stands (at + length held) m (a.step s m)
  judged_stands s at held Part = refl
  judged_stands s at held Wrong = refl

  moved_stands : (q : Stand S E) (byte : ℕ) → (move (noting a) q byte).stand ≡ (move a q byte).stand
  moved_stands (Waits s at held) byte = judged_stands s at (held ++ byte ∷ []) (a.sees s (held ++ byte ∷ []))
  moved_stands Over byte = refl
  moved_stands (Broken at) byte = refl
  moved_stands (Refused e) byte = refl

  -- one that takes messages in place of rows stands alike
  pub noting_stands : (q : Stand S E) (bytes : List ℕ) → (reading.read (noting a) q bytes).stand ≡ (reading.read a q bytes).stand
  unfolding run
  noting_stands q [] = refl
  noting_stands q (byte ∷ bytes) =
      noting_stands (move (noting a) q byte).stand bytes
      ∙ ap (λ next. (reading.read a next bytes).stand) (moved_stands q byte)

-- ---- counts

pub counted-append : (xs ys : List SessionMessage) → counted (xs ++ ys) ≡ counted xs + counted ys
counted-append [] ys = omega arith
counted-append (HelloMessage hello ∷ xs) ys = counted-append xs ys
counted-append (Proof proof ∷ xs) ys = counted-append xs ys
counted-append (Item item ∷ xs) ys = ap (λ n. count_one item + n) (counted-append xs ys) ∙ omega arith

-- ---- a piece behind what was read

module _ (p : Party) (rows : List RowValue) where
  abbrev here : Machine SessionStage SessionMessage SessionMessage RowValue SessionCause
  here = session_of p rows

  -- what was refused stays refused
  pub went_well : (q : Stand SessionStage SessionCause) (bytes : List ℕ) → GoesWell (reading.read here q bytes).stand → GoesWell q
  went_well (Waits s at held) bytes h = tt
  went_well Over bytes h = tt
  went_well (Broken at) bytes h = subst (λ m. GoesWell m.stand) (run_idle (move here) (Broken at) (λ b. refl) bytes) h
  went_well (Refused e) bytes h = subst (λ m. GoesWell m.stand) (run_idle (move here) (Refused e) (λ b. refl) bytes) h

  module _ (old new : Progress) (bytes piece written more : List ℕ) (taken came : List RowValue) where
    later : Move SessionStage SessionMessage RowValue SessionCause
    later = reading.read here old.side.stand piece

    has_read_on : HasRead p rows old bytes written taken → Reads p rows old.side.stand piece new.side.stand more came
        → (GoesWell new.side.stand → (new.sent ≡ old.sent + counted (reading.read here old.side.stand piece).says) × (new.read ≡ old.read + counted (reading.read (noting here) old.side.stand piece).rows))
        → (TalksOn new.side.stand → AgreesOn p (bytes ++ piece) new.area)
        → HasRead p rows new (bytes ++ piece) (written ++ more) (taken ++ came)
    has_read_on h r counts agreed =
        let before = reading.read here (start here) bytes in
        let both = run_append (move here) (start here) bytes piece in
        let there = ap (λ q. reading.read here q piece) h.stands in
        let noted_both = run_append (move (noting here)) (start here) bytes piece in
        let noted_there = ap (λ q. reading.read (noting here) q piece) (h.stands ∙ sym (noting_stands here (start here) bytes)) in
        let well : GoesWell new.side.stand → GoesWell old.side.stand = λ g. went_well old.side.stand piece (subst GoesWell (sym r.stands) g) in
        let says = (reading.read here before.stand piece).says in
        let said_both : said p rows (bytes ++ piece) ≡ said p rows bytes ++ says = ap (λ m. here.opening ++ m.says) both ∙ sym (append_assoc here.opening before.says says) in
        record {
          stands = sym r.stands ∙ ap (λ m. m.stand) there ∙ sym (ap (λ m. m.stand) both);
          wrote =
              ap₂ (λ x y. x ++ y) h.wrote (sym r.writes ∙ ap (λ m. flat_map here.spelling m.says) there)
              ∙ sym (flat_map-append here.spelling (said p rows bytes) says)
              ∙ sym (ap (flat_map here.spelling) said_both);
          took = ap₂ (λ x y. x ++ y) h.took (sym r.takes ∙ ap (λ m. m.rows) there) ∙ sym (ap (λ m. m.rows) both);
          sent = λ g.
              (counts g).0
              ∙ ap₂ (λ x y. x + y) (h.sent (well g)) (ap (λ m. counted m.says) there)
              ∙ sym (counted-append (said p rows bytes) says)
              ∙ sym (ap counted said_both);
          read = λ g.
              (counts g).1
              ∙ ap₂ (λ x y. x + y) (h.read (well g)) (ap (λ m. counted m.rows) noted_there)
              ∙ sym (counted-append (heard p rows bytes) (reading.read (noting here) (reading.read (noting here) (start here) bytes).stand piece).rows)
              ∙ sym (ap (λ m. counted m.rows) noted_both);
          agreed = agreed;
        }

pub reads_on : (old new : Progress) (bytes piece written out_old out_new : List ℕ) (taken rows_old rows_new : List RowValue)
    → HaveRead old bytes written taken → (f : ReadsPiece old.side new.side piece out_old out_new rows_old rows_new) → CountsOn old new piece
    → HaveRead new (bytes ++ piece) (written ++ f.written) (taken ++ f.taken)
reads_on old new bytes piece written out_old out_new taken rows_old rows_new h f counts signature may =
    let p = party_of old.side signature in
    subst (λ x. HasRead (party_of x signature) x.rows new (bytes ++ piece) (written ++ f.written) (taken ++ f.taken)) (sym f.kept)
    (has_read_on p old.side.rows old new bytes piece written f.written taken f.taken (h signature (f.signed_once signature may)) (f.reads signature may)
    (λ g. let c = counts g signature may in (c.sent, c.read))
    (λ talks. agreed_on old new bytes piece written taken signature (h signature (f.signed_once signature may)) (counts (talks_well new.side.stand talks) signature may).agreed talks))

pub begun_read : (rules : Rules) (namespace : List ℕ) (role : Role) (hello : Hello) (limits : Interest) (rows : List RowValue) → HaveRead (progress_in rules (begun namespace role hello limits rows)) [] (first_bytes role hello) []
unfolding run
begun_read rules namespace Caller hello limits rows signature may = record {
  stands = refl;
  wrote = sym (append-nil (hello_spelling hello));
  took = refl;
  sent = λ g. refl;
  read = λ g. refl;
  agreed = λ talks. absurd talks;
}
begun_read rules namespace Answerer hello limits rows signature may = record {
  stands = refl;
  wrote = refl;
  took = refl;
  sent = λ g. refl;
  read = λ g. refl;
  agreed = λ talks. absurd talks;
}
