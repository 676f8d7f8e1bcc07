-- What a machine writes to more bytes goes on from what it writes to fewer.
use Rattle.std.proofs.Common.{◌≡◌, ℕ, List, [], ◌∷◌, ◌++◌, flat_map, append_assoc, append-nil, sym, refl, ap, ◌∙◌}
use Rattle.std.proofs.lemmas.List.Concat.{flat_map-append}
use Rattle.session_rules.specs.Machine.{Seen, Part, Machine}
use Rattle.session_rules.specs.Reading.{Waits, Move, stay, then, judged, move, run, read, start, More, ending_of, said, out, got, ending}
use Rattle.session_rules.specs.Rounds.{IsFront, IsOver}
use Rattle.session_rules.specs.Messages.{ArePart}
use Rattle.session_rules.proofs.Runs.{run_append, run_stays, idle_over}

-- ---- fronts

pub front_by : {A : Type 0} (front whole behind : List A) → whole ≡ front ++ behind → IsFront front whole
front_by front whole behind e = record { behind = behind; joined = e }

pub front_none : {A : Type 0} (xs : List A) → IsFront [] xs
front_none xs = front_by [] xs xs refl

pub front_self : {A : Type 0} (xs : List A) → IsFront xs xs
front_self xs = front_by xs xs [] (sym (append-nil xs))

pub front_is : {A : Type 0} (front whole other : List A) → whole ≡ other → IsFront front whole → IsFront front other
front_is front whole other e h = front_by front other h.behind (sym e ∙ h.joined)

-- it takes back nothing
abbrev pub Grows : {A B : Type 0} → (List A → List B) → Type 0
Grows {A} f = (xs more : List A) → IsFront (f xs) (f (xs ++ more))

pub front_under : {A B : Type 0} (f : List A → List B) → Grows f → (front whole : List A) → IsFront front whole → IsFront (f front) (f whole)
front_under f grows front whole h = front_is (f front) (f (front ++ h.behind)) (f whole) (ap f (sym h.joined)) (grows front h.behind)

-- ---- what is said and what is taken

abbrev pub says_of : {S O R E : Type 0} → Move S O R E → List O
says_of m = m.says

abbrev pub rows_of : {S O R E : Type 0} → Move S O R E → List R
rows_of m = m.rows

module _ {S M O R E : Type 0} (a : Machine S M O R E) where
  -- what comes of more bytes behind others
  pub later : List ℕ → List ℕ → Move S O R E
  later bytes more = read a (read a (start a) bytes).stand more

  all : (bytes more : List ℕ) → read a (start a) (bytes ++ more) ≡ then (read a (start a) bytes) (later bytes more)
  unfolding later
  all bytes more = run_append (move a) (start a) bytes more

  pub said-more : (bytes more : List ℕ) → said a (bytes ++ more) ≡ said a bytes ++ (later bytes more).says
  said-more bytes more =
      ap (λ m. a.opening ++ says_of m) (all bytes more) ∙ sym (append_assoc a.opening (read a (start a) bytes).says (later bytes more).says)

  pub out_grows : Grows (out a)
  out_grows bytes more =
      front_by (out a bytes) (out a (bytes ++ more)) (flat_map a.spelling (later bytes more).says)
      (ap (flat_map a.spelling) (said-more bytes more) ∙ flat_map-append a.spelling (said a bytes) (later bytes more).says)

  pub got_grows : Grows (got a)
  got_grows bytes more =
      front_by (got a bytes) (got a (bytes ++ more)) (later bytes more).rows (ap rows_of (all bytes more))

  -- ---- behind an end

  pub read_over : (bytes more : List ℕ) → IsOver (ending a bytes) → read a (start a) (bytes ++ more) ≡ read a (start a) bytes
  read_over bytes more over = run_stays (move a) (start a) bytes more (idle_over a (read a (start a) bytes).stand over)

  pub same_over : (bytes more : List ℕ) → IsOver (ending a bytes)
      → (out a (bytes ++ more) ≡ out a bytes) × (got a (bytes ++ more) ≡ got a bytes) × (ending a (bytes ++ more) ≡ ending a bytes)
  same_over bytes more over =
      let same = read_over bytes more over in
      (ap (λ m. flat_map a.spelling (a.opening ++ says_of m)) same, ap rows_of same, ap (λ m. ending_of m.stand) same)

  -- ---- within a message

  pub judged_part : (s : S) (at : ℕ) (held : List ℕ) (seen : Seen M) → seen ≡ Part → judged a s at held seen ≡ stay (Waits s at held)
  judged_part s at held seen e = ap (judged a s at held) e

  pub read_part : (s : S) (at : ℕ) (held part : List ℕ) → ArePart (a.sees s) held part → read a (Waits s at held) part ≡ stay (Waits s at (held ++ part))
  unfolding run
  read_part s at held [] h = ap (λ bytes. stay (Waits s at bytes)) (sym (append-nil held))
  read_part s at held (byte ∷ part) h =
      ap (λ m. then m (read a m.stand part)) (judged_part s at (held ++ byte ∷ []) (a.sees s (held ++ byte ∷ [])) h.0)
      ∙ read_part s at (held ++ byte ∷ []) part h.1
      ∙ ap (λ bytes. stay (Waits s at bytes)) (append_assoc held (byte ∷ []) part)

  pub nothing_more : (bytes part : List ℕ) (s : S) (at : ℕ) (held : List ℕ) → (read a (start a) bytes).stand ≡ Waits s at held → ArePart (a.sees s) held part
      → (out a (bytes ++ part) ≡ out a bytes) × (got a (bytes ++ part) ≡ got a bytes) × (ending a (bytes ++ part) ≡ More)
  unfolding later
  nothing_more bytes part s at held stands h =
      let m = read a (start a) bytes in
      let n : Move S O R E = stay (Waits s at (held ++ part)) in
      let quiet : read a (start a) (bytes ++ part) ≡ then m n = all bytes part ∙ ap (λ q. then m (read a q part)) stands ∙ ap (then m) (read_part s at held part h) in (
        ap (λ k. flat_map a.spelling (a.opening ++ says_of k)) quiet ∙ ap (λ says. flat_map a.spelling (a.opening ++ says)) (append-nil m.says),
        ap rows_of quiet ∙ append-nil m.rows,
        ap (λ k. ending_of k.stand) quiet,
      )
