-- The reader of entries goes with their spelling.
use Rattle.std.proofs.Common.{◌≡◌, ℕ, zero, suc, ◌<◌, ◌^◌, List, [], ◌∷◌, ◌++◌, take, drop, refl, sym, ap, ap₂, ◌∙◌, subst, append_assoc, length, replicate, ◌-◌, arith}
use Rattle.std.proofs.lemmas.List.{take-append-drop, take_all, length-drop, length-replicate}
use Rattle.std.specs.Int.{w64, to_be_bytes}
use Rattle.spelling.specs.Front.{Front, Whole, ◌>>=◌}
use Rattle.spelling.specs.Form.{IsForm, AreBytes}
use Rattle.spelling.specs.Reader.{IsReader}
use Rattle.spelling.specs.Reading.{number_at, bytes_at}
use Rattle.spelling.specs.Spelling.{AreSoManyBytes}
use Rattle.spelling.proofs.Joining.{bind_whole, Reads, Reads-then, Reads-last, Reads-is, any_follows, one_spelling}
use Rattle.spelling.proofs.Reader.{reader}
use Rattle.spelling.proofs.Fields.{bytes-reads, u64-reads, zeros_are_bytes}
use Rattle.willow_path.specs.Key.{IsKey, key_at}
use Rattle.willow_path.specs.Path.{IsPath}
use Rattle.willow_path.specs.PathSpelling.{path_spelling, path_at}
use Rattle.willow_path.proofs.PathReads.{key-reads, path-reads}
use Rattle.willow_entry.specs.declared.entry.Entry.{Entry}
use Rattle.willow_entry.specs.EntryForm.{entry_spelling, entry_at, EntryAsks, IsEntry}
use Rattle.willow_entry.specs.Row.{RowValue}
use Rattle.willow_entry.specs.RowBody.{row_body, IsBareRow}
use Rattle.willow_entry.proofs.RowLaws.{row_same}

abbrev made : List ℕ → List ℕ → List (List ℕ) → ℕ → ℕ → List ℕ → Entry
made n s p t l d = record { namespace = n; subspace = s; path = p; timestamp = t; length = l; digest = record { 0 = d } }

pub regroup : (a b c d : List ℕ) → ((a ++ b) ++ c) ++ d ≡ a ++ (b ++ (c ++ d))
regroup a b c d = append_assoc (a ++ b) c d ∙ append_assoc a b (c ++ d)

-- ---- what may follow a field: the path without components, zeros in place of the numbers, the key and the digest

no_parts : IsPath []
no_parts = record { few = omega arith; parts_fit = tt; short = omega arith }

zeros : (n : ℕ) → AreSoManyBytes n (replicate n 0)
zeros n = (length-replicate {A = ℕ} n 0, zeros_are_bytes n)

zero_key : IsKey (replicate 33 0)
zero_key = record { whole = (zeros 33).0; kind = omega arith; bytes_fit = (zeros 33).1 }

-- ---- the fields from the last back to the first

abbrev digest_at : List ℕ → List ℕ → List (List ℕ) → ℕ → ℕ → List ℕ → Front Entry
digest_at n s p t l bytes = bytes_at 32 bytes >>= λ d. Whole (made n s p t l d.0) d.1

from_length : (n s : List ℕ) (p : List (List ℕ)) (t l : ℕ) → Reads (digest_at n s p t l) (λ (e : Entry). e.digest.0)
    (λ e. AreSoManyBytes 32 e.digest.0 × (e ≡ made n s p t l e.digest.0))
from_length n s p t l = Reads-last (λ (e : Entry). e.digest.0) (made n s p t l) (bytes-reads 32) (λ d. refl)

abbrev length_at : List ℕ → List ℕ → List (List ℕ) → ℕ → List ℕ → Front Entry
length_at n s p t bytes = number_at w64 bytes >>= λ l. digest_at n s p t l.0 l.1

from_time : (n s : List ℕ) (p : List (List ℕ)) (t : ℕ) → Reads (length_at n s p t) (λ (e : Entry). to_be_bytes w64 e.length ++ e.digest.0)
    (λ e. (e.length < 2 ^ 64) × (AreSoManyBytes 32 e.digest.0 × (e ≡ made n s p t e.length e.digest.0)))
from_time n s p t = Reads-then (λ (l : ℕ × List ℕ). digest_at n s p t l.0 l.1) (λ (e : Entry). e.length) u64-reads (from_length n s p t) (λ l e f. ap (λ (x : Entry). x.length) f.1)
    (any_follows u64-reads (λ l f. (made n s p t l (replicate 32 0), (zeros 32, refl))))

abbrev time_at : List ℕ → List ℕ → List (List ℕ) → List ℕ → Front Entry
time_at n s p bytes = number_at w64 bytes >>= λ t. length_at n s p t.0 t.1

from_path : (n s : List ℕ) (p : List (List ℕ)) → Reads (time_at n s p) (λ (e : Entry). to_be_bytes w64 e.timestamp ++ (to_be_bytes w64 e.length ++ e.digest.0))
    (λ e. (e.timestamp < 2 ^ 64) × ((e.length < 2 ^ 64) × (AreSoManyBytes 32 e.digest.0 × (e ≡ made n s p e.timestamp e.length e.digest.0))))
from_path n s p = Reads-then (λ (t : ℕ × List ℕ). length_at n s p t.0 t.1) (λ (e : Entry). e.timestamp) u64-reads (from_time n s p) (λ t e f. ap (λ (x : Entry). x.timestamp) f.1.1)
    (any_follows u64-reads (λ t f. (made n s p t 0 (replicate 32 0), (omega arith, (zeros 32, refl)))))

abbrev named_at : List ℕ → List ℕ → List ℕ → Front Entry
named_at n s bytes = path_at bytes >>= λ p. time_at n s p.0 p.1

from_subspace : (n s : List ℕ) → Reads (named_at n s) (λ (e : Entry). path_spelling e.path ++ (to_be_bytes w64 e.timestamp ++ (to_be_bytes w64 e.length ++ e.digest.0)))
    (λ e. IsPath e.path × ((e.timestamp < 2 ^ 64) × ((e.length < 2 ^ 64) × (AreSoManyBytes 32 e.digest.0 × (e ≡ made n s e.path e.timestamp e.length e.digest.0)))))
from_subspace n s = Reads-then (λ (p : List (List ℕ) × List ℕ). time_at n s p.0 p.1) (λ (e : Entry). e.path) path-reads (from_path n s) (λ p e f. ap (λ (x : Entry). x.path) f.1.1.1)
    (any_follows path-reads (λ p f. (made n s p 0 0 (replicate 32 0), (omega arith, (omega arith, (zeros 32, refl))))))

abbrev owned_at : List ℕ → List ℕ → Front Entry
owned_at n bytes = key_at bytes >>= λ s. named_at n s.0 s.1

from_namespace : (n : List ℕ) → Reads (owned_at n) (λ (e : Entry). e.subspace ++ (path_spelling e.path ++ (to_be_bytes w64 e.timestamp ++ (to_be_bytes w64 e.length ++ e.digest.0))))
    (λ e. IsKey e.subspace × (IsPath e.path × ((e.timestamp < 2 ^ 64) × ((e.length < 2 ^ 64) × (AreSoManyBytes 32 e.digest.0 × (e ≡ made n e.subspace e.path e.timestamp e.length e.digest.0))))))
from_namespace n = Reads-then (λ (s : List ℕ × List ℕ). named_at n s.0 s.1) (λ (e : Entry). e.subspace) key-reads (from_subspace n) (λ s e f. ap (λ (x : Entry). x.subspace) f.1.1.1.1)
    (any_follows key-reads (λ s f. (made n s [] 0 0 (replicate 32 0), (no_parts, (omega arith, (omega arith, (zeros 32, refl)))))))

pub entry-reads : Reads entry_at entry_spelling IsEntry
unfolding entry_at entry_spelling
entry-reads =
    let joined = Reads-then (λ (n : List ℕ × List ℕ). owned_at n.0 n.1) (λ (e : Entry). e.namespace) key-reads from_namespace (λ n e f. ap (λ (x : Entry). x.namespace) f.1.1.1.1.1)
    (any_follows key-reads (λ n f. (made n (replicate 33 0) [] 0 0 (replicate 32 0), (zero_key, (no_parts, (omega arith, (omega arith, (zeros 32, refl)))))))) in
    Reads-is joined (λ e. refl)
    (λ e f. record { namespace = f.0; subspace = f.1.0; path = f.1.1.0; timestamp = f.1.1.1.0; length_fits = f.1.1.1.1.0; digest = f.1.1.1.1.1.0 })
    (λ e f. (f.namespace, (f.subspace, (f.path, (f.timestamp, (f.length_fits, (f.digest, refl)))))))

-- where an entry stands in front, memory was asked for
pub whole_asks : (bytes : List ℕ) (e : Entry) (rest : List ℕ) → entry_at bytes ≡ Whole e rest → EntryAsks bytes
unfolding entry_at
whole_asks bytes e rest is =
    let namespace = bind_whole (key_at bytes) (λ n. owned_at n.0 n.1) e rest is in
    let subspace = bind_whole (key_at namespace.1) (λ s. named_at namespace.0 s.0 s.1) e rest namespace.3 in
    let path = bind_whole (path_at subspace.1) (λ p. time_at namespace.0 subspace.0 p.0 p.1) e rest subspace.3 in
    rw (namespace.2, subspace.2, path.2) tt

-- where bytes begin with an entry's spelling, memory was asked for
pub spelled_asks : (bytes : List ℕ) (e : Entry) (taken : ℕ) → IsEntry e → take taken bytes ≡ entry_spelling e → EntryAsks bytes
spelled_asks bytes e taken fits front =
    let parts : entry_spelling e ++ drop taken bytes ≡ bytes = rw (← front) (take-append-drop taken bytes) in
    whole_asks bytes e (drop taken bytes) (subst (λ (all : List ℕ). entry_at all ≡ Whole e (drop taken bytes)) parts (entry-reads.again e (drop taken bytes) fits))

-- an entry within its limits has one spelling, and none begins another
pub entry_form : IsForm entry_spelling IsEntry
entry_form = one_spelling entry-reads

-- the reader of entries goes by the spellings alone
pub entry_reader : IsReader entry_at entry_spelling IsEntry
entry_reader = reader entry-reads

-- a body is that of one row
pub one_body : (r s : RowValue) → IsEntry r.entry → IsEntry s.entry → row_body r ≡ row_body s → r ≡ s
unfolding row_body
one_body r s f g e = let both = entry_form r.entry s.entry r.token s.token f g e in row_same r s both.0 both.1

are_bytes-drop : (n : ℕ) (bytes : List ℕ) → AreBytes bytes → AreBytes (drop n bytes)
are_bytes-drop zero bytes are = are
are_bytes-drop (suc n) [] are = tt
are_bytes-drop (suc n) (b ∷ bytes) are = are_bytes-drop n bytes are.1

-- a body whose front is an entry's spelling is that of the entry with what is left as token
pub body_from_front : (body : List ℕ) (e : Entry) (taken : ℕ) (r : RowValue) → AreBytes body → IsEntry e → take taken body ≡ entry_spelling e
    → r.entry ≡ e → r.token ≡ take (length body - taken) (drop taken body) → IsBareRow r × (body ≡ row_body r)
unfolding row_body
body_from_front body e taken r are fits front is behind =
    let token : r.token ≡ drop taken body = behind ∙ take_all (length body - taken) (drop taken body) (omega (arith, length-drop taken body)) in (
      (subst IsEntry (sym is) fits, subst AreBytes (sym token) (are_bytes-drop taken body are)),
      sym (take-append-drop taken body) ∙ ap₂ (λ (a b : List ℕ). a ++ b) (front ∙ ap entry_spelling (sym is)) (sym token),
    )
