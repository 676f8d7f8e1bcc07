-- Components read one after the other, as a loop reads them.
use Rattle.std.proofs.Common.{◌≡◌, ℕ, suc, ◌+◌, ◌-◌, ◌<◌, ◌≤◌, List, [], ◌∷◌, ◌++◌, length, take, refl, sym, ap, ◌∙◌, append_assoc, arith}
use Rattle.std.proofs.lemmas.List.{append-nil}
use Rattle.spelling.specs.Front.{Front, Whole, Part, Wrong, ◌>>=◌}
use Rattle.spelling.specs.Reading.{Fails}
use Rattle.spelling.specs.declared.input.Unread.{Unread}
use Rattle.spelling.specs.declared.input.Unread.TheVariants as unread
use Rattle.spelling.specs.Form.{AreBytes}
use Rattle.spelling.proofs.Lists.{take_front}
use Rattle.willow_path.specs.declared.limits.TheConstants.{MAX_PARTS, MAX_TOTAL}
use Rattle.willow_path.specs.Path.{IsPath, total}
use Rattle.willow_path.specs.PathBytes.{parts_spelling, parts_of, AreOfPath}
use Rattle.willow_path.specs.PathSpelling.{part_at, parts_at}
use Rattle.willow_path.proofs.PathBytes.{AreOfPath-from, parts_of-from}
use Rattle.willow_path.proofs.PathLimits.{total-append}
use Rattle.willow_path.proofs.PathReads.{parts-reads}

-- what was read before, and what is still read: the loop's invariant says that this is all that is read
abbrev pub behind : List (List ℕ) → Front (List (List ℕ)) → Front (List (List ℕ))
behind before front = front >>= λ x. Whole (before ++ x.0) x.1

regroup : (before : List (List ℕ)) (part : List ℕ) (front : Front (List (List ℕ))) → behind before (front >>= λ more. Whole (part ∷ more.0) more.1) ≡ behind (before ++ part ∷ []) front
regroup before part (Whole parts rest) = ap (λ (ys : List (List ℕ)). Whole ys rest) (sym (append_assoc before (part ∷ []) parts))
regroup before part Part = refl
regroup before part Wrong = refl

-- one more was read
pub read_on : (top : ℕ) (before : List (List ℕ)) (count i : ℕ) (bytes rest part : List ℕ) (all : Front (List (List ℕ))) → i < count → part_at (top - total before) bytes ≡ Whole part rest
    → behind before (parts_at (top - total before) (count - i) bytes) ≡ all → behind (before ++ part ∷ []) (parts_at (top - total (before ++ part ∷ [])) (count - (i + 1)) rest) ≡ all
unfolding parts_at
read_on top before count i bytes rest part all lt e so_far =
    let k : count - i ≡ suc (count - (i + 1)) = omega arith in
    let left : top - total (before ++ part ∷ []) ≡ top - total before - length part = omega (arith, total-append before (part ∷ [])) in
    let one : behind before (parts_at (top - total before) (count - i) bytes) ≡ behind (before ++ part ∷ []) (parts_at (top - total before - length part) (count - (i + 1)) rest) =
    rw (k, e) (regroup before part (parts_at (top - total before - length part) (count - (i + 1)) rest)) in
    rw left (sym one ∙ so_far)

-- one more was not read
pub read_ends : (u : Unread) (room : ℕ) (before : List (List ℕ)) (count i : ℕ) (bytes : List ℕ) (all : Front (List (List ℕ))) → i < count → Fails u (part_at room bytes)
    → behind before (parts_at room (count - i) bytes) ≡ all → Fails u all
unfolding parts_at
read_ends unread.NoMemory room before count i bytes all lt h so_far = tt
read_ends unread.Part room before count i bytes all lt h so_far =
    let k : count - i ≡ suc (count - (i + 1)) = omega arith in
    let one : behind before (parts_at room (count - i) bytes) ≡ Part = rw (k, h) refl in
    sym so_far ∙ one
read_ends unread.Wrong room before count i bytes all lt h so_far =
    let k : count - i ≡ suc (count - (i + 1)) = omega arith in
    let one : behind before (parts_at room (count - i) bytes) ≡ Wrong = rw (k, h) refl in
    sym so_far ∙ one

-- all were read
pub read_all : (room : ℕ) (before : List (List ℕ)) (count i : ℕ) (bytes : List ℕ) (all : Front (List (List ℕ))) → count ≤ i
    → behind before (parts_at room (count - i) bytes) ≡ all → all ≡ Whole before bytes
unfolding parts_at
read_all room before count i bytes all le so_far =
    let k : count - i ≡ 0 = omega arith in
    let one : behind before (parts_at room (count - i) bytes) ≡ Whole before bytes = rw k (ap (λ (ys : List (List ℕ)). Whole ys bytes) (append-nil before)) in
    sym so_far ∙ one

pub behind_nothing : (front : Front (List (List ℕ))) → behind [] front ≡ front
behind_nothing (Whole parts rest) = refl
behind_nothing Part = refl
behind_nothing Wrong = refl

-- ---- all of it, with the bytes that were taken

-- so many components were read from the front of all, and bytes are left
pub record HasRead (all bytes : List ℕ) (count i room : ℕ) : Type 0 where
  pub are : AreBytes all
  pub before : List (List ℕ)
  pub left : room ≡ MAX_TOTAL - total before
  pub so_far : behind before (parts_at room (count - i) bytes) ≡ parts_at MAX_TOTAL count all

pub HasRead-none : (all : List ℕ) (count : ℕ) → AreBytes all → HasRead all all count 0 MAX_TOTAL
HasRead-none all count are = record {
  are = are;
  before = [];
  left = omega arith;
  so_far = let whole : count - 0 ≡ count = omega arith in rw whole (behind_nothing (parts_at MAX_TOTAL count all));
}

pub HasRead-one : (all bytes rest part : List ℕ) (count i room : ℕ) → HasRead all bytes count i room → i < count → part_at room bytes ≡ Whole part rest → HasRead all rest count (i + 1) (room - length part)
HasRead-one all bytes rest part count i room h lt e =
    let left : room - length part ≡ MAX_TOTAL - total (h.before ++ part ∷ []) = omega (arith, h.left, total-append h.before (part ∷ [])) in
    record {
      are = h.are;
      before = h.before ++ part ∷ [];
      left = left;
      so_far = rw left (read_on MAX_TOTAL h.before count i bytes rest part _ lt (rw h.left at e) (rw h.left at h.so_far));
    }

pub HasRead-ends : (u : Unread) (all bytes : List ℕ) (count i room : ℕ) → HasRead all bytes count i room → i < count → Fails u (part_at room bytes) → Fails u (parts_at MAX_TOTAL count all)
HasRead-ends u all bytes count i room h lt f = read_ends u room h.before count i bytes _ lt f h.so_far

-- the bytes taken are those of the path that was read
pub record ReadsPath (all bytes : List ℕ) (count taken : ℕ) : Type 0 where
  pub within : taken ≤ length all
  pub path : AreOfPath (take taken all)
  pub reads : parts_at MAX_TOTAL count all ≡ Whole (parts_of (take taken all)) bytes

pub HasRead-all : (all bytes : List ℕ) (count i room taken : ℕ) → HasRead all bytes count i room → count ≤ MAX_PARTS → count ≤ i → taken ≡ length all - length bytes → ReadsPath all bytes count taken
HasRead-all all bytes count i room taken h few done is =
    let e : parts_at MAX_TOTAL count all ≡ Whole h.before bytes = read_all room h.before count i bytes _ done h.so_far in
    let t = (parts-reads count MAX_TOTAL).takes all h.before bytes h.are e in
    let front : take taken all ≡ parts_spelling h.before = ap (λ (n : ℕ). take n all) is ∙ take_front all (parts_spelling h.before) bytes t.parts in
    let path : IsPath h.before = record { few = omega (arith, t.fits.count_is, few); parts_fit = t.fits.all_fit; short = t.fits.within } in
    record {
      within = omega (arith, is);
      path = AreOfPath-from (take taken all) h.before front path;
      reads = e ∙ ap (λ (ps : List (List ℕ)). Whole ps bytes) (sym (parts_of-from (take taken all) h.before front));
    }
