-- Values read one after the other, as a loop reads them.
use Rattle.std.proofs.Common.{◌≡◌, ℕ, suc, ◌-◌, ◌+◌, ◌≤◌, ◌<◌, List, [], ◌∷◌, ◌++◌, refl, sym, ap, ◌∙◌, append_assoc, arith}
use Rattle.std.proofs.lemmas.List.{append-nil}
use Rattle.spelling.specs.Front.{Front, Whole, Part, Wrong, ◌>>=◌}
use Rattle.spelling.specs.Reading.{Fails, many_at}
use Rattle.spelling.specs.declared.input.Unread.{Unread}
use Rattle.spelling.specs.declared.input.Unread.TheVariants as unread

-- what was read before, and what is still read: the loop's invariant says that this is all that is read
abbrev pub behind : {A : Type 0} → List A → Front (List A) → Front (List A)
behind before front = front >>= λ x. Whole (before ++ x.0) x.1

regroup : {A : Type 0} (before : List A) (x : A) (front : Front (List A)) → behind before (front >>= λ more. Whole (x ∷ more.0) more.1) ≡ behind (before ++ x ∷ []) front
regroup before x (Whole xs rest) = ap (λ (ys : List _). Whole ys rest) (sym (append_assoc before (x ∷ []) xs))
regroup before x Part = refl
regroup before x Wrong = refl

-- one more was read
pub read_on : {A : Type 0} (at : List ℕ → Front A) (before : List A) (count i : ℕ) (bytes rest : List ℕ) (x : A) (total : Front (List A)) → i < count → at bytes ≡ Whole x rest
    → behind before (many_at at (count - i) bytes) ≡ total → behind (before ++ x ∷ []) (many_at at (count - (i + 1)) rest) ≡ total
unfolding many_at
read_on at before count i bytes rest x total lt e so_far =
    let k : count - i ≡ suc (count - (i + 1)) = omega arith in
    let one : behind before (many_at at (count - i) bytes) ≡ behind (before ++ x ∷ []) (many_at at (count - (i + 1)) rest) = rw (k, e) (regroup before x (many_at at (count - (i + 1)) rest)) in
    sym one ∙ so_far

-- one more was not read
pub read_ends : {A : Type 0} (at : List ℕ → Front A) (u : Unread) (before : List A) (count i : ℕ) (bytes : List ℕ) (total : Front (List A)) → i < count → Fails u (at bytes)
    → behind before (many_at at (count - i) bytes) ≡ total → Fails u total
unfolding many_at
read_ends at unread.NoMemory before count i bytes total lt h so_far = tt
read_ends {A} at unread.Part before count i bytes total lt h so_far =
    let k : count - i ≡ suc (count - (i + 1)) = omega arith in
    let one : behind before (many_at at (count - i) bytes) ≡ Part = rw (k, h) refl in
    sym so_far ∙ one
read_ends {A} at unread.Wrong before count i bytes total lt h so_far =
    let k : count - i ≡ suc (count - (i + 1)) = omega arith in
    let one : behind before (many_at at (count - i) bytes) ≡ Wrong = rw (k, h) refl in
    sym so_far ∙ one

-- all were read
pub read_all : {A : Type 0} (at : List ℕ → Front A) (before : List A) (count i : ℕ) (bytes : List ℕ) (total : Front (List A)) → count ≤ i
    → behind before (many_at at (count - i) bytes) ≡ total → total ≡ Whole before bytes
unfolding many_at
read_all at before count i bytes total le so_far =
    let k : count - i ≡ 0 = omega arith in
    let one : behind before (many_at at (count - i) bytes) ≡ Whole before bytes = rw k (ap (λ (xs : List _). Whole xs bytes) (append-nil before)) in
    sym so_far ∙ one
