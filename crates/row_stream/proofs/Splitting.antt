-- The frame in front of bytes, from the readers of its length and its body.
use Rattle.std.proofs.Common.{◌≡◌, ◌≢◌, ℕ, ◌<◌, ◌≤◌, Bool, true, false, cond, ltb, List, ◌++◌, length, take, drop, Result, Err, refl, sym, ap, subst, ◌∙◌, append_assoc, arith}
use Rattle.std.specs.Int.{w32, from_be_bytes, to_be_bytes}
use Rattle.std.proofs.lemmas.Nat.{be_bytes_4}
use Rattle.spelling.specs.Form.{AreBytes}
use Rattle.spelling.proofs.Lists.{All-take, byte_below}
use Rattle.std.specs.Result.{IsErrAnd}
use Rattle.std.proofs.lemmas.Result.{err_from_is_err_and}
use Rattle.std.proofs.lemmas.Bool.{ltb-true, ltb-false}
use Rattle.std.proofs.lemmas.List.{length-drop, length-take, length-take-le, take-append-drop}
use Rattle.spelling.specs.Front.{Whole, Part, Wrong}
use Rattle.spelling.specs.Reading.{number_at, bytes_at, Fails}
use Rattle.spelling.specs.declared.input.Unread.{Unread}
use Rattle.spelling.specs.declared.input.Unread.TheVariants as unread
use Rattle.willow_entry.specs.declared.frame.TheConstants.{MAX_FRAME}
use Rattle.row_stream.specs.Places.{length_told, IsUnfinished, IsTooLong}
use Rattle.row_stream.specs.Steps.{IsSplit, Splits}

-- ---- tests of what is there

there : {A : Type 0} (short : Bool) (made x : A) (left rest : List ℕ) → cond short Part (Whole made left) ≡ Whole x rest → (short ≡ false) × (made ≡ x) × (left ≡ rest)
there true made x left rest e = absurd cc
there false made x left rest e = (refl, cc, cc)

missing : {A : Type 0} (short : Bool) (made : A) (left : List ℕ) → cond short Part (Whole made left) ≡ Part → short ≡ true
missing true made left e = refl
missing false made left e = absurd cc

never_wrong : {A : Type 0} (short : Bool) (made : A) (left : List ℕ) → cond short Part (Whole made left) ≡ Wrong → ⊥
never_wrong true made left e = cc
never_wrong false made left e = cc

-- ---- the length

-- what the reader of a length field says
pub record HasField (bytes : List ℕ) (size : ℕ) (left : List ℕ) : Type 0 where
  pub field_there : 4 ≤ length bytes
  pub told : size ≡ length_told bytes
  pub left_is : left ≡ drop 4 bytes

pub field : (bytes : List ℕ) (size : ℕ) (left : List ℕ) → number_at w32 bytes ≡ Whole size left → HasField bytes size left
unfolding length_told
field bytes size left e =
    let t = there (ltb (length bytes) 4) (from_be_bytes w32 (take 4 bytes)) size (drop 4 bytes) left e in
    record { field_there = ltb-false _ _ t.0; told = sym t.1; left_is = sym t.2 }

pub too_long : (bytes input : List ℕ) (size : ℕ) (left : List ℕ) → input ≡ bytes → number_at w32 input ≡ Whole size left → MAX_FRAME < size → IsTooLong bytes
too_long bytes input size left is e beyond =
    let f = field bytes size left (ap (number_at w32) (sym is) ∙ e) in
    record { field_there = f.field_there; beyond = omega (arith, f.told, beyond) }

-- ---- the body

pub cut_body : (bytes input : List ℕ) (size : ℕ) (left : List ℕ) → input ≡ bytes → number_at w32 input ≡ Whole size left → size ≤ MAX_FRAME → bytes_at size left ≡ Part → IsUnfinished bytes
cut_body bytes input size left is e within part =
    let f = field bytes size left (ap (number_at w32) (sym is) ∙ e) in
    let short : length left < size = ltb-true _ _ (missing (ltb (length left) size) (take size left) (drop size left) part) in
    λ there. (omega (arith, f.told, within), omega (arith, f.told, short, ap length f.left_is, length-drop 4 bytes))

-- the four bytes of a length spell it
field_spelled : (bytes : List ℕ) → AreBytes bytes → 4 ≤ length bytes → to_be_bytes w32 (length_told bytes) ≡ take 4 bytes
unfolding length_told
field_spelled bytes are there = be_bytes_4 (take 4 bytes) (from_be_bytes w32 (take 4 bytes)) (omega (arith, length-take 4 bytes, there)) (λ i. byte_below (take 4 bytes) i (All-take _ 4 bytes are)) refl

pub split : (bytes input : List ℕ) (size : ℕ) (left body behind : List ℕ) → AreBytes bytes → input ≡ bytes → number_at w32 input ≡ Whole size left → size ≤ MAX_FRAME → bytes_at size left ≡ Whole body behind → IsSplit bytes body behind
split bytes input size left body behind are is e within whole =
    let f = field bytes size left (ap (number_at w32) (sym is) ∙ e) in
    let t = there (ltb (length left) size) (take size left) body (drop size left) behind whole in
    let enough : size ≤ length left = ltb-false _ _ t.0 in
    let long : length body ≡ size = ap length (sym t.1) ∙ length-take-le size left enough in
    let front : take 4 bytes ≡ to_be_bytes w32 (length body) = sym (field_spelled bytes are f.field_there) ∙ ap (to_be_bytes w32) (sym f.told ∙ sym long) in
    let rest : drop 4 bytes ≡ body ++ behind = sym f.left_is ∙ sym (take-append-drop size left) ∙ ap (λ (l : List ℕ). l ++ drop size left) t.1 ∙ ap (λ (l : List ℕ). body ++ l) t.2 in
    record {
      field_there = f.field_there;
      within = omega (arith, f.told, within);
      whole = omega (arith, f.told, enough, ap length f.left_is, length-drop 4 bytes, f.field_there);
      body_is = sym t.1 ∙ ap (take size) f.left_is ∙ ap (λ (n : ℕ). take n (drop 4 bytes)) f.told;
      parts = sym (take-append-drop 4 bytes) ∙ ap (λ (l : List ℕ). l ++ drop 4 bytes) front ∙ ap (λ (l : List ℕ). to_be_bytes w32 (length body) ++ l) rest ∙ sym (append_assoc (to_be_bytes w32 (length body)) body behind);
    }

-- an error of the body's reader is that the bytes end inside it
pub no_body : {X : Type 0} (body behind : X → List ℕ) (bytes input : List ℕ) (size : ℕ) (left : List ℕ) (u : Unread) (result : Result X Unread)
    → input ≡ bytes → number_at w32 input ≡ Whole size left → size ≤ MAX_FRAME → Fails u (bytes_at size left) → u ≢ unread.NoMemory → IsErrAnd result (λ e. e ≡ u) → Splits body behind bytes result
no_body {X} body behind bytes input size left u result is e within fails sure err =
    let p = err_from_is_err_and result err in
    subst (λ (r : Result X Unread). Splits body behind bytes r) (ap (λ (v : Unread). Err v) (sym p.2) ∙ sym p.1) (told u fails sure)
  where
    told : (v : Unread) → Fails v (bytes_at size left) → v ≢ unread.NoMemory → Splits body behind bytes (Err v)
    told unread.Part h some = cut_body bytes input size left is e within h
    told unread.Wrong h some = absurd (never_wrong (ltb (length left) size) (take size left) (drop size left) h)
    told unread.NoMemory h some = absurd (some refl)
