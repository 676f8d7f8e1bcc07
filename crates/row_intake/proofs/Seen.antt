-- What bytes are by readers that go by spellings.
use Rattle.std.proofs.Common.{◌≡◌, ℕ, ◌<◌, List, [], ◌∷◌, ◌++◌, length, append-nil, Option, Some, None, refl, sym, ap, ◌∙◌}
use Rattle.spelling.specs.Front.{Front}
use Rattle.spelling.specs.Front as front
use Rattle.spelling.specs.Form.{AreBytes}
use Rattle.spelling.proofs.Joining.{Reads, alone, part_until}
use Rattle.session_rules.specs.Machine.{Seen, Whole, Part, Wrong}
use Rattle.session_rules.specs.Messages.{IsReadAs}
use Rattle.row_intake.specs.Readers.{all_seen, whole_or_wrong, judged_whole}

-- a whole value is all of the bytes
whole_front : {A : Type 0} (f : Front A) (x : A) → all_seen f ≡ Whole x → f ≡ front.Whole x []
whole_front (front.Whole y []) x e =
    let same : y ≡ x = cc in
    ap (λ z. front.Whole z []) same
whole_front (front.Whole y (byte ∷ behind)) x e = absurd cc
whole_front front.Part x e = absurd cc
whole_front front.Wrong x e = absurd cc

pub part_front : {A : Type 0} (f : Front A) → all_seen f ≡ Part → f ≡ front.Part
part_front (front.Whole y []) e = absurd cc
part_front (front.Whole y (byte ∷ behind)) e = absurd cc
part_front front.Part e = refl
part_front front.Wrong e = absurd cc

-- what is judged once it is whole
judged_some : {B : Type 0} (o : Option B) (y : B) → whole_or_wrong o ≡ Whole y → o ≡ Some y
judged_some None y e = absurd cc
judged_some (Some z) y e =
    let same : z ≡ y = cc in
    ap Some same

not_part : {B : Type 0} (o : Option B) → whole_or_wrong o ≡ Part → ⊥
not_part None e = cc
not_part (Some y) e = cc

pub judged_part : {A B : Type 0} (judge : A → Option B) (s : Seen A) → judged_whole judge s ≡ Part → s ≡ Part
judged_part judge (Whole x) e = absurd (not_part (judge x) e)
judged_part judge Part e = refl
judged_part judge Wrong e = absurd cc

module _ {A : Type 0} {at : List ℕ → Front A} {spell : A → List ℕ} {fits : A → Type 0} (reads : Reads at spell fits) where
  seen_whole : (x : A) → fits x → all_seen (at (spell x)) ≡ Whole x
  seen_whole x f = ap all_seen (alone reads x f)

  seen_part : (x : A) → fits x → (held due : List ℕ) → spell x ≡ held ++ due → 0 < length due → all_seen (at held) ≡ Part
  seen_part x f held due e some = ap all_seen (part_until reads held due x [] (ap at (sym e) ∙ alone reads x f) some)

  -- a value that fits is read as itself
  pub read_as : (x : A) → fits x → 0 < length (spell x) → IsReadAs (λ bytes. all_seen (at bytes)) (spell x) x
  read_as x f some = record {
    some_bytes = some;
    whole = seen_whole x f;
    part = λ held due e some_held some_due. seen_part x f held due e some_due;
  }

  -- bytes that are a value spell it
  pub read_back : (bytes : List ℕ) (x : A) → AreBytes bytes → all_seen (at bytes) ≡ Whole x → fits x × (bytes ≡ spell x)
  read_back bytes x are e =
      let t = reads.takes bytes x [] are (whole_front (at bytes) x e) in
      (t.fits, t.parts ∙ append-nil (spell x))

  module _ {B : Type 0} (judge : A → Option B) where
    -- the same, where it is judged once it is whole
    pub judged_as : (x : A) (y : B) → fits x → judge x ≡ Some y → 0 < length (spell x) → IsReadAs (λ bytes. judged_whole judge (all_seen (at bytes))) (spell x) y
    judged_as x y f e some = record {
      some_bytes = some;
      whole = ap (judged_whole judge) (seen_whole x f) ∙ ap whole_or_wrong e;
      part = λ held due is some_held some_due. ap (judged_whole judge) (seen_part x f held due is some_due);
    }

    back_by : (bytes : List ℕ) (y : B) → AreBytes bytes → (s : Seen A) → all_seen (at bytes) ≡ s → judged_whole judge s ≡ Whole y → (x : A) × fits x × (bytes ≡ spell x) × (judge x ≡ Some y)
    back_by bytes y are (Whole x) is e =
        let back = read_back bytes x are is in
        (x, back.0, back.1, judged_some (judge x) y e)
    back_by bytes y are Part is e = absurd cc
    back_by bytes y are Wrong is e = absurd cc

    pub judged_back : (bytes : List ℕ) (y : B) → AreBytes bytes → judged_whole judge (all_seen (at bytes)) ≡ Whole y → (x : A) × fits x × (bytes ≡ spell x) × (judge x ≡ Some y)
    judged_back bytes y are e = back_by bytes y are (all_seen (at bytes)) refl e
