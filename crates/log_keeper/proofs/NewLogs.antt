-- What a crash leaves while a log is begun.
use Rattle.std.proofs.Common.{◌≡◌, ◌≢◌, inl, inr, ℕ, ◌+◌, ◌<◌, List, [], ◌∷◌, ◌++◌, length, get_or, take, drop, Option, Some, None, IfSome, refl, sym, ◌∙◌, ap, subst, arith, append_assoc, append-nil, length-append}
use Rattle.std.proofs.lemmas.Bool.{cases_eq}
use Rattle.std.proofs.lemmas.List.{drop_all, take_at}
use Rattle.std.specs.Option.{option_map}
use Rattle.willow_entry.specs.Row.{RowValue}
use Rattle.willow_outside.specs.Disks.{written, IsTorn, IsWithin, LeavesContents, LeavesOnly}
use Rattle.willow_outside.proofs.DiskSteps.{length-written}
use Rattle.log_keeper.specs.LogFile.{log_mark, log_front, new_log, HoldsRowsTo, HoldsNoLog, IsShut}
use Rattle.log_keeper.specs.Crashes.{HoldsNoRow, KeepsFile}
use Rattle.log_keeper.specs.Torn.{IsTornOf, IsTornAtGate, BeginsWith, HoldsNoneOr}
use Rattle.log_keeper.proofs.Gates.{torn_behind, written_behind, torn_gate}
use Rattle.std.proofs.lemmas.Option.{none-some}
use Rattle.log_keeper.proofs.Moments.{weaker, then}
use Rattle.log_keeper.proofs.Told.{some-some}

-- at rest a crash leaves no log
pub none_left : (contents : Option (List ℕ)) (images : List ℕ → Type 0) → LeavesContents contents images → IfSome contents HoldsNoLog → (c : List ℕ) → images c → HoldsNoLog c
none_left None images settled none c left = absurd (none-some c (settled c left))
none_left (Some bytes) images settled none c left = subst HoldsNoLog (some-some bytes c (settled c left)) none

-- ---- a file that is too short

pub short_left : (contents : Option (List ℕ)) → IfSome contents (λ bytes. length bytes < 39) → (c : List ℕ) → IsTornOf contents 0 1 c → HoldsNoLog c
short_left None short c (bytes, told, torn) = absurd (none-some bytes told)
short_left (Some there) short c (bytes, told, torn) = inl (omega (arith, short, torn.no_longer, ap length (some-some there bytes told)))

pub short_shut : (contents new : Option (List ℕ)) → new ≡ option_map (written 0 (0 ∷ [])) contents → IfSome new IsShut
short_shut None new is = subst (λ (o : Option (List ℕ)). IfSome o IsShut) (sym is) tt
short_shut (Some bytes) new is = subst (λ (o : Option (List ℕ)). IfSome o IsShut) (sym is) (record { some = omega arith; closed = omega arith })

pub short_behind : (contents new : Option (List ℕ)) → IfSome contents (λ bytes. length bytes < 39) → new ≡ option_map (written 0 (0 ∷ [])) contents → option_map (drop 39) new ≡ option_map (drop 39) contents
short_behind None new short is = ap (option_map (drop 39)) is
short_behind (Some bytes) new short is =
    ap (option_map (drop 39)) is ∙ ap (λ (l : List ℕ). Some l) (drop_all 39 (written 0 (0 ∷ []) bytes) (omega (arith, short, length-written 0 (0 ∷ []) bytes (omega arith))) ∙ sym (drop_all 39 bytes (omega (arith, short))))

-- a file that is long enough has a closed gate
pub long_shut : (contents new : Option (List ℕ)) (size : ℕ) → IfSome contents HoldsNoLog → IfSome contents (λ bytes. size ≡ length bytes) → (size < 39 → ⊥) → new ≡ contents → IfSome new IsShut
long_shut None new size none is long same = subst (λ (o : Option (List ℕ)). IfSome o IsShut) (sym same) tt
long_shut (Some bytes) new size (inl short) is long same = absurd (long (omega (arith, is, short)))
long_shut (Some bytes) new size (inr shut) is long same = subst (λ (o : Option (List ℕ)). IfSome o IsShut) (sym same) (record { some = omega (arith, is, long); closed = shut })

pub short_told : (contents new : Option (List ℕ)) (size : ℕ) → IfSome contents (λ bytes. size ≡ length bytes) → size < 39 → new ≡ contents → IfSome new (λ bytes. length bytes < 39)
short_told None new size is short same = subst (λ (o : Option (List ℕ)). IfSome o (λ bytes. length bytes < 39)) (sym same) tt
short_told (Some bytes) new size is short same = subst (λ (o : Option (List ℕ)). IfSome o (λ bytes. length bytes < 39)) (sym same) (omega (arith, is, short))

-- ---- all behind the first gate, and then the gate

pub shut_within : (contents : Option (List ℕ)) → IfSome contents IsShut → IsWithin contents (0 + 1)
shut_within None shut = tt
shut_within (Some bytes) shut = omega (arith, shut.some)

module _ (head : List ℕ) where
  any_first : (gate : ℕ) (rest : List ℕ) → HoldsNoneOr (1 ∷ head) (gate ∷ (head ++ rest))
  any_first gate rest = elim (cases_eq gate 1) [
    | inl is_open ↦ inr (rest, ap (λ (g : ℕ). g ∷ (head ++ rest)) is_open)
    | inr shut ↦ inl (inr shut)
  ]

  behind_first : (bytes c : List ℕ) (n : ℕ) → IsShut bytes → IsTorn (0 + 1) n bytes c → HoldsNoLog c
  behind_first [] c n shut torn = absurd (omega (arith, shut.some))
  behind_first (gate ∷ rest) c n shut torn = inr (subst (λ (l : List ℕ). get_or l 0 0 ≢ 1) (sym (torn_behind [] gate rest n c torn)) shut.closed)

  over_first : (bytes c : List ℕ) → IsShut bytes → IsTorn 0 1 (written (0 + 1) head bytes) c → HoldsNoneOr (1 ∷ head) c
  over_first [] c shut torn = absurd (omega (arith, shut.some))
  over_first (gate ∷ rest) c shut torn =
      let staged : written (0 + 1) head (gate ∷ rest) ≡ gate ∷ (head ++ drop (length head) rest) = written_behind [] gate rest head in
      let here : IsTorn 0 1 (gate ∷ (head ++ drop (length head) rest)) c = subst (λ (b : List ℕ). IsTorn 0 1 b c) staged torn in
      subst (HoldsNoneOr (1 ∷ head)) (sym (torn_gate [] gate (head ++ drop (length head) rest) c here)) (any_first (get_or c 0 0) (drop (length head) rest))

  pub either_begun : (contents : Option (List ℕ)) → IfSome contents IsShut → (c : List ℕ) → IsTornAtGate contents 0 head c → HoldsNoneOr (1 ∷ head) c
  either_begun None shut c (inl (bytes, told, torn)) = absurd (none-some bytes told)
  either_begun None shut c (inr (bytes, told, torn)) = absurd (none-some bytes told)
  either_begun (Some there) shut c (inl (bytes, told, torn)) = inl (behind_first bytes c (length head) (subst IsShut (some-some there bytes told) shut) torn)
  either_begun (Some there) shut c (inr (bytes, told, torn)) = over_first there c shut (subst (λ (b : List ℕ). IsTorn 0 1 b c) (sym (some-some (written (0 + 1) head there) bytes told)) torn)

-- at each moment of the beginning, once a closed gate stands first
pub at_each_moment : {D : Type 0} (moment : D → ℕ) (left_since : D → ℕ → List ℕ → Type 0) (old mid new : D) (contents : Option (List ℕ)) (namespace piece : List ℕ) → IfSome contents IsShut → piece ≡ new_log namespace
    → LeavesOnly moment left_since old mid HoldsNoLog → LeavesOnly moment left_since mid new (IsTornAtGate contents 0 (drop 1 piece)) → LeavesOnly moment left_since old new (HoldsNoneOr (new_log namespace))
at_each_moment moment left_since old mid new contents namespace piece shut is first second =
    let P = HoldsNoneOr (new_log namespace) in
    let head = drop 1 (new_log namespace) in
    then moment left_since old mid new P (weaker moment left_since old mid HoldsNoLog P (λ c none. inl none) first)
    (weaker moment left_since mid new (IsTornAtGate contents 0 head) P (either_begun head contents shut) (subst (λ (p : List ℕ). LeavesOnly moment left_since mid new (IsTornAtGate contents 0 (drop 1 p))) is second))

-- what stood behind the header stays behind the log
same_behind : (log a b : List ℕ) → length log ≡ 39 → drop 39 a ≡ drop 39 b → written 0 log a ≡ written 0 log b
same_behind log a b long same =
    let past : 0 + length log ≡ 39 = omega (arith, long) in
    let at : (l : List ℕ) → drop (0 + length log) l ≡ drop 39 l = λ (l : List ℕ). ap (λ (n : ℕ). drop n l) past in
    ap (λ (l : List ℕ). log ++ l) (at a ∙ same ∙ sym (at b))

pub begun_behind : (log : List ℕ) (old mid : Option (List ℕ)) → length log ≡ 39 → option_map (drop 39) mid ≡ option_map (drop 39) old → option_map (written 0 log) mid ≡ option_map (written 0 log) old
begun_behind log None None long same = refl
begun_behind log None (Some b) long same = absurd (none-some (drop 39 b) (sym same))
begun_behind log (Some a) None long same = absurd (none-some (drop 39 a) same)
begun_behind log (Some a) (Some b) long same = ap (λ (l : List ℕ). Some l) (same_behind log b a long (some-some (drop 39 b) (drop 39 a) same))

-- ---- the log that has begun

pub header_of : (namespace : List ℕ) → length namespace ≡ 33 → take 38 (new_log namespace) ≡ 1 ∷ log_mark ++ namespace
header_of namespace long =
    let head = 1 ∷ log_mark ++ namespace in
    ap (λ (l : List ℕ). take 38 (l ++ 0 ∷ [])) (append-nil head) ∙ take_at head (0 ∷ []) 38 (omega (arith, length-append log_mark namespace, long))

module _ (IsRow : RowValue → Type 0) (namespace : List ℕ) (long : length namespace ≡ 33) where
  holds_begun : (bytes : List ℕ) → BeginsWith (new_log namespace) bytes → HoldsRowsTo IsRow namespace bytes [] 38
  holds_begun bytes (rest, parts) =
      let front = log_front namespace [] in
      let front_is : front ≡ 1 ∷ log_mark ++ namespace = append-nil (1 ∷ log_mark ++ namespace) in
      record {
        records = [];
        gate = 0;
        rest = rest;
        parts = parts ∙ append_assoc front (0 ∷ []) rest;
        closed = omega arith;
        fit = tt;
        rows_are = refl;
        place = omega (arith, ap length front_is, length-append log_mark namespace, long);
      }

  pub no_row_held : (c : List ℕ) → HoldsNoneOr (new_log namespace) c → HoldsNoRow IsRow namespace c
  no_row_held c (inl none) = inl none
  no_row_held c (inr begun) = inr (record { end = 38; to = holds_begun c begun })

  pub keeps_begun : (contents new : Option (List ℕ)) (images : List ℕ → Type 0) → new ≡ option_map (written 0 (new_log namespace)) contents → LeavesContents new images → KeepsFile IsRow new images 38 0 namespace []
  keeps_begun contents new images is settled = record {
    file = subst (λ (o : Option (List ℕ)). IfSome o (λ bytes. HoldsRowsTo IsRow namespace bytes [] 38)) (sym is) (file contents);
    counted = refl;
    settled = settled;
  }
    where
      file : (told : Option (List ℕ)) → IfSome (option_map (written 0 (new_log namespace)) told) (λ bytes. HoldsRowsTo IsRow namespace bytes [] 38)
      file None = tt
      file (Some bytes) = holds_begun (written 0 (new_log namespace) bytes) (drop (0 + length (new_log namespace)) bytes, refl)
