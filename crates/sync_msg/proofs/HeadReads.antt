-- The reader of items that are no rows goes with their spelling, and so does that of frames.
use Rattle.std.proofs.Common.{◌≡◌, ℕ, zero, suc, ◌+◌, ◌<◌, ◌≤◌, ◌^◌, Bool, true, false, List, [], ◌∷◌, ◌++◌, length, refl, sym, ap, subst, arith, replicate}
use Rattle.std.specs.Prelude.{nat_eq, nat_le, nat_lt}
use Rattle.std.specs.List.{flat_map, AllByRecursion}
use Rattle.std.proofs.lemmas.Bool.{ltb-true, lt-ltb}
use Rattle.std.proofs.lemmas.List.{length-replicate}
use Rattle.std.specs.Int.{w32, to_be_bytes}
use Rattle.spelling.specs.Front.{Whole, Part, Wrong, ◌>>=◌}
use Rattle.spelling.specs.Form.{AreBytes, IsForm}
use Rattle.spelling.specs.Reader.{IsReader}
use Rattle.spelling.specs.Spelling.{byte_spelling, text_spelling, AreMany, AreSoManyBytes, IsText}
use Rattle.spelling.specs.Reading.{guard, byte_up_to, bytes_at, many_at}
use Rattle.spelling.proofs.Joining.{Follows, Reads, Reads-guard, Reads-then, Reads-last, Reads-made, Reads-when, any_follows, one_spelling}
use Rattle.spelling.proofs.Fields.{byte-reads, byte_follows, byte_up_to-reads, bytes-reads, u32_up_to-reads, u64-reads, zeros_are_bytes}
use Rattle.spelling.proofs.Repeated.{many-reads, text-reads}
use Rattle.spelling.proofs.Reader.{reader}
use Rattle.willow_path.specs.Key.{IsKey}
use Rattle.willow_path.specs.Path.{IsPath}
use Rattle.willow_path.proofs.PathReads.{key-reads, path-reads}
use Rattle.willow_area.specs.declared.cut.CutAt.{CutAt}
use Rattle.willow_area.specs.declared.cut.CutAt.TheVariants as cuts
use Rattle.willow_entry.specs.declared.frame.TheConstants.{MAX_FRAME}
use Rattle.sync_msg.specs.declared.item.Item.TheVariants.{First, Agree, Split, Parts, Entries, Rest, Row, EndTurn, Bye}
use Rattle.sync_msg.specs.declared.item.TheConstants.{MAX_ENTRIES, MAX_REST}
use Rattle.sync_msg.specs.declared.points.TheConstants.{MAX_POINTS}
use Rattle.sync_msg.specs.CutPoints.{IsPointOf, dimension, first_dimension}
use Rattle.sync_msg.specs.Items.{ItemValue, IsCutInParts, IsCut, IsHead, cut_spelling, item_spelling, cut_in_parts_spelling, point_spelling}
use Rattle.sync_msg.specs.ItemReading.{point_at, cut_at, split_at, part_point_at, points_at, counted_at, behind_dimension, cut_in_parts_at, behind_kind, head_at, body_at}

-- where nothing can stand, everything is wrong
Reads-none : {T : Type 0} (spell : T → List ℕ) → Reads (λ (bytes : List ℕ). Wrong) spell (λ _. ⊥)
Reads-none spell = record {
  takes = λ bytes x rest are e. absurd cc;
  again = λ x rest f. absurd f;
  more = λ bytes x rest tail e. absurd cc;
  wrong = λ bytes tail e. refl;
  part = λ bytes are e. absurd cc;
}

zeros : (n : ℕ) → AreSoManyBytes n (replicate n 0)
zeros n = (length-replicate {A = ℕ} n 0, zeros_are_bytes n)

-- ---- cuts

abbrev dimension_of : CutAt → ℕ
dimension_of (cuts.Subspace key) = 0
dimension_of (cuts.Path path) = 1
dimension_of (cuts.Time time) = 2

abbrev key_of : CutAt → List ℕ
key_of (cuts.Subspace key) = key
key_of (cuts.Path path) = []
key_of (cuts.Time time) = []

abbrev path_of : CutAt → List (List ℕ)
path_of (cuts.Subspace key) = []
path_of (cuts.Path path) = path
path_of (cuts.Time time) = []

abbrev IsPoint : ℕ → CutAt → Type 0
IsPoint zero at = IsKey (key_of at) × (at ≡ cuts.Subspace (key_of at))
IsPoint (suc zero) at = IsPath (path_of at) × (at ≡ cuts.Path (path_of at))
IsPoint (suc (suc other)) at = ⊥

point-reads : (dimension : ℕ) → Reads (point_at dimension) point_spelling (IsPoint dimension)
unfolding point_at
point-reads zero = Reads-when (Reads-last key_of cuts.Subspace key-reads (λ key. refl)) (λ at f. sym (ap point_spelling f.1)) (λ at f. f) (λ at f. f)
point-reads (suc zero) = Reads-when (Reads-last path_of cuts.Path path-reads (λ path. refl)) (λ at f. sym (ap point_spelling f.1)) (λ at f. f) (λ at f. f)
point-reads (suc (suc other)) = Reads-none point_spelling

point_told : (dimension : ℕ) (at : CutAt) → IsPoint dimension at → dimension_of at ≡ dimension
point_told zero at f = ap dimension_of f.1
point_told (suc zero) at f = ap dimension_of f.1
point_told (suc (suc other)) at f = absurd f

zero_key : IsKey (replicate 33 0)
zero_key = record { whole = (zeros 33).0; kind = omega arith; bytes_fit = (zeros 33).1 }

cut_same : (at : CutAt) → IsPoint (dimension_of at) at → dimension_of at ∷ point_spelling at ≡ cut_spelling at
cut_same (cuts.Subspace key) f = refl
cut_same (cuts.Path path) f = refl
cut_same (cuts.Time time) f = absurd f

cut_there : (at : CutAt) → IsPoint (dimension_of at) at → IsCut at
cut_there (cuts.Subspace key) f = f.0
cut_there (cuts.Path path) f = f.0
cut_there (cuts.Time time) f = f

cut_back : (at : CutAt) → IsCut at → (dimension_of at < 2 ^ 8) × IsPoint (dimension_of at) at
cut_back (cuts.Subspace key) f = (omega arith, (f, refl))
cut_back (cuts.Path path) f = (omega arith, (f, refl))
cut_back (cuts.Time time) f = absurd f

pub cut-reads : Reads cut_at cut_spelling IsCut
unfolding cut_at
cut-reads =
    Reads-when (Reads-then (λ dimension. point_at dimension.0 dimension.1) dimension_of byte-reads point-reads point_told (byte_follows 0 (cuts.Subspace (replicate 33 0)) (omega arith) (zero_key, refl)))
    (λ at f. cut_same at f.1) (λ at f. cut_there at f.1) cut_back

-- ---- splits

abbrev cut_of : ItemValue → CutAt
cut_of (First print) = cuts.Time 0
cut_of Agree = cuts.Time 0
cut_of (Split at lower upper) = at
cut_of (Parts points prints) = cuts.Time 0
cut_of (Entries count) = cuts.Time 0
cut_of (Rest count) = cuts.Time 0
cut_of (Row row) = cuts.Time 0
cut_of EndTurn = cuts.Time 0
cut_of Bye = cuts.Time 0

-- the fingerprint of a first item, or that of the lower part
abbrev print_of : ItemValue → List ℕ
print_of (First print) = print
print_of Agree = []
print_of (Split at lower upper) = lower
print_of (Parts points prints) = []
print_of (Entries count) = []
print_of (Rest count) = []
print_of (Row row) = []
print_of EndTurn = []
print_of Bye = []

abbrev upper_of : ItemValue → List ℕ
upper_of (First print) = []
upper_of Agree = []
upper_of (Split at lower upper) = upper
upper_of (Parts points prints) = []
upper_of (Entries count) = []
upper_of (Rest count) = []
upper_of (Row row) = []
upper_of EndTurn = []
upper_of Bye = []

from_lower : (at : CutAt) (lower : List ℕ) → Reads (λ bytes. bytes_at 32 bytes >>= λ upper. Whole (Split at lower upper.0) upper.1) upper_of
    (λ item. AreSoManyBytes 32 (upper_of item) × (item ≡ Split at lower (upper_of item)))
from_lower at lower = Reads-last upper_of (Split at lower) (bytes-reads 32) (λ upper. refl)

from_cut : (at : CutAt) → Reads (λ bytes. bytes_at 32 bytes >>= λ lower. bytes_at 32 lower.1 >>= λ upper. Whole (Split at lower.0 upper.0) upper.1) (λ item. print_of item ++ upper_of item)
    (λ item. AreSoManyBytes 32 (print_of item) × (AreSoManyBytes 32 (upper_of item) × (item ≡ Split at (print_of item) (upper_of item))))
from_cut at =
    Reads-then (λ (lower : List ℕ × List ℕ). bytes_at 32 lower.1 >>= λ upper. Whole (Split at lower.0 upper.0) upper.1) print_of (bytes-reads 32) (from_lower at) (λ lower item f. ap print_of f.1)
    (any_follows (bytes-reads 32) (λ lower f. (Split at lower (replicate 32 0), (zeros 32, refl))))

abbrev IsSplit : ItemValue → Type 0
IsSplit item = IsCut (cut_of item) × (AreSoManyBytes 32 (print_of item) × (AreSoManyBytes 32 (upper_of item) × (item ≡ Split (cut_of item) (print_of item) (upper_of item))))

split-reads : Reads split_at (λ item. cut_spelling (cut_of item) ++ (print_of item ++ upper_of item)) IsSplit
unfolding split_at
split-reads =
    Reads-then (λ (cut : CutAt × List ℕ). bytes_at 32 cut.1 >>= λ lower. bytes_at 32 lower.1 >>= λ upper. Whole (Split cut.0 lower.0 upper.0) upper.1) cut_of cut-reads from_cut (λ cut item f. ap cut_of f.1.1)
    (any_follows cut-reads (λ cut f. (Split cut (replicate 32 0) (replicate 32 0), (zeros 32, (zeros 32, refl)))))

-- ---- cuts in parts

abbrev points_of : ItemValue → List CutAt
points_of (First print) = []
points_of Agree = []
points_of (Split at lower upper) = []
points_of (Parts points prints) = points
points_of (Entries count) = []
points_of (Rest count) = []
points_of (Row row) = []
points_of EndTurn = []
points_of Bye = []

abbrev prints_of : ItemValue → List (List ℕ)
prints_of (First print) = []
prints_of Agree = []
prints_of (Split at lower upper) = []
prints_of (Parts points prints) = prints
prints_of (Entries count) = []
prints_of (Rest count) = []
prints_of (Row row) = []
prints_of EndTurn = []
prints_of Bye = []

abbrev time_of : CutAt → ℕ
time_of (cuts.Subspace key) = 0
time_of (cuts.Path path) = 0
time_of (cuts.Time time) = time

-- a point of a dimension, as it is read
abbrev IsReadOf : ℕ → CutAt → Type 0
IsReadOf zero at = IsKey (key_of at) × (at ≡ cuts.Subspace (key_of at))
IsReadOf (suc zero) at = IsPath (path_of at) × (at ≡ cuts.Path (path_of at))
IsReadOf (suc (suc zero)) at = (time_of at < 2 ^ 64) × (at ≡ cuts.Time (time_of at))
IsReadOf (suc (suc (suc other))) at = ⊥

read_is : (d : ℕ) (at : CutAt) → IsReadOf d at → IsPointOf d at
read_is zero (cuts.Subspace key) f = (refl, f.0)
read_is zero (cuts.Path path) f = absurd cc
read_is zero (cuts.Time time) f = absurd cc
read_is (suc zero) (cuts.Subspace key) f = absurd cc
read_is (suc zero) (cuts.Path path) f = (refl, f.0)
read_is (suc zero) (cuts.Time time) f = absurd cc
read_is (suc (suc zero)) (cuts.Subspace key) f = absurd cc
read_is (suc (suc zero)) (cuts.Path path) f = absurd cc
read_is (suc (suc zero)) (cuts.Time time) f = (refl, f.0)
read_is (suc (suc (suc other))) at f = absurd f

is_read : (d : ℕ) (at : CutAt) → IsPointOf d at → IsReadOf d at
is_read zero (cuts.Subspace key) f = (f.1, refl)
is_read zero (cuts.Path path) f = absurd (omega (arith, f.0))
is_read zero (cuts.Time time) f = absurd (omega (arith, f.0))
is_read (suc zero) (cuts.Subspace key) f = absurd (omega (arith, f.0))
is_read (suc zero) (cuts.Path path) f = (f.1, refl)
is_read (suc zero) (cuts.Time time) f = absurd (omega (arith, f.0))
is_read (suc (suc zero)) (cuts.Subspace key) f = absurd (omega (arith, f.0))
is_read (suc (suc zero)) (cuts.Path path) f = absurd (omega (arith, f.0))
is_read (suc (suc zero)) (cuts.Time time) f = (f.1, refl)
is_read (suc (suc (suc other))) (cuts.Subspace key) f = absurd (omega (arith, f.0))
is_read (suc (suc (suc other))) (cuts.Path path) f = absurd (omega (arith, f.0))
is_read (suc (suc (suc other))) (cuts.Time time) f = absurd (omega (arith, f.0))

read-point : (d : ℕ) → Reads (part_point_at d) point_spelling (IsReadOf d)
unfolding part_point_at
read-point zero = Reads-when (Reads-last key_of cuts.Subspace key-reads (λ key. refl)) (λ at f. sym (ap point_spelling f.1)) (λ at f. f) (λ at f. f)
read-point (suc zero) = Reads-when (Reads-last path_of cuts.Path path-reads (λ path. refl)) (λ at f. sym (ap point_spelling f.1)) (λ at f. f) (λ at f. f)
read-point (suc (suc zero)) = Reads-when (Reads-last time_of cuts.Time u64-reads (λ time. refl)) (λ at f. sym (ap point_spelling f.1)) (λ at f. f) (λ at f. f)
read-point (suc (suc (suc other))) = Reads-none point_spelling

part_point-reads : (d : ℕ) → Reads (part_point_at d) point_spelling (IsPointOf d)
part_point-reads d = Reads-when (read-point d) (λ at f. refl) (read_is d) (is_read d)

copies : {A : Type 0} (fits : A → Type 0) (n : ℕ) (x : A) → fits x → AreMany fits n (replicate n x)
copies {A} fits n x f = (length-replicate {A = A} n x, all n)
  where
    all : (n : ℕ) → AllByRecursion fits (replicate n x)
    all zero = tt
    all (suc n) = (f, all n)

-- points and prints that were read, so many
abbrev AreRead : ℕ → ℕ → ItemValue → Type 0
AreRead d n item = AreMany (IsPointOf d) n (points_of item) × (AreMany (AreSoManyBytes 32) (n + 1) (prints_of item) × (item ≡ Parts (points_of item) (prints_of item)))

points-reads : (d n : ℕ) → Reads (points_at d n) (λ item. flat_map point_spelling (points_of item) ++ flat_map (λ print. print) (prints_of item)) (AreRead d n)
unfolding points_at
points-reads d n =
    let point = many-reads n (part_point-reads d) in
    let print = many-reads (n + 1) (bytes-reads 32) in
    Reads-then (λ (points : List CutAt × List ℕ). many_at (bytes_at 32) (n + 1) points.1 >>= λ prints. Whole (Parts points.0 prints.0) prints.1) points_of point
    (λ points. Reads-last prints_of (Parts points) print (λ prints. refl)) (λ points item f. ap points_of f.1)
    (any_follows point (λ points f. (Parts points (replicate (n + 1) (replicate 32 0)), (copies (AreSoManyBytes 32) (n + 1) (replicate 32 0) (zeros 32), refl))))

-- where a byte up to a limit is not there yet, one within it can be
up_to_follows : {T : Type 0} {fits_next : ℕ → T → Type 0} (limit b : ℕ) (t : T) → b ≤ limit → b < 2 ^ 8 → fits_next b t → (bytes : List ℕ) → AreBytes bytes → byte_up_to limit bytes ≡ Part → Follows byte_spelling (λ n. (n ≤ limit) × (n < 2 ^ 8)) fits_next bytes
up_to_follows limit b t few lt f [] are e = record { first = record { value = b; more = b ∷ []; fits_value = (few, lt); parts = refl }; next = t; fits_behind = f }
up_to_follows {T} {fits_next} limit b t few lt f (c ∷ bytes) are e = by_test (nat_le c limit) e
  where
    by_test : (test : Bool) → guard test (Whole c bytes) ≡ Part → Follows byte_spelling (λ n. (n ≤ limit) × (n < 2 ^ 8)) fits_next (c ∷ bytes)
    by_test true e = absurd cc
    by_test false e = absurd cc

-- some points, with their number in front
abbrev AreCounted : ℕ → ItemValue → Type 0
AreCounted d item =
    ((length (points_of item) ≤ MAX_POINTS) × (length (points_of item) < 2 ^ 8)) × ((nat_lt 0 (length (points_of item)) ≡ true) × AreRead d (length (points_of item)) item)

abbrev one_point : CutAt → ItemValue
one_point at = Parts (at ∷ []) (replicate 2 (replicate 32 0))

one_read : (d : ℕ) (at : CutAt) → IsPointOf d at → (nat_lt 0 1 ≡ true) × AreRead d 1 (one_point at)
one_read d at f = (refl, ((refl, (f, tt)), (copies (AreSoManyBytes 32) 2 (replicate 32 0) (zeros 32), refl)))

-- a point of each dimension that there is
record HasPointOf (d : ℕ) : Type 0 where
  point : CutAt
  fits : IsPointOf d point

counted-reads : (d : ℕ) → HasPointOf d → Reads (counted_at d) (λ item. length (points_of item) ∷ flat_map point_spelling (points_of item) ++ flat_map (λ print. print) (prints_of item)) (AreCounted d)
unfolding counted_at
counted-reads d some =
    Reads-then (λ (count : ℕ × List ℕ). guard (nat_lt 0 count.0) (points_at d count.0 count.1)) (λ item. length (points_of item)) (byte_up_to-reads MAX_POINTS)
    (λ n. Reads-guard (nat_lt 0 n) (points-reads d n)) (λ n item f. f.1.0.0)
    (up_to_follows MAX_POINTS 1 (one_point some.point) (omega arith) (omega arith) (one_read d some.point some.fits))

empty_path : IsPath []
empty_path = record { few = omega arith; parts_fit = tt; short = omega arith }

abbrev IsBehindDimension : ℕ → ItemValue → Type 0
IsBehindDimension zero item = AreCounted 0 item
IsBehindDimension (suc zero) item = AreCounted 1 item
IsBehindDimension (suc (suc zero)) item = AreCounted 2 item
IsBehindDimension (suc (suc (suc other))) item = ⊥

abbrev behind_dimension_spelling : ItemValue → List ℕ
behind_dimension_spelling item = length (points_of item) ∷ flat_map point_spelling (points_of item) ++ flat_map (λ print. print) (prints_of item)

dimension-reads : (d : ℕ) → Reads (behind_dimension d) behind_dimension_spelling (IsBehindDimension d)
unfolding behind_dimension
dimension-reads zero = counted-reads 0 (record { point = cuts.Subspace (replicate 33 0); fits = (refl, zero_key) })
dimension-reads (suc zero) = counted-reads 1 (record { point = cuts.Path []; fits = (refl, empty_path) })
dimension-reads (suc (suc zero)) = counted-reads 2 (record { point = cuts.Time 0; fits = (refl, omega arith) })
dimension-reads (suc (suc (suc other))) = Reads-none behind_dimension_spelling

-- points that were read are of the dimension
told_first : (d : ℕ) (points : List CutAt) → nat_lt 0 (length points) ≡ true → AllByRecursion (IsPointOf d) points → first_dimension points ≡ d
told_first d [] some all = absurd cc
told_first d (at ∷ points) some all = all.0.0

dimension_told : (d : ℕ) (item : ItemValue) → IsBehindDimension d item → first_dimension (points_of item) ≡ d
dimension_told zero item f = told_first 0 (points_of item) f.1.0 f.1.1.0.1
dimension_told (suc zero) item f = told_first 1 (points_of item) f.1.0 f.1.1.0.1
dimension_told (suc (suc zero)) item f = told_first 2 (points_of item) f.1.0 f.1.1.0.1
dimension_told (suc (suc (suc other))) item f = absurd f

abbrev IsPartsItem : ItemValue → Type 0
IsPartsItem item = (first_dimension (points_of item) < 2 ^ 8) × IsBehindDimension (first_dimension (points_of item)) item

parts-reads : Reads cut_in_parts_at (λ item. first_dimension (points_of item) ∷ behind_dimension_spelling item) IsPartsItem
unfolding cut_in_parts_at
parts-reads =
    Reads-then (λ dimension. behind_dimension dimension.0 dimension.1) (λ item. first_dimension (points_of item)) byte-reads dimension-reads dimension_told
    (byte_follows 0 (one_point (cuts.Subspace (replicate 33 0))) (omega arith) ((omega arith, omega arith), one_read 0 (cuts.Subspace (replicate 33 0)) (refl, zero_key)))

-- what was read behind a dimension
record IsReadParts (item : ItemValue) : Type 0 where
  points : List CutAt
  prints : List (List ℕ)
  same : item ≡ Parts points prints
  fits : IsCutInParts points prints

counted_parts : (d : ℕ) (item : ItemValue) → first_dimension (points_of item) ≡ d → AreCounted d item → IsReadParts item
counted_parts d item e f = record {
  points = points_of item;
  prints = prints_of item;
  same = f.1.1.1.1;
  fits = ((ltb-true 0 (length (points_of item)) f.1.0, (f.0.0, subst (λ k. AllByRecursion (IsPointOf k) (points_of item)) (sym e) f.1.1.0.1)), (f.1.1.1.0.0, f.1.1.1.0.1));
}

read_parts_of : (d : ℕ) (item : ItemValue) → first_dimension (points_of item) ≡ d → IsBehindDimension d item → IsReadParts item
read_parts_of zero item e f = counted_parts 0 item e f
read_parts_of (suc zero) item e f = counted_parts 1 item e f
read_parts_of (suc (suc zero)) item e f = counted_parts 2 item e f
read_parts_of (suc (suc (suc other))) item e f = absurd f

parts_item : (item : ItemValue) → IsPartsItem item → IsReadParts item
parts_item item f = read_parts_of (first_dimension (points_of item)) item refl f.1

parts_there : (points : List CutAt) (prints : List (List ℕ)) → IsPartsItem (Parts points prints) → IsCutInParts points prints
parts_there points prints f =
    let r = parts_item (Parts points prints) f in
    subst (λ p. IsCutInParts (points_of p) (prints_of p)) (sym r.same) r.fits

counted_back : (d : ℕ) (points : List CutAt) (prints : List (List ℕ)) → first_dimension points ≡ d → IsCutInParts points prints → AreCounted d (Parts points prints)
counted_back d points prints e f =
    ((f.0.1.0, omega (arith, f.0.1.0)), (lt-ltb 0 (length points) f.0.0, ((refl, subst (λ k. AllByRecursion (IsPointOf k) points) e f.0.1.1), ((f.1.0, f.1.1), refl))))

low_dimension : (at : CutAt) → dimension at ≤ 2
low_dimension (cuts.Subspace key) = omega arith
low_dimension (cuts.Path path) = omega arith
low_dimension (cuts.Time time) = omega arith

first_low : (points : List CutAt) → 0 < length points → first_dimension points ≤ 2
first_low [] some = absurd (omega arith)
first_low (at ∷ points) some = low_dimension at

back_by : (d : ℕ) (points : List CutAt) (prints : List (List ℕ)) → first_dimension points ≡ d → d ≤ 2 → IsCutInParts points prints → IsBehindDimension d (Parts points prints)
back_by zero points prints e low f = counted_back 0 points prints e f
back_by (suc zero) points prints e low f = counted_back 1 points prints e f
back_by (suc (suc zero)) points prints e low f = counted_back 2 points prints e f
back_by (suc (suc (suc other))) points prints e low f = absurd (omega (arith, low))

parts_back : (points : List CutAt) (prints : List (List ℕ)) → IsCutInParts points prints → IsPartsItem (Parts points prints)
parts_back points prints f =
    let low = first_low points f.0.0 in
    (omega (arith, low), back_by (first_dimension points) points prints refl low f)

-- ---- kinds

abbrev kind_of : ItemValue → ℕ
kind_of (First print) = 1
kind_of Agree = 2
kind_of (Split at lower upper) = 3
kind_of (Parts points prints) = 8
kind_of (Entries count) = 4
kind_of (Rest count) = 5
kind_of (Row row) = 0
kind_of EndTurn = 6
kind_of Bye = 7

abbrev count_of : ItemValue → ℕ
count_of (First print) = 0
count_of Agree = 0
count_of (Split at lower upper) = 0
count_of (Parts points prints) = 0
count_of (Entries count) = count
count_of (Rest count) = count
count_of (Row row) = 0
count_of EndTurn = 0
count_of Bye = 0

-- what stands behind the kind
abbrev behind_spelling : ItemValue → List ℕ
behind_spelling (First print) = print
behind_spelling Agree = []
behind_spelling (Split at lower upper) = cut_spelling at ++ (lower ++ upper)
behind_spelling (Parts points prints) = cut_in_parts_spelling points prints
behind_spelling (Entries count) = count ∷ []
behind_spelling (Rest count) = to_be_bytes w32 count
behind_spelling (Row row) = []
behind_spelling EndTurn = []
behind_spelling Bye = []

-- what is read is spelled so
parts_said : (item : ItemValue) → IsPartsItem item → first_dimension (points_of item) ∷ behind_dimension_spelling item ≡ behind_spelling item
parts_said item f = let r = parts_item item f in subst (λ p. first_dimension (points_of p) ∷ behind_dimension_spelling p ≡ behind_spelling p) (sym r.same) refl

abbrev IsOfKind : ℕ → ℕ → ItemValue → Type 0
IsOfKind version zero item = ⊥
IsOfKind version (suc zero) item = AreSoManyBytes 32 (print_of item) × (item ≡ First (print_of item))
IsOfKind version (suc (suc zero)) item = item ≡ Agree
IsOfKind version (suc (suc (suc zero))) item = (nat_eq version 1 ≡ true) × IsSplit item
IsOfKind version (suc (suc (suc (suc zero)))) item = ((count_of item ≤ MAX_ENTRIES) × (count_of item < 2 ^ 8)) × (item ≡ Entries (count_of item))
IsOfKind version (suc (suc (suc (suc (suc zero))))) item = ((count_of item ≤ MAX_REST) × (count_of item < 2 ^ 32)) × (item ≡ Rest (count_of item))
IsOfKind version (suc (suc (suc (suc (suc (suc zero)))))) item = item ≡ EndTurn
IsOfKind version (suc (suc (suc (suc (suc (suc (suc zero))))))) item = item ≡ Bye
IsOfKind version (suc (suc (suc (suc (suc (suc (suc (suc zero)))))))) item = (nat_eq version 2 ≡ true) × IsPartsItem item
IsOfKind version (suc (suc (suc (suc (suc (suc (suc (suc (suc other))))))))) item = ⊥

kind-reads : (version kind : ℕ) → Reads (behind_kind version kind) behind_spelling (IsOfKind version kind)
unfolding behind_kind
kind-reads version zero = Reads-none behind_spelling
kind-reads version (suc zero) = Reads-when (Reads-last print_of First (bytes-reads 32) (λ print. refl)) (λ item f. sym (ap behind_spelling f.1)) (λ item f. f) (λ item f. f)
kind-reads version (suc (suc zero)) = Reads-when (Reads-made Agree) (λ item f. sym (ap behind_spelling f)) (λ item f. f) (λ item f. f)
kind-reads version (suc (suc (suc zero))) = Reads-when (Reads-guard (nat_eq version 1) split-reads) (λ item f. sym (ap behind_spelling f.1.1.1.1)) (λ item f. f) (λ item f. f)
kind-reads version (suc (suc (suc (suc zero)))) = Reads-when (Reads-last count_of Entries (byte_up_to-reads MAX_ENTRIES) (λ count. refl)) (λ item f. sym (ap behind_spelling f.1)) (λ item f. f) (λ item f. f)
kind-reads version (suc (suc (suc (suc (suc zero))))) = Reads-when (Reads-last count_of Rest (u32_up_to-reads MAX_REST (omega arith)) (λ count. refl)) (λ item f. sym (ap behind_spelling f.1)) (λ item f. f) (λ item f. f)
kind-reads version (suc (suc (suc (suc (suc (suc zero)))))) = Reads-when (Reads-made EndTurn) (λ item f. sym (ap behind_spelling f)) (λ item f. f) (λ item f. f)
kind-reads version (suc (suc (suc (suc (suc (suc (suc zero))))))) = Reads-when (Reads-made Bye) (λ item f. sym (ap behind_spelling f)) (λ item f. f) (λ item f. f)
kind-reads version (suc (suc (suc (suc (suc (suc (suc (suc zero)))))))) = Reads-when (Reads-guard (nat_eq version 2) parts-reads) (λ item f. parts_said item f.1) (λ item f. f) (λ item f. f)
kind-reads version (suc (suc (suc (suc (suc (suc (suc (suc (suc other))))))))) = Reads-none behind_spelling

kind_told : (version kind : ℕ) (item : ItemValue) → IsOfKind version kind item → kind_of item ≡ kind
kind_told version zero item f = absurd f
kind_told version (suc zero) item f = ap kind_of f.1
kind_told version (suc (suc zero)) item f = ap kind_of f
kind_told version (suc (suc (suc zero))) item f = ap kind_of f.1.1.1.1
kind_told version (suc (suc (suc (suc zero)))) item f = ap kind_of f.1
kind_told version (suc (suc (suc (suc (suc zero))))) item f = ap kind_of f.1
kind_told version (suc (suc (suc (suc (suc (suc zero)))))) item f = ap kind_of f
kind_told version (suc (suc (suc (suc (suc (suc (suc zero))))))) item f = ap kind_of f
kind_told version (suc (suc (suc (suc (suc (suc (suc (suc zero)))))))) item f = ap kind_of (parts_item item f.1).same
kind_told version (suc (suc (suc (suc (suc (suc (suc (suc (suc other))))))))) item f = absurd f

head_same : (version : ℕ) (item : ItemValue) → IsOfKind version (kind_of item) item → kind_of item ∷ behind_spelling item ≡ item_spelling item
head_same version (First print) f = refl
head_same version Agree f = refl
head_same version (Split at lower upper) f = refl
head_same version (Parts points prints) f = refl
head_same version (Entries count) f = refl
head_same version (Rest count) f = refl
head_same version (Row row) f = absurd f
head_same version EndTurn f = refl
head_same version Bye f = refl

head_there : (version : ℕ) (item : ItemValue) → IsOfKind version (kind_of item) item → IsHead version item
head_there version (First print) f = f.0
head_there version Agree f = tt
head_there version (Split at lower upper) f = (f.0, (f.1.0, (f.1.1.0, f.1.1.1.0)))
head_there version (Parts points prints) f = (f.0, parts_there points prints f.1)
head_there version (Entries count) f = f.0.0
head_there version (Rest count) f = f.0.0
head_there version (Row row) f = f
head_there version EndTurn f = tt
head_there version Bye f = tt

head_back : (version : ℕ) (item : ItemValue) → IsHead version item → (kind_of item < 2 ^ 8) × IsOfKind version (kind_of item) item
head_back version (First print) f = (omega arith, (f, refl))
head_back version Agree f = (omega arith, refl)
head_back version (Split at lower upper) f = (omega arith, (f.0, (f.1.0, (f.1.1.0, (f.1.1.1, refl)))))
head_back version (Parts points prints) f = (omega arith, (f.0, parts_back points prints f.1))
head_back version (Entries count) f = (omega arith, ((f, omega (arith, f)), refl))
head_back version (Rest count) f = (omega arith, ((f, omega (arith, f)), refl))
head_back version (Row row) f = absurd f
head_back version EndTurn f = (omega arith, refl)
head_back version Bye f = (omega arith, refl)

pub head-reads : (version : ℕ) → Reads (head_at version) item_spelling (IsHead version)
unfolding head_at
head-reads version =
    Reads-when (Reads-then (λ kind. behind_kind version kind.0 kind.1) kind_of byte-reads (kind-reads version) (kind_told version) (byte_follows 2 Agree (omega arith) refl))
    (λ item f. head_same version item f.1) (λ item f. head_there version item f.1) (head_back version)

pub head_reader : (version : ℕ) → IsReader (head_at version) item_spelling (IsHead version)
head_reader version = reader (head-reads version)

pub head_form : (version : ℕ) → IsForm item_spelling (IsHead version)
head_form version = one_spelling (head-reads version)

-- ---- frames

pub body-reads : Reads body_at (text_spelling (to_be_bytes w32)) (IsText MAX_FRAME)
unfolding body_at
body-reads = text-reads MAX_FRAME (omega arith) (u32_up_to-reads MAX_FRAME (omega arith))

pub body_reader : IsReader body_at (text_spelling (to_be_bytes w32)) (IsText MAX_FRAME)
body_reader = reader body-reads
