-- How an image of version 2 that is read in parts goes on.
use Rattle.std.proofs.Common.{◌≡◌, ℕ, ◌<◌, ◌^◌, Bool, true, List, [], ◌++◌, length}
use Rattle.std.specs.List.{list_all}
use Rattle.mc_cap.specs.declared.capability.Capability.{Capability}
use Rattle.cap_codec.specs.Rows.{RawValue}
use Rattle.peer_image.specs.declared.known.ImageHead.{ImageHead}
use Rattle.peer_image.specs.Image.{trailer}
use Rattle.peer_image.specs.ImageTwoParts.{AreMarked, IsPartTwo, RowsSo}
use Rattle.peer_image.specs.ImageTwoReading.{AreToldInFront, IsImageHead, IsImageTwo, head_two_spelling}
use Rattle.peer_image.proofs.TwoReading.{image_from, rows_more, rows_none}

-- behind a head, all capabilities and these rows, which tell the marked ones, these bytes are left
pub record IsFrontRows (bytes : List ℕ) (h : ImageHead) (told : List Capability) (rows : List RawValue) (marks : List Bool) (left : List ℕ) : Type 0 where
  pub behind : List ℕ
  pub middle : List ℕ
  pub none : List Bool
  pub head_fits : IsImageHead h
  pub parts : bytes ≡ head_two_spelling h ++ behind
  pub are_told : AreToldInFront behind h.count told middle
  pub all : length told ≡ h.count
  pub unset : AreMarked none (length told) []
  pub so : RowsSo told middle none rows marks left

-- behind the capabilities no row was read
pub front_rows_none : (bytes : List ℕ) (h : ImageHead) (behind : List ℕ) (told : List Capability) (middle : List ℕ) (marks : List Bool) → IsImageHead h → bytes ≡ head_two_spelling h ++ behind → AreToldInFront behind h.count told middle → length told ≡ h.count
    → AreMarked marks (length told) [] → IsFrontRows bytes h told [] marks middle
front_rows_none bytes h behind told middle marks fits parts are all unset = record {
  behind = behind;
  middle = middle;
  none = marks;
  head_fits = fits;
  parts = parts;
  are_told = are;
  all = all;
  unset = unset;
  so = rows_none told middle marks;
}

-- one part more
pub front_rows_on : (bytes : List ℕ) (h : ImageHead) (told : List Capability) (rows : List RawValue) (marks : List Bool) (left : List ℕ) (most : ℕ) (more : List RawValue) (new : List Bool) (rest : List ℕ) → IsFrontRows bytes h told rows marks left
    → IsPartTwo told left most marks more new rest → IsFrontRows bytes h told (rows ++ more) new rest
front_rows_on bytes h told rows marks left most more new rest f p = record {
  behind = f.behind;
  middle = f.middle;
  none = f.none;
  head_fits = f.head_fits;
  parts = f.parts;
  are_told = f.are_told;
  all = f.all;
  unset = f.unset;
  so = rows_more told f.middle f.none rows marks left more new rest f.so p.so;
}

-- there is a mark for each capability
pub marks_long : (bytes : List ℕ) (h : ImageHead) (told : List Capability) (rows : List RawValue) (marks : List Bool) (left : List ℕ) → IsFrontRows bytes h told rows marks left → length marks ≡ length told
marks_long bytes h told rows marks left f = (f.so.marked [] f.unset).long

-- where the end is left and all capabilities are marked, it is an image of these rows
pub image_of_rows : (bytes : List ℕ) (h : ImageHead) (told : List Capability) (rows : List RawValue) (marks : List Bool) (left : List ℕ) (flags : List Bool) (count : ℕ) → IsFrontRows bytes h told rows marks left → flags ≡ marks → count ≡ length rows
    → (count < 2 ^ 32) × (left ≡ trailer count) × (list_all (λ x. x) flags ≡ true) → IsImageTwo bytes h.namespace rows
image_of_rows bytes h told rows marks left flags count f flags_are count_is ends =
    image_from bytes h f.behind told f.middle f.none rows marks left f.head_fits f.parts f.are_told f.all f.unset f.so flags count flags_are count_is ends
