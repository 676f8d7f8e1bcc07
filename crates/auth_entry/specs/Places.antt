-- Capabilities that stand in a list, each found by its bytes.
use Rattle.std.specs.Prelude.{◌≡◌, ℕ, List, map, slice_get, Option, Some}
use Rattle.std.specs.BTreeMap.{BTreeMap, get_by}
use Rattle.std.specs.Borrow.{Bor}
use Rattle.std.specs.Cmp.Lexicographic.{slice_cmp}
use Rattle.std.specs.Ordering.{nat_cmp}
use Rattle.mc_cap.specs.Forms.{capability_spelling}
use Rattle.mc_cap.specs.declared.capability.Capability.{Capability}
use Rattle.cap_codec.specs.Rows.{RawValue}

-- the capabilities that the rows carry
abbrev pub carried : List (Bor RawValue) → List Capability
carried rows = map (λ (row : Bor RawValue). row.now.token.capability) rows

-- the place that stands beside bytes
abbrev pub place_at : BTreeMap (Bor (List ℕ)) ℕ → Bor (List ℕ) → Option ℕ
place_at places bytes = get_by (λ (key : Bor (List ℕ)). slice_cmp nat_cmp bytes.now key.now) places

-- where bytes are found, a row whose capability they spell stands at that place
abbrev pub ArePlaces : List (Bor RawValue) → BTreeMap (Bor (List ℕ)) ℕ → Type 0
ArePlaces rows places = (bytes : Bor (List ℕ)) (at : ℕ) → place_at places bytes ≡ Some at → slice_get (map capability_spelling (carried rows)) at ≡ Some bytes.now
