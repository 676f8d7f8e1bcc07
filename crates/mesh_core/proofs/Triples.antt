-- Rows of the generator are triples, so an area includes them where its box does.
use Rattle.std.proofs.Common.{◌≡◌, ℕ, zero, suc, ◌<◌, ◌^◌, ◌/◌, ◌%◌, ◌==◌, Bool, true, false, if◌then◌else◌, List, [], ◌∷◌, ◌∙◌, cond, inr, filter, Contains, replicate, refl, ap, subst, arith}
use Rattle.std.specs.Cmp.{both_ways}
use Rattle.spelling.specs.Form.{AreBytes}
use Rattle.spelling.proofs.Lists.{All-append}
use Rattle.willow_path.specs.Key.{IsKey}
use Rattle.willow_path.specs.Path.{IsPart, IsPath}
use Rattle.willow_area.specs.Area.{IsArea, IsTriple}
use Rattle.willow_area.specs.AreaBox.{area_box}
use Rattle.willow_area.specs.declared.area.Area.{Area}
use Rattle.willow_area.proofs.Boxing.{area_box_means}
use Rattle.willow_entry.specs.Row.{RowValue}
use Rattle.willow_entry.proofs.Members.{contains_from_member, member_from_contains}
use Rattle.block_store.specs.InBox.{is_in}
use Rattle.cap_codec.specs.Rows.{row_of}
use Rattle.peer_listing.specs.Generator.{first_component, generated, generated_entry, generated_path, generator_writer}
use Rattle.peer_listing.specs.declared.generator.TheConstants.{GENERATED_ROWS}
use Rattle.mesh_core.specs.Areas.{has_row}
use Rattle.mesh_core.specs.Generated.{IsGenerated}

-- tests that agree on the items of a list keep the same of them
filter_same : {X : Type 0} (p q : X → Bool) (xs : List X) → ((x : X) → Contains xs x → p x ≡ q x) → filter p xs ≡ filter q xs
filter_same p q [] h = refl
filter_same p q (x ∷ xs) h =
    ap (λ b. cond b (x ∷ filter p xs) (filter p xs)) (h x (0, omega arith, refl))
    ∙ ap (λ l. cond (q x) (x ∷ l) l) (filter_same p q xs (λ y c. h y (contains_from_member (x ∷ xs) y (inr (member_from_contains xs y c)))))

-- ---- keys

repeated : (n b : ℕ) → b < 2 ^ 8 → AreBytes (replicate n b)
repeated zero b fits = tt
repeated (suc n) b fits = (fits, repeated n b fits)

writer_key : (s : ℕ) → s < 2 ^ 8 → IsKey (generator_writer s)
unfolding generator_writer
writer_key s fits = record {
  whole = refl;
  kind = omega arith;
  bytes_fit = (omega arith, All-append (λ b. b < 2 ^ 8) (replicate 31 0x55) (s ∷ []) (repeated 31 0x55 (omega arith)) (fits, tt));
}

-- ---- paths

first_fits : (i : ℕ) → IsPart (first_component i)
first_fits i = (omega arith, (omega arith, (omega arith, tt)))

either_path : (b : Bool) (i : ℕ) → IsPath (if b then first_component i ∷ [] else first_component i ∷ (i / 8 % 32 ∷ []) ∷ [])
either_path true i = record { few = omega arith; parts_fit = (first_fits i, tt); short = omega arith }
either_path false i = record { few = omega arith; parts_fit = (first_fits i, ((omega arith, (omega arith, tt)), tt)); short = omega arith }

path_fits : (i : ℕ) → IsPath (generated_path i)
unfolding generated_path
path_fits i = either_path (i % 50 == 49) i

-- ---- rows

abbrev IsTripleOf : RowValue → Type 0
IsTripleOf r = IsTriple r.entry.subspace r.entry.path r.entry.timestamp

generated_triple : (k : ℕ) → k < GENERATED_ROWS → IsTripleOf (row_of (generated k))
unfolding generated_entry
generated_triple k less = record { key = writer_key (k % 8) (omega arith); path_fits = path_fits k; time_fits = omega (arith, less) }

-- the box of an area includes such a row just where the area does
pub box_has : (area : Area) → IsArea area → (r : RowValue) → IsGenerated r → is_in (area_box area) r ≡ has_row area r
box_has area fits r made =
    let triple : IsTripleOf r = subst IsTripleOf made.2 (generated_triple made.0 made.1) in
    let means = area_box_means area fits r.entry.subspace r.entry.path r.entry.timestamp triple in
    both_ways (is_in (area_box area) r) (has_row area r) means.0 means.1

-- so both take the same of such rows
pub parts_same : (area : Area) → IsArea area → (rows : List RowValue) → ((r : RowValue) → Contains rows r → IsGenerated r) → filter (is_in (area_box area)) rows ≡ filter (has_row area) rows
parts_same area fits rows all = filter_same (is_in (area_box area)) (has_row area) rows (λ r c. box_has area fits r (all r c))
