-- How many bytes an entry's spelling has.
use Rattle.std.proofs.Common.{◌≡◌, ℕ, ◌+◌, ◌≤◌, List, [], ◌∷◌, ◌++◌, length, refl, arith}
use Rattle.std.specs.Int.{w64, to_be_bytes}
use Rattle.std.specs.List.{flat_map}
use Rattle.std.proofs.lemmas.List.{length-append}
use Rattle.willow_path.specs.Path.{IsPath, total}
use Rattle.willow_path.specs.PathSpelling.{part_spelling, path_spelling}
use Rattle.willow_path.specs.declared.limits.TheConstants.{MAX_PARTS, MAX_TOTAL}
use Rattle.willow_entry.specs.EntryForm.{entry_spelling, IsEntry}
use Rattle.willow_entry.specs.declared.entry.Entry.{Entry}

parts_long : (path : List (List ℕ)) → length (flat_map part_spelling path) ≡ length path + total path
parts_long [] = refl
parts_long (part ∷ path) = omega (arith, length-append (part_spelling part) (flat_map part_spelling path), parts_long path)

-- no path's spelling has more bytes
pub path_long : (path : List (List ℕ)) → IsPath path → length (path_spelling path) ≤ 1 + MAX_PARTS + MAX_TOTAL
path_long path fits = omega (arith, parts_long path, fits.few, fits.short)

-- two keys, the path, two numbers and a digest
pub entry_length : (e : Entry) → IsEntry e → length (entry_spelling e) ≡ 114 + length (path_spelling e.path)
unfolding entry_spelling
entry_length e fits =
    let numbers = to_be_bytes w64 e.timestamp ++ (to_be_bytes w64 e.length ++ e.digest.0) in
    omega (
      arith,
      length-append e.namespace (e.subspace ++ (path_spelling e.path ++ numbers)),
      length-append e.subspace (path_spelling e.path ++ numbers),
      length-append (path_spelling e.path) numbers,
      fits.namespace.whole,
      fits.subspace.whole,
      fits.digest.0,
    )
