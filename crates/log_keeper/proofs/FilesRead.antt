-- The keeper of a file that was read.
use Rattle.std.proofs.Common.{◌≡◌, ℕ, ◌<◌, ◌≤◌, ◌^◌, List, length, map, Option, Some, None, IfSome, Ok, Vec, false, sym, subst, arith}
use Rattle.std.specs.declared.alloc.Global.{Global}
use Rattle.std.proofs.lemmas.List.{length-map}
use Rattle.willow_entry.specs.Row.{RowValue}
use Rattle.willow_outside.specs.Disks.{LeavesContents}
use Rattle.log_keeper.specs.Crashes.{KeepsFile}
use Rattle.log_keeper.specs.LogFile.{HoldsRowsTo}
use Rattle.log_keeper.specs.Readings.{ReadsFile}
use Rattle.log_keeper.specs.Sound.{IsSoundKeeper}

module _ {R : Type 0} (IsRow : RowValue → Type 0) (value : R → RowValue) (namespace : List ℕ) (images : List ℕ → Type 0) (rows : Vec R Global) (end count : ℕ) (contents new : Option (List ℕ)) where
  file_read : (told : Option (List ℕ)) → IfSome told (ReadsFile IsRow value namespace (Ok (Some (rows, end)))) → IfSome told (λ bytes. HoldsRowsTo IsRow namespace bytes (map value rows.items) end)
  file_read None reads = tt
  file_read (Some bytes) reads = reads.1

  pub opened_keeps : IfSome contents (ReadsFile IsRow value namespace (Ok (Some (rows, end)))) → new ≡ contents → LeavesContents new images → count ≡ length rows.items → KeepsFile IsRow new images end count namespace (map value rows.items)
  opened_keeps reads same settled counts = record {
    file = subst (λ (o : Option (List ℕ)). IfSome o (λ bytes. HoldsRowsTo IsRow namespace bytes (map value rows.items) end)) (sym same) (file_read contents reads);
    counted = omega (arith, counts, length-map rows.items value);
    settled = settled;
  }

  pub opened_sound : IfSome contents (ReadsFile IsRow value namespace (Ok (Some (rows, end)))) → (length rows.items ≤ end) × (end < 2 ^ 62) → new ≡ contents → LeavesContents new images → count ≡ length rows.items → IsSoundKeeper IsRow new images end count false
  opened_sound reads within same settled counts = record {
    few = omega (arith, within.0, counts);
    keeps = λ unbroken. (namespace, map value rows.items, opened_keeps reads same settled counts);
  }
