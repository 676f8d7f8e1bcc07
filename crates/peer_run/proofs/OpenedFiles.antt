-- A log file that was opened.
use Rattle.std.proofs.Common.{◌≡◌, ◌∙◌, ◌<◌, ◌^◌, ℕ, false, List, map, length, Option, Some, None, inr, sym, ap, subst}
use Rattle.std.specs.Prelude.{All, IfSome, is_some}
use Rattle.std.proofs.lemmas.List.{length-map}
use Rattle.willow_outside.specs.Facts.{DiskFacts}
use Rattle.willow_entry.specs.Row.{RowValue}
use Rattle.cap_codec.specs.Rows.{IsRaw, IsRawRow, RawValue, row_of}
use Rattle.log_keeper.specs.Crashes.{KeepsRows}
use Rattle.log_keeper.specs.LogFile.{HoldsRowsTo}
use Rattle.log_keeper.specs.Opening.{IsReadWell}
use Rattle.peer_run.specs.LogFiles.{file_state}
use Rattle.peer_run.specs.LogOpening.{HasBegun, HeldRows}
use Rattle.peer_run.specs.declared.log_file.LogFile.{LogFile}

some_held : (n : List ℕ) (rows : List RowValue) (end : ℕ) (contents : Option (List ℕ)) → IfSome contents (λ bytes. HoldsRowsTo IsRawRow n bytes rows end) → IfSome contents (λ bytes. HeldRows n bytes rows)
some_held n rows end None holds = tt
some_held n rows end (Some bytes) holds = inr (record { end = end; to = holds })

pub read_file : {K : Type 0} (facts : K → DiskFacts) (may_leave : K → List ℕ → Type 0) (moment : K → ℕ) (left_since : K → ℕ → List ℕ → Type 0) (n : List ℕ) (disk : K) (file : LogFile K) (rows : List RawValue) → IsReadWell facts may_leave moment left_since disk file.keeper.disk
    → KeepsRows IsRawRow facts may_leave file.keeper n (map row_of rows) → (file.keeper.end < 2 ^ 62) × (file.keeper.broken ≡ false) → file.kept ≡ length rows → All IsRaw rows → HasBegun n (facts disk) (file_state facts file) rows
read_file facts may_leave moment left_since n disk file rows well keeps place kept raws =
    let many = length-map rows row_of in
    let same = well.unchanged.contents in
    record {
      read_out = raws;
      held = subst (λ (contents : Option (List ℕ)). IfSome contents (λ bytes. HeldRows n bytes (map row_of rows))) same (some_held n (map row_of rows) file.keeper.end (facts file.keeper.disk).contents keeps.file);
      holds = record { held = keeps.file; counted = kept ∙ sym many };
      told = ap (λ (contents : Option (List ℕ)). is_some contents) same;
      faults = well.faults;
      unbroken = place.1;
      low = record { low = place.0; known = kept ∙ (sym many ∙ sym keeps.counted) };
    }
