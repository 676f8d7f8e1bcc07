-- From the log of an input to its image and numbers.
use Rattle.std.proofs.Common.{◌≡◌, ℕ, List, [], sym, ap, ◌∙◌, subst}
use Rattle.std.specs.List.{AllByRecursion}
use Rattle.willow_outside.specs.Facts.{SourceFacts}
use Rattle.willow_entry.specs.Frame.{HasFrame}
use Rattle.willow_entry.specs.Row.{live}
use Rattle.auth_entry.specs.Authorised.{AuthorisedValue}
use Rattle.peer_image.specs.Image.{image}
use Rattle.peer_rows.specs.declared.log.Log.{Log}
use Rattle.auth_entry.specs.Rows.{entry_row}
use Rattle.peer_rows.specs.Logged.{authorised_rows, live_rows, stored_rows}
use Rattle.peer_rows.specs.Reading.{IsLogRead}
use Rattle.peer_rows.specs.Join.{IsJoinRead}
use Rattle.peer_rows.proofs.Framed.{live_framed}
use Rattle.peer_rows.proofs.Taken.{taken_live}

module _ (n : List ℕ) (i i' : SourceFacts) (log : Log) (shown : List AuthorisedValue) (h : IsLogRead n [] i i' log) (same : stored_rows shown ≡ live_rows log.kept) where
  held : stored_rows shown ≡ live (authorised_rows n h.rows)
  held = same ∙ taken_live entry_row (authorised_rows n h.rows) log.kept h.whole.is_log.taken

  pub shown_framed : AllByRecursion HasFrame (stored_rows shown)
  shown_framed = subst (AllByRecursion HasFrame) (sym held) (live_framed n h.rows h.frames.fit)

  pub is_join : IsJoinRead n i i' (image n (stored_rows shown)) log.counts
  is_join = record {
    bytes = h.bytes;
    read = h.read;
    join = record {
      rows = h.rows;
      frames = h.frames;
      fits_log = h.whole.fits_log;
      counted = h.whole.is_log.counted;
      is_image = ap (image n) held;
    };
  }
