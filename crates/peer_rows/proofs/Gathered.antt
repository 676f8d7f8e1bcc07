-- How the rows of several reads go on, and how they end.
use Rattle.std.proofs.Common.{◌≡◌, ℕ, List, [], ◌++◌, sym, ap, subst, ◌∙◌, append_assoc, append-nil, arith}
use Rattle.willow_outside.specs.Facts.{SourceFacts}
use Rattle.cap_codec.specs.Rows.{RawValue}
use Rattle.peer_stage.specs.Stages.{IsReadSomewhat}
use Rattle.peer_stage.specs.declared.outcome.Stop.TheVariants as stop
use Rattle.peer_rows.specs.Coming.{HaveCome}
use Rattle.peer_rows.specs.Gathering.{StopsGathering}
use Rattle.peer_rows.specs.declared.reading.Reading.{Reading}
use Rattle.peer_rows.proofs.Coming.{come_somewhat}

-- no row came behind those
pub gathered_none : (old now : SourceFacts) (reading : Reading) (rows : List RawValue) → HaveCome old now reading rows → HaveCome old now reading (rows ++ [])
gathered_none old now reading rows h = subst (HaveCome old now reading) (sym (append-nil rows)) h

-- more came behind those that had
pub gathered_more : (old now : SourceFacts) (reading : Reading) (rows more next all : List RawValue) → all ≡ more ++ next → HaveCome old now reading ((rows ++ more) ++ next) → HaveCome old now reading (rows ++ all)
gathered_more old now reading rows more next all is h = subst (HaveCome old now reading) (append_assoc rows more next ∙ ap (λ (l : List RawValue). rows ++ l) (sym is)) h

-- no memory was found
pub gathering_unpaid : (old now new : SourceFacts) (reading : Reading) (rows : List RawValue) (room : ℕ) → HaveCome old now reading rows → IsReadSomewhat now new → StopsGathering old new rows room stop.NoMemory
gathering_unpaid old now new reading rows room h more = ([], omega arith, λ namespace had fits. come_somewhat old now reading rows h new more)
