-- How a side stands by what is due.
use Rattle.std.specs.Prelude.{ℕ, List, if◌then◌else◌}
use Rattle.sync_core.specs.Place.{Place}
use Rattle.session_rules.specs.Reading.{Stand, Waits, Over, Broken, Refused}
use Rattle.session_rules.specs.Session.{Opening, Proving, Talking, InGreeting, InTalk}
use Rattle.sync_link.specs.Places.{has_finished}
use Rattle.sync_link.specs.Sessions.{SessionStage, SessionCause}
use Rattle.sync_link.specs.Standing.{within}
use Rattle.sync_link.specs.declared.side.awaited.Cause.{Cause}
use Rattle.sync_link.specs.declared.side.awaited.Cause.TheVariants as causes
use Rattle.sync_link.specs.declared.side.awaited.Awaited.{Awaited}
use Rattle.sync_link.specs.declared.side.awaited.Awaited.TheVariants as awaited

-- a side of an exchange waits for an item, of which these bytes are held, or both are done
abbrev pub stand_in : Place → ℕ → List ℕ → Stand SessionStage SessionCause
stand_in place at held = if has_finished place.doing then Over else Waits (Talking (within place)) at held

abbrev pub stand_after : Cause → ℕ → Stand SessionStage SessionCause
stand_after causes.Bad at = Broken at
stand_after (causes.Hello cause) at = Refused (InGreeting cause)
stand_after (causes.Core cause) at = Refused (InTalk cause)

-- the message that is due begins at an offset, and these bytes of it are held
abbrev pub stand_of : {R : Type 0} → Awaited R → ℕ → List ℕ → Stand SessionStage SessionCause
stand_of awaited.Hello at held = Waits Opening at held
stand_of (awaited.Proof hello) at held = Waits (Proving hello) at held
stand_of (awaited.Items exchange) at held = stand_in exchange.core at held
stand_of (awaited.Nothing cause) at held = stand_after cause at
