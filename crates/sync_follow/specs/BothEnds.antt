-- A caller's session and a server's, each of which is the other end of the other, in the words of the rules of sessions and of
-- exchanges. Hellos H, proofs P, what two hellos agree on A, boxes X, places T, items I, cuts C and causes to refuse F and G are
-- whatever the sessions have.
use Rattle.std.specs.Prelude.{◌≡◌, ℕ, List, ◌++◌, map, All, Some}
use mathlib.Core.List.{IsPrefix}
use Rattle.scheme_core.specs.Rules as scheme
use Rattle.willow_entry.specs.Row.{RowValue, HasCovering}
use Rattle.willow_entry.specs.declared.row.LogRow.{LogRow}
use Rattle.cap_codec.specs.Rows.{RawValue, IsRaw, row_of}
use Rattle.auth_entry.specs.Authorised.{AuthorisedValue}
use Rattle.auth_entry.specs.Rows.{entry_row, authorised_rows}
use Rattle.ns_cell.specs.Passes.{PassValue, IsPass, IsLater}
use Rattle.exchange_rules.specs.Rules.{Rules}
use Rattle.exchange_rules.specs.Premises.{IsDeciding, HasDisjointParts, CanCut}
use Rattle.exchange_rules.specs.Exchange.{exchange, Apart}
use Rattle.session_rules.specs.Reading.{out}
use Rattle.session_rules.specs.Rounds.{Meet}
use Rattle.session_rules.specs.Pairs.{Pair, calling, answering, caller_side, answerer_side, GreetEachOther}
use Rattle.session_rules.specs.Turns.{View, TakeTurns, CanReadTurns}
use Rattle.row_intake.specs.Kept.{IsPart}
use Rattle.sync_follow.specs.Tallies.{log_rows}

-- What the two brought and wrote: their hellos, their proofs and what they offer, by the rules of their exchange; the rows that
-- each offers to the other; the box of the area that both may read; and the bytes that each wrote.
pub record BothEnds (H P A F X T I G C : Type 0) : Type 0 where
  pub pair : Pair H P A F RowValue T I G
  pub rules : Rules RowValue X C
  pub view : View RowValue X C T I
  pub caller_rows : List RowValue
  pub server_rows : List RowValue
  pub box : X
  pub by_caller : List ℕ
  pub by_server : List ℕ

-- Each is the other end of the other.
-- `greet`: each accepts the other's hello and proof. `reads`: each read what the other wrote.
-- `turns`, `can_read`: they take the turns of the exchange of their rows over the box, and each can read the other's.
-- `apart`: its fingerprints tell rows apart. `deciding`, `disjoint`, `cuts`: its rules are lawful.
pub record AreEnds {H P A F X T I G C : Type 0} (e : BothEnds H P A F X T I G C) : Type 0 where
  pub greet : GreetEachOther e.pair
  pub reads : Meet (out (calling e.pair)) (out (answering e.pair)) e.by_caller e.by_server
  pub turns : TakeTurns e.view e.rules (caller_side e.pair) (answerer_side e.pair) e.caller_rows e.server_rows (Some e.box)
  pub can_read : CanReadTurns e.view (caller_side e.pair) (answerer_side e.pair) (exchange e.rules e.caller_rows e.server_rows (Some e.box))
  pub apart : Apart e.rules e.caller_rows e.server_rows e.box
  pub deciding : IsDeciding e.rules
  pub disjoint : HasDisjointParts e.rules
  pub cuts : CanCut e.rules e.caller_rows × CanCut e.rules e.server_rows

-- ---- what a session did to its pass

-- the pass before the session and behind it, and the log with which the session opened
pub record Session : Type 0 where
  pub before : PassValue AuthorisedValue
  pub opening : List (LogRow AuthorisedValue)
  pub after : PassValue AuthorisedValue

-- The session answered Ok, and was sent these rows.
-- `later`, `opened`: the pass is the one before, later, and had seen no more than the opening log, which it has seen now.
-- `rows`: the rows that were sent, read out. Some of those that are authorised came to the own list, in their order (`grew`), and
-- the log covers them all (`covers`).
pub record HasRun (rules : scheme.Rules) (namespace : List ℕ) (s : Session) (sent : List RowValue) : Type 0 where
  pub is_pass : IsPass entry_row s.before × IsPass entry_row s.after
  pub later : IsLater s.before s.after
  pub opened : IsPrefix s.before.seen s.opening × IsPrefix s.opening s.after.seen
  pub rows : List RawValue
  pub read_out : All IsRaw rows
  pub are_sent : map row_of rows ≡ sent
  pub grown : List (LogRow AuthorisedValue)
  pub grew : (s.after.own ≡ s.before.own ++ grown) × IsPart (log_rows grown) (authorised_rows rules namespace rows)
  pub covers : All (HasCovering (log_rows s.after.seen)) (authorised_rows rules namespace rows)
