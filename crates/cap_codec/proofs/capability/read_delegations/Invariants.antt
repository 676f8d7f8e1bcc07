use Rattle.std.proofs.Common.{◌≡◌, ◌-◌, length}
use Rattle.spelling.specs.Reading.{many_at}
use Rattle.spelling.proofs.Loop.{behind}
use Rattle.cap_codec.specs.Reading.{delegation_at}
use Rattle.cap_codec.proofs.Asking.{HasAsked}
use Rattle.cap_codec.proofs.capability.read_delegations.Given as goal

abbrev pub invariant-loop : goal.invariant-loop
invariant-loop l =
    (behind l.delegations.items (many_at delegation_at (l.count - l.counter) l.input) ≡ many_at delegation_at l.count l.fn.input) × (length l.delegations.items ≡ l.counter) × HasAsked l.fn.input l.input
