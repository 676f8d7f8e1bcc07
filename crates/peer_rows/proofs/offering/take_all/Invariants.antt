use Rattle.std.proofs.Common.{◌≡◌, ℕ, List, map}
use Rattle.std.specs.Vec.Iter.{into_iter_items}
use Rattle.lms_core.specs.Use.{peer_rules}
use Rattle.cap_codec.specs.Rows.{RawValue}
use Rattle.auth_entry.specs.Authorised.{verdict}
use Rattle.peer_rows.proofs.Offered.{HasOffered}
use Rattle.peer_rows.proofs.offering.take_all.Given as goal

abbrev pub invariant-loop-judged : goal.invariant-loop-judged
invariant-loop-judged l =
    (namespace : List ℕ) (rows : List RawValue) → l.fn.verdicts.items ≡ map (verdict peer_rules namespace) rows → HasOffered namespace rows l.fn.log (into_iter_items l.judged-iterator) l.log
