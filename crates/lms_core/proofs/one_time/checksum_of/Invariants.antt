use Rattle.std.proofs.Common.{◌≡◌, ◌-◌, ◌*◌, ◌≤◌, take, sum_by}
use Rattle.lms_core.proofs.one_time.checksum_of.Given as goal

abbrev pub invariant-bytes : goal.invariant-bytes
invariant-bytes l = record {
  total : l.sum ≡ sum_by (λ b. 255 - b) (take l.byte-index l.hash);
  within : l.sum ≤ 255 * l.byte-index;
}
