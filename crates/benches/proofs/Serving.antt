-- A pass after several offers.
use Rattle.std.proofs.Common.{sym, refl, ◌∙◌, Result}
use Rattle.spelling.specs.declared.ending.End.{End}
use Rattle.willow_entry.specs.Row.{RowValue}
use Rattle.ns_state.specs.declared.live_log.LogFull.{LogFull}
use Rattle.ns_state.specs.declared.state.Told.{Told}
use Rattle.log_rule.proofs.Prefixes.{prefix_self, prefix_trans}
use Rattle.ns_cell.specs.Passes.{PassValue, IsLater}
use Rattle.ns_cell.specs.Answers.{IsOffered, offered, stored}
use Rattle.benches.specs.Served.{IsServed}

module _ {R : Type 0} where
  pub served_itself : (pass : PassValue R) → IsServed pass pass
  served_itself pass = record { later = record { cell = refl; number = refl; seen = prefix_self pass.seen; turns = prefix_self pass.turns }; own = prefix_self pass.own }

  pub served_more : (value : R → RowValue) (first before after : PassValue R) (row : R) (answer : Result Told (End LogFull)) → IsServed first before → IsLater before after → IsOffered value before row after answer → IsServed first after
  served_more value first before after row answer served later offer =
      record {
        later = record {
          cell = later.cell ∙ served.later.cell;
          number = later.number ∙ served.later.number;
          seen = prefix_trans first.seen before.seen after.seen served.later.seen later.seen;
          turns = prefix_trans first.turns before.turns after.turns served.later.turns later.turns;
        };
        own = prefix_trans first.own before.own after.own served.own (stored (offered before row) answer, sym offer.own);
      }
