use Rattle.std.proofs.Common.{◌∙◌, arith}
use Rattle.peer_rows.proofs.DrilledRows.{drilled_none}
use Rattle.peer_rows.proofs.drilled.generated_logs.Goals as goal

pub both-init : goal.both-init
both-init g c =
    record {
      within = omega arith;
      checks = c.in_ok-checker.ensures ∙ c.generator_namespace.ensures;
      whole = drilled_none c.new-whole.result c.new-whole.ensures.empty;
      half = drilled_none c.new-half.result c.new-half.ensures.empty;
      whole_namespace = c.new-whole.ensures.namespace ∙ c.generator_namespace-2.ensures;
      half_namespace = c.new-half.ensures.namespace ∙ c.generator_namespace-3.ensures;
    }
