use Rattle.std.proofs.Common.{ap, ◌++◌, arith}
use Rattle.std.specs.Prelude.{codes, map, filter}
use Rattle.text_values.proofs.Separated.{from_first}
use Rattle.outcome_texts.specs.Differences.{has_other_count}
use Rattle.outcome_lines.specs.Json.{counts_object}
use Rattle.outcome_lines.proofs.json_difference.put_each_counts.Goals as goal

pub loop-state-init : goal.loop-state-init
loop-state-init c = (
  omega arith,
  ap (λ l. c.put_bytes.new.text.items ++ l)
      (from_first (codes ",") (map counts_object (filter has_other_count c.args.states.now))),
)
