use Rattle.std.proofs.Common.{◌≡◌, ◌≤◌, ◌-◌, ◌++◌, List, length}
use Rattle.cat_eval.specs.Runs.{IsBodyAt}
use Rattle.cat_machine.specs.Seen.{NamedValues, seen_run}
use Rattle.cat_machine.specs.Values.{column_len}
use Rattle.cat_eval.proofs.body_run.BodyRunRunVisit.visit_run.Given as goal

abbrev pub invariant-runs : goal.invariant-runs
invariant-runs l = record {
  body : l.self.body ≡ l.initial.self.body;
  inputs : l.self.inputs ≡ l.initial.self.inputs;
  more : column_len l.initial.self.column ≤ column_len l.self.column;
  within : column_len l.self.column ≤ l.stop;
  at : (bases : List NamedValues)
      → IsBodyAt l.named l.initial.self.body.now l.initial.self.inputs.now bases l.initial.self
      → IsBodyAt l.named l.initial.self.body.now l.initial.self.inputs.now
      (bases
      ++ seen_run l.named (length bases) l.count (column_len l.self.column
      - column_len l.initial.self.column)) l.self;
}

abbrev pub decreases-runs : goal.decreases-runs
decreases-runs l = l.stop - column_len l.self.column
