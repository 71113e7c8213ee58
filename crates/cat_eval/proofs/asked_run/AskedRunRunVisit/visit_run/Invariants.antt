use Rattle.std.proofs.Common.{◌≡◌, ◌++◌, List, length}
use Rattle.cat_eval.specs.Runs.{IsAskedAt}
use Rattle.cat_machine.specs.Seen.{NamedValues, seen_run}
use Rattle.cat_eval.proofs.asked_run.AskedRunRunVisit.visit_run.Given as goal

abbrev pub invariant-loop-at : goal.invariant-loop-at
invariant-loop-at l = record {
  check : l.self.check ≡ l.initial.self.check;
  inputs : l.self.inputs ≡ l.initial.self.inputs;
  kept : l.self.kept ≡ l.initial.self.kept;
  at : (bases : List NamedValues)
      → IsAskedAt l.named l.initial.self.check.now l.initial.self.inputs.now l.initial.self.kept
      bases l.initial.self
      → IsAskedAt l.named l.initial.self.check.now l.initial.self.inputs.now l.initial.self.kept
      (bases ++ seen_run l.named (length bases) l.count l._at) l.self;
}
