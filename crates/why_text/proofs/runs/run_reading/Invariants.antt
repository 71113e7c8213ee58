use Rattle.std.proofs.Common.{take}
use Rattle.std.specs.List.{All}
use Rattle.why_text.specs.Origins.{RunReads}
use Rattle.why_text.proofs.runs.run_reading.Given as goal

abbrev pub invariant-loop-index : goal.invariant-loop-index
invariant-loop-index l = All (λ run. RunReads l.values run → ⊥) (take l.index l.runs)
