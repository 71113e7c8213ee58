use Rattle.bench_parts.proofs.Numbering.{AreMade}
use Rattle.bench_parts.proofs.jobs.outputs_of.Given as goal

abbrev pub invariant-loop-value : goal.invariant-loop-value
invariant-loop-value l = AreMade l.names l.outputs.items l.yielded
