use Rattle.text_values.specs.TestValue.{thread_steps}
use Rattle.binding_shapes.proofs.Compared.{AreSameTo}
use Rattle.bench_values.proofs.same.same_threads.Given as goal

abbrev pub invariant-loop-index : goal.invariant-loop-index
invariant-loop-index l = AreSameTo thread_steps l.these l.those l.index
