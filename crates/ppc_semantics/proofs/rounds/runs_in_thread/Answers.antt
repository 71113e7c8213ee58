use Rattle.thread_runs.specs.AllRuns.{thread_of}
use Rattle.ppc_semantics.proofs.Bounds.{has_runs}
use Rattle.ppc_semantics.proofs.rounds.runs_in_thread.Goals as goal

pub returns-in-Ok-clause-counted : goal.returns-in-Ok-clause-counted
returns-in-Ok-clause-counted c =
    has_runs (thread_of c.args.program.now c.args.thread) c.args.values.now _ _ _
    c.thread_lines.ensures c.first-first.ensures (c.in-Ok.ensures c.requires.rising)
