use Rattle.std.proofs.Common.{ℕ, ◌≡◌, List, min, subst}
use Rattle.thread_runs.specs.declared.instruction.Line.{Line}
use Rattle.thread_runs.specs.AllRuns.{thread_of}
use Rattle.thread_runs.specs.FreeRuns.{HasFreeRuns}
use Rattle.ppc_semantics.proofs.rounds.thread_count.Goals as goal

pub returns-in-Ok-clause-counted : goal.returns-in-Ok-clause-counted
returns-in-Ok-clause-counted c = λ V rising e.
    subst
    (λ (ls : List Line). (m : ℕ)
    × HasFreeRuns
    (record { lines = ls; first = (thread_of c.args.program.now c.args.thread).first })
    V m × (c.in-Ok.count ≡ min m 4097)) c.thread_lines.ensures
    (c.in-Ok.ensures.runs (thread_of c.args.program.now c.args.thread).first V rising e)
