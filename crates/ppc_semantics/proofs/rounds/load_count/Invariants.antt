use Rattle.std.proofs.Common.{◌≡◌, ◌-◌, ◌^◌, Vec, take, min}
use Rattle.std.specs.List.{sum_by, count_by}
use Rattle.std.specs.declared.alloc.Global.{Global}
use Rattle.thread_runs.specs.declared.instruction.Line.{Line}
use Rattle.ppc_lowering.specs.Domain.{has_load}
use Rattle.ppc_semantics.proofs.rounds.load_count.Given as goal

abbrev pub invariant-loop-lines : goal.invariant-loop-lines
invariant-loop-lines l =
    l.count
    ≡ min
    (sum_by (λ (lines : Vec Line Global). count_by has_load lines.items)
    (take l.lines-index l.program.threads.items))
    (2 ^ 64 - 1)
