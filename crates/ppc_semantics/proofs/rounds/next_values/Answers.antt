use Rattle.std.proofs.Common.{ℕ, ◌≡◌, vec_len, arith, subst}
use Rattle.std.specs.List.{Contains}
use Rattle.thread_runs.specs.Runs.{StoresFreely}
use Rattle.thread_runs.specs.FreeWalks.{AreAdded}
use Rattle.ppc_lowering.specs.Domain.{threads_from}
use Rattle.ppc_semantics.proofs.Rising.{next_more}
use Rattle.ppc_semantics.proofs.rounds.next_values.Goals as goal

pub loop-thread-preserved : goal.loop-thread-preserved
loop-thread-preserved c = record {
  set = c.add_stored.ensures.set;
  added =
      next_more c.args.program.now c.loop-thread.thread c.args.values.now _ _ _ _ _
      c.thread_lines.ensures c.first-first.ensures c.loop-thread.invariant.added
      c.in_ok-add_stored.ensures.added;
}

pub returns-clause-added : goal.returns-clause-added
returns-clause-added c =
    let all_of : c.loop-thread.thread ≡ vec_len c.args.program.now.threads = omega (arith, c.len-thread-end.ensures) in
    subst
    (λ (k : ℕ). AreAdded
    (StoresFreely (threads_from c.args.program.now k) (Contains c.args.values.now))
    c.args.values.now c.loop-thread.next.items) all_of c.loop-thread.invariant.added
