use Rattle.std.proofs.Common.{List, sym, ◌≤◌, length, subst}
use Rattle.thread_runs.specs.declared.value.Value.{Value}
use Rattle.thread_runs.proofs.Holding.{first_none}
use Rattle.thread_runs.proofs.location_values.first_value.Goals as goal

pub returns-in-None : goal.returns-in-None
returns-in-None c =
    sym (first_none c.args.program.now c.args.thread c.args.r
    (subst (λ (l : List (List Value)). length l ≤ c.args.thread) c.deref.ensures.value
    c.in-None.ensures.lookup.3))
