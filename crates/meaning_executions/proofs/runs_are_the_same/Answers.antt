use Rattle.std.proofs.Common.{ℕ, ◌<◌, subst}
use Rattle.std.proofs.lemmas.List.{length-map}
use Rattle.text_values.specs.TestValue.{thread_steps}
use Rattle.meaning_executions.proofs.Domains.{same_runs}
use Rattle.meaning_executions.proofs.runs_are_the_same.Goals as goal

pub returns : goal.returns
returns c t p of thread there =
    same_runs t p of thread
    (subst (λ (n : ℕ). thread < n) (length-map t.threads.items thread_steps) there)
