use Rattle.std.proofs.Common.{ℕ, ◌<◌, subst}
use Rattle.std.proofs.lemmas.List.{length-map}
use Rattle.text_values.specs.TestValue.{thread_steps}
use Rattle.meaning_executions.proofs.Starts.{runs_alike}
use Rattle.meaning_executions.proofs.threads_run_alike.Goals as goal

pub returns : goal.returns
returns c t p of thread there =
    runs_alike t p of thread
    (subst (λ (n : ℕ). thread < n) (length-map t.threads.items thread_steps) there)
