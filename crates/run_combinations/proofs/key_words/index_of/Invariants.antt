use Rattle.std.proofs.Common.{ℕ, ◌≡◌, ◌<◌, false, get_or}
use Rattle.thread_runs.specs.declared.value.Value.{Value}
use Rattle.run_combinations.specs.ReadChoices.{same_value}
use Rattle.run_combinations.proofs.key_words.index_of.Given as goal

abbrev pub invariant-loop-index : goal.invariant-loop-index
invariant-loop-index l =
    (k : ℕ) (d : Value) → k < l.index → same_value (get_or l.values k d) l.value ≡ false
