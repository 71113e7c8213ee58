-- Which lines of a test the code counts.
use Rattle.std.specs.Prelude.{ℕ, Bool, false, List, count_by, sum_by, map}
use Rattle.text_values.specs.declared.test.Step.{Step}
use Rattle.text_values.specs.declared.test.Step.TheVariants as steps
use Rattle.text_values.specs.declared.test.Thread.{Thread}
use Rattle.text_values.specs.declared.instruction.Instruction.{Instruction}
use Rattle.text_values.specs.TestValue.{thread_steps}
use Rattle.meaning.specs.Machine.{is_load}
use Rattle.meaning.specs.Dependencies.{is_event}
use Rattle.plain_runs.specs.declared.count.Counted.{Counted}
use Rattle.plain_runs.specs.declared.count.Counted.TheVariants.{Loads, Events}

-- what the code counts
abbrev pub is_counted : Counted → Instruction → Bool
is_counted Loads i = is_load i
is_counted Events i = is_event i

-- The line is an instruction that is counted.
abbrev pub is_line_counted : Counted → Step → Bool
is_line_counted c (steps.Label l) = false
is_line_counted c (steps.Instruction i) = is_counted c i

-- how many lines of threads are counted
abbrev pub line_count : Counted → List Thread → ℕ
line_count c threads =
    sum_by (λ lines. count_by (is_line_counted c) lines) (map thread_steps threads)
