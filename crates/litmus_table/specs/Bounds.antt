-- Where the parts of a table stand that a later check may blame.
use Rattle.std.specs.Prelude.{ℕ, ◌<◌, ◌≤◌, List, [], ◌∷◌, length, slice_index, Option, Some, None}
use Rattle.litmus_table.specs.declared.late.LateFault.{LateFault}
use Rattle.litmus_words.specs.Machine.{ThreadSteps}

abbrev pub AllAtMost : ℕ → List ℕ → Type 0
AllAtMost n offsets = (k : ℕ) → k < length offsets → slice_index offsets k ≤ n

-- every offset of every thread is at most this
abbrev pub AreThreadsUpTo : ℕ → List ThreadSteps → Type 0
AreThreadsUpTo n [] = Unit {0}
AreThreadsUpTo n (t ∷ ts) = AllAtMost n t.offsets × AreThreadsUpTo n ts

-- a fault, if one was found, stands there too
abbrev pub IsFoundWithin : ℕ → Option LateFault → Type 0
IsFoundWithin n None = Unit {0}
IsFoundWithin n (Some fault) = fault.offset ≤ n
