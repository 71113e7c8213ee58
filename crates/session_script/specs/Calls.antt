-- How many calls of a source were made. A count of calls stops at 2^64 - 1. The clauses of
-- `read_prefix` and of `ScriptReader::next` cite these.
use Rattle.std.specs.Prelude.{ℕ, ◌+◌, ◌-◌, ◌≤◌, ◌^◌, min}

-- so many calls were made at least, from one count to the other
abbrev pub HasCalled : (count calls calls_now : ℕ) → Type 0
HasCalled count calls calls_now = min (calls + count) (2 ^ 64 - 1) ≤ calls_now

-- each turn that was taken, of those that were left, was a call
abbrev pub AreTurnsCalled : (turns turns_now calls calls_now : ℕ) → Type 0
AreTurnsCalled turns turns_now calls calls_now =
    min (calls + turns) (2 ^ 64 - 1) ≤ calls_now + turns_now
