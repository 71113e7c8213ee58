-- What is taken of an input.
use Rattle.std.specs.Prelude.{ℕ, ◌≤◌}
use Rattle.watch_polls.specs.declared.inbox.Taken.{Taken}
use Rattle.watch_polls.specs.declared.inbox.Taken.TheVariants.{Bytes, Nothing, End, Failed}

-- bytes that are taken are no more than these
abbrev pub IsTakenWithin : ℕ → Taken → Type 0
IsTakenWithin most (Bytes count) = count ≤ most
IsTakenWithin most Nothing = Unit {0}
IsTakenWithin most End = Unit {0}
IsTakenWithin most Failed = Unit {0}
