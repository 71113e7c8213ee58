use Rattle.std.proofs.Common.{◌≡◌, length}
use Rattle.from_scratch.specs.Keeping.{AreEnough}
use Rattle.from_scratch.proofs.keeping.LastUsers.list_wanted.Given as goal

abbrev pub invariant-loop-position : goal.invariant-loop-position
invariant-loop-position l =
    (length l.wanted.items ≡ l.position) × AreEnough l.self l.at l.wanted.items
