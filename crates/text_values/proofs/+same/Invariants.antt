use Rattle.std.proofs.Common.{◌≡◌, ◌↔◌, map, length, drop}
use Rattle.text_values.specs.ModelValues.{term_of}
use Rattle.text_values.proofs.+same.Given as goal

abbrev pub invariant-same::are_same-loop-this : goal.invariant-same::are_same-loop-this
invariant-same::are_same-loop-this l =
    (map term_of l.these ≡ map term_of l.those)
    ↔ (map term_of (drop (length l.yielded) l.these)
    ≡ map term_of (drop (length l.yielded) l.those))
