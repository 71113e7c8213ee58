use Rattle.std.proofs.Common.{◌≡◌, ◌≤◌, ◌++◌, take, map, length}
use Rattle.std.specs.List.{flat_map, filter}
use Rattle.outcome_texts.specs.Differences.{pair_of, is_told_apart, test_difference}
use Rattle.outcome_texts.proofs.difference.put_tests.Given as goal

abbrev pub invariant-loop-test : goal.invariant-loop-test
invariant-loop-test l =
    (l.count ≤ l.test-index)
    × (l.count ≡ length (filter is_told_apart (map pair_of (take l.test-index l.tests))))
    × (l.text.items
    ≡ l.initial.text.items
    ++ flat_map (λ t. test_difference (is_told_apart t) t)
    (map pair_of (take l.test-index l.tests)))
