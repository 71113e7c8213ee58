use Rattle.std.proofs.Common.{◌≡◌, take}
use Rattle.std.specs.List.{All}
use Rattle.why_forbidden.specs.Checked.{IsChecked, check_indexes, checked_items}
use Rattle.why_forbidden.proofs.checks.all_checks.Given as goal

abbrev pub invariant-loop-index : goal.invariant-loop-index
invariant-loop-index l =
    All (IsChecked l.space l.columns l.items) l.checks.items
    × (checked_items l.checks.items ≡ check_indexes 0 (take l.index l.items))
