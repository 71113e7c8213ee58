use Rattle.std.proofs.Common.{◌≡◌, drop}
use Rattle.litmus_table.specs.Checks.{first_from, first_fault}
use Rattle.litmus_table.proofs.late.PlacedThread.check_labels.Given as goal

abbrev pub invariant-loop-i : goal.invariant-loop-i
invariant-loop-i l =
    first_fault (λ w. first_from w 0 l.self.steps.items) 0 l.self.steps.items l.self.offsets.items
    ≡ first_fault (λ w. first_from w 0 l.self.steps.items) l.i (drop l.i l.self.steps.items)
    (drop l.i l.self.offsets.items)
