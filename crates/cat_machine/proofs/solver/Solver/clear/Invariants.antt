use Rattle.std.proofs.Common.{◌≡◌, length}
use Rattle.cat_machine.specs.Rising.{AreEmpty}
use Rattle.cat_machine.proofs.solver.Solver.clear.Given as goal

abbrev pub invariant-loop-position : goal.invariant-loop-position
invariant-loop-position l =
    (length l.self.own.items ≡ length l.initial.self.own.items)
    × AreEmpty l.count l.position l.self.own.items
