use Rattle.cut_spaces.proofs.tried.tried.Given as goal

abbrev pub invariant-loop-item : goal.invariant-loop-item
invariant-loop-item l = Unit {0}
