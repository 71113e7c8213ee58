use Rattle.std.proofs.Common.{◌≡◌, map, take}
use Rattle.run_combinations.proofs.layout.ends_of.Given as goal

abbrev pub invariant-loop-part : goal.invariant-loop-part
invariant-loop-part l = l.ends.items ≡ map (λ p. p.registers) (take l.part-index l.parts)
