use Rattle.std.proofs.Common.{min}
use Rattle.std.specs.List.{AllZip}
use Rattle.cut_spaces.specs.Spaces.{IsCutCombination}
use Rattle.cut_spaces.proofs.cut.all_cut.Given as goal

abbrev pub invariant-loop-combination : goal.invariant-loop-combination
invariant-loop-combination l =
    AllZip (IsCutCombination l.item (min l.locations 128)) l.yielded l.made.items
