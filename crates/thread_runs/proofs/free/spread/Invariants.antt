use Rattle.std.proofs.Common.{◌≡◌, take}
use Rattle.std.specs.List.{flat_map}
use Rattle.thread_runs.specs.declared.instruction.Line.TheVariants.{Does}
use Rattle.thread_runs.specs.FreeWalks.{next_of}
use Rattle.thread_runs.proofs.free.spread.Given as goal

abbrev pub invariant-loop-walk : goal.invariant-loop-walk
invariant-loop-walk l =
    l.next.items
    ≡ flat_map (next_of l.values l.on l.there (Does l.instruction)) (take l.walk-index l.walks)
