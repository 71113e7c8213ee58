use Rattle.std.proofs.Common.{◌≡◌, ◌≤◌, take}
use Rattle.bit_rows.specs.Relation.{IsRelation}
use Rattle.base_names.specs.Events.{Below, ReadsFromBelow, loads_in}
use Rattle.base_names.proofs.changing.write_reads.Given as goal

abbrev pub invariant-loop-load : goal.invariant-loop-load
invariant-loop-load l =
    (l.next ≡ loads_in (take l.load l.events)) × (l.next ≤ l.load)
    × IsRelation l.target l.count (Below l.count (ReadsFromBelow l.events l.reads_from l.load))
