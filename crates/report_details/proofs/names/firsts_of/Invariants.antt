use Rattle.std.proofs.Common.{◌≡◌, ◌++◌, drop}
use Rattle.report_details.specs.Names.{firsts_from}
use Rattle.report_details.proofs.names.firsts_of.Given as goal

abbrev pub invariant-loop-number : goal.invariant-loop-number
invariant-loop-number l =
    l.firsts.items ++ firsts_from l.number (drop l.number l.groups) ≡ firsts_from 0 l.groups
