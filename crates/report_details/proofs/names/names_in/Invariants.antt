use Rattle.std.proofs.Common.{◌≡◌, ◌++◌, drop, map}
use Rattle.report_details.specs.Names.{names_in}
use Rattle.report_details.proofs.names.names_in.Given as goal

abbrev pub invariant-loop-number : goal.invariant-loop-number
invariant-loop-number l =
    map (λ n. n.now) l.names.items ++ names_in (drop l.number l.models) (drop l.number l.groups) l.group
    ≡ names_in l.models l.groups l.group
