use Rattle.std.proofs.Common.{◌≡◌, drop}
use Rattle.report_details.specs.States.{count_among}
use Rattle.report_details.proofs.states.count_among.Given as goal

abbrev pub invariant-loop-one : goal.invariant-loop-one
invariant-loop-one l =
    count_among (drop l.one-index l.states) l.state ≡ count_among l.states l.state
