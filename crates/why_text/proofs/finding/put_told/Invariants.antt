use Rattle.std.proofs.Common.{◌≡◌, ◌++◌, [], drop}
use Rattle.why_text.specs.Findings.{texts_in, told_text}
use Rattle.why_text.proofs.finding.put_told.Given as goal

abbrev pub invariant-loop-reason : goal.invariant-loop-reason
invariant-loop-reason l =
    l.text.items
    ++ told_text l.locations (texts_in l.kinds) (texts_in l.told.items)
    (drop l.reason-index l.reasons)
    ≡ l.initial.text.items ++ told_text l.locations (texts_in l.kinds) [] l.reasons
