use Rattle.std.proofs.Common.{◌≡◌, map, take}
use Rattle.why_text.specs.Findings.{kind_of, texts_in}
use Rattle.why_text.proofs.finding.kinds_of.Given as goal

abbrev pub invariant-loop-reason : goal.invariant-loop-reason
invariant-loop-reason l =
    texts_in l.kinds.items ≡ map (kind_of l.locations) (take l.reason-index l.reasons)
