use Rattle.std.proofs.Common.{◌≡◌, false, take}
use Rattle.std.specs.List.{list_any}
use Rattle.why_text.specs.Findings.{is_of_kind, texts_in}
use Rattle.why_text.proofs.finding.is_among.Given as goal

abbrev pub invariant-loop-other : goal.invariant-loop-other
invariant-loop-other l =
    list_any (is_of_kind l.kind) (texts_in (take l.other-index l.kinds)) ≡ false
