use Rattle.std.proofs.Common.{◌≡◌, ◌≤◌, take}
use Rattle.std.specs.List.{count_by}
use Rattle.why_text.specs.Findings.{is_of_kind, texts_in}
use Rattle.why_text.proofs.finding.count_of.Given as goal

abbrev pub invariant-loop-other : goal.invariant-loop-other
invariant-loop-other l = record {
  counted : l.count ≡ count_by (is_of_kind l.kind) (texts_in (take l.other-index l.kinds));
  few : l.count ≤ l.other-index;
}
