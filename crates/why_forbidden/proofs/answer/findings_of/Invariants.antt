use Rattle.std.proofs.Common.{◌≤◌}
use Rattle.why_forbidden.specs.Views.{AreFoundOf, case_of}
use Rattle.why_forbidden.proofs.answer.findings_of.Given as goal

abbrev pub invariant-loop-candidate : goal.invariant-loop-candidate
invariant-loop-candidate l = record {
  found : AreFoundOf (case_of l.test l.space l.judged l.is_deep) l.candidate l.findings;
  few : l.findings.kept ≤ l.candidate;
}
