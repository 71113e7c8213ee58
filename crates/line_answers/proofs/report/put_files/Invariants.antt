use Rattle.std.proofs.Common.{take}
use Rattle.line_answers.specs.Added.{AddsResults}
use Rattle.line_answers.proofs.report.put_files.Given as goal

abbrev pub invariant-loop-index : goal.invariant-loop-index
invariant-loop-index g l =
    AddsResults l.judges.lines l.judges.models.now (take l.index l.files) l.initial.report l.report
