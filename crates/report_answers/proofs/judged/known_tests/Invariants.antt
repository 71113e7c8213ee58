use Rattle.std.proofs.Common.{take}
use Rattle.report_answers.specs.Judges.{content_in}
use Rattle.report_answers.specs.Known.{start_content, AreKnownTests}
use Rattle.report_answers.proofs.judged.known_tests.Given as goal

abbrev pub invariant-loop-index : goal.invariant-loop-index
invariant-loop-index g l =
    AreKnownTests l.judges.is_all l.judges.models.now
    (start_content l.most l.initial.faults.items) (take l.index l.files)
    (content_in l.known l.faults.items)
