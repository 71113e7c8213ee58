use Rattle.std.proofs.Common.{take}
use Rattle.command_answers.specs.Reports.{AreTests}
use Rattle.command_answers.proofs.reading.read_tests.Given as goal

abbrev pub invariant-loop-file : goal.invariant-loop-file
invariant-loop-file l =
    AreTests l.initial.read.faults.items (take l.file-index l.files) l.read.tests.items
    l.read.faults.items
