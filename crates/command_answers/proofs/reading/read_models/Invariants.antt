use Rattle.std.proofs.Common.{take}
use Rattle.command_answers.specs.Reports.{AreModels}
use Rattle.command_answers.proofs.reading.read_models.Given as goal

abbrev pub invariant-loop-file : goal.invariant-loop-file
invariant-loop-file l =
    AreModels (take l.file-index l.files) l.read.models.items l.read.faults.items
