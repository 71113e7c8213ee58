use Rattle.std.proofs.Common.{take}
use Rattle.report_answers.specs.Known.{AreKnownModels}
use Rattle.report_answers.proofs.models.known_models.Given as goal

abbrev pub invariant-loop-file : goal.invariant-loop-file
invariant-loop-file l =
    AreKnownModels l.initial.faults.items (take l.file-index l.files) l.models.items
    l.faults.items
