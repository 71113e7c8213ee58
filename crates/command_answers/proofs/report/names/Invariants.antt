use Rattle.std.proofs.Common.{◌≡◌, take}
use Rattle.command_answers.specs.Reports.{model_names}
use Rattle.command_answers.proofs.report.names.Given as goal

abbrev pub invariant-loop-model : goal.invariant-loop-model
invariant-loop-model l = l.names.items ≡ model_names (take l.model-index l.models)
