use Rattle.std.proofs.Common.{◌≡◌, take, map}
use Rattle.report_answers.specs.Known.{shown_model}
use Rattle.report_answers.proofs.models.reported_models.Given as goal

abbrev pub invariant-loop-model : goal.invariant-loop-model
invariant-loop-model l = l.reported.items ≡ map shown_model (take l.model-index l.models)
