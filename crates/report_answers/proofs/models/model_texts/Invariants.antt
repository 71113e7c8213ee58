use Rattle.std.proofs.Common.{◌≡◌, take, map}
use Rattle.report_answers.proofs.models.model_texts.Given as goal

abbrev pub invariant-loop-model : goal.invariant-loop-model
invariant-loop-model l =
    map (λ t. t.now) l.texts.items ≡ map (λ m. m.model) (take l.model-index l.models)
