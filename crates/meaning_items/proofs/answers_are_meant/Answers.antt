use Rattle.meaning_items.proofs.Answers.{answers_meant}
use Rattle.meaning_items.proofs.answers_are_meant.Goals as goal

pub returns : goal.returns
returns c = λ space items resolved faultless made labelled checks flags said k one there.
    answers_meant space items resolved faultless made labelled checks flags said k one there
