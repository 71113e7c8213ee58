use Rattle.meaning_states.proofs.Saying.{all_said}
use Rattle.meaning_states.proofs.evaluations_are_meant.Goals as goal

pub returns : goal.returns
returns c = λ t words s lists items resolved faultless made labelled e evaluated.
    all_said t words s lists items resolved faultless made labelled e evaluated
