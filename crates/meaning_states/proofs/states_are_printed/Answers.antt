use Rattle.meaning_states.proofs.Saying.{all_states_printed}
use Rattle.meaning_states.proofs.states_are_printed.Goals as goal

pub returns : goal.returns
returns c = λ t words s lists items resolved faultless made labelled e evaluated.
    all_states_printed t words s lists items resolved faultless made labelled e evaluated
