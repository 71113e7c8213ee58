use Rattle.meaning_states.proofs.Raised.{all_raised}
use Rattle.meaning_states.proofs.flags_are_raised.Goals as goal

pub returns : goal.returns
returns c = λ t s lists items resolved faultless made labelled checks flags said.
    all_raised t s lists items resolved faultless made labelled checks flags said
