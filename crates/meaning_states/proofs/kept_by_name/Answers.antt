use Rattle.meaning_states.proofs.Listing.{all_kept}
use Rattle.meaning_states.proofs.kept_by_name.Goals as goal

pub returns : goal.returns
returns c = λ t s lists items resolved faultless made labelled checks flags said.
    all_kept t s lists items resolved faultless made labelled checks flags said
