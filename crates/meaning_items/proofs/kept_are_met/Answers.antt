use Rattle.meaning_items.proofs.Kept.{kept_are_met}
use Rattle.meaning_items.proofs.kept_are_met.Goals as goal

pub returns : goal.returns
returns c = λ space items resolved faultless made labelled checks flags said k one there.
    kept_are_met space items resolved faultless made labelled checks flags said k one there
