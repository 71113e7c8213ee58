use Rattle.meaning_edits.proofs.Edited.{keeps_words}
use Rattle.meaning_edits.proofs.edits_keep_words.Goals as goal

pub returns : goal.returns
returns c = λ t new spent e words applies. keeps_words t new spent e words applies
