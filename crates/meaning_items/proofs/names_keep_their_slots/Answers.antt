use Rattle.meaning_items.proofs.Naming.{naming_more}
use Rattle.meaning_items.proofs.names_keep_their_slots.Goals as goal

pub returns : goal.returns
returns c = λ names m slot n there. naming_more names m slot n there
