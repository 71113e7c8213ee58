use Rattle.meaning_laws.proofs.Ending.{all_hold}
use Rattle.meaning_laws.proofs.locations_hold.Goals as goal

pub returns : goal.returns
returns c = λ t x is l there. all_hold t x is l there
