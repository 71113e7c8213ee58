use Rattle.meaning_laws.proofs.Items.{numbers_alike}
use Rattle.meaning_laws.proofs.carried.numbers_do_not_matter.Goals as goal

pub returns : goal.returns
returns c = λ to from are all choice names items. numbers_alike to from are all choice names items
