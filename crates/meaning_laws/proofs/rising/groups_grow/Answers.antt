use Rattle.meaning_laws.proofs.Growing.{groups_grow}
use Rattle.meaning_laws.proofs.rising.groups_grow.Goals as goal

pub returns : goal.returns
returns c = λ t x items group e. groups_grow t x items group e
