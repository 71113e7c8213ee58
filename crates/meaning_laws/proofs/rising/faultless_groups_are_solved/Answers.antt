use Rattle.meaning_laws.proofs.Growing.{groups_are_solved}
use Rattle.meaning_laws.proofs.rising.faultless_groups_are_solved.Goals as goal

pub returns : goal.returns
returns c = λ t x items group e. groups_are_solved t x items group e
