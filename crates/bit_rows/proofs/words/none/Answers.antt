use Rattle.bit_rows.proofs.Writing.{zeros}
use Rattle.bit_rows.proofs.words.none.Goals as goal

pub returns-clause-zero : goal.returns-clause-zero
returns-clause-zero c = λ a. zeros 128 a
