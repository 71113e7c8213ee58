use Rattle.meanings_exist.proofs.Items.{checks_decided, flags_decided}
use Rattle.meanings_exist.proofs.models_are_decided.Goals as goal

pub returns-clause-checks : goal.returns-clause-checks
returns-clause-checks c = λ t x items e. checks_decided t x items e

pub returns-clause-flags : goal.returns-clause-flags
returns-clause-flags c = λ t x items i e. flags_decided t x items i e
