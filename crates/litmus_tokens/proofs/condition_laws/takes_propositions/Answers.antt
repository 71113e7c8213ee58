use Rattle.litmus_tokens.proofs.Sound.{sound}
use Rattle.litmus_tokens.proofs.Complete.{complete}
use Rattle.litmus_tokens.proofs.Finishes.{finishes}
use Rattle.litmus_tokens.proofs.Beginnings.{takes_beginnings}
use Rattle.litmus_tokens.proofs.condition_laws.takes_propositions.Goals as goal

pub returns-clause-sound : goal.returns-clause-sound
returns-clause-sound c = λ most threads few ts v e. sound most threads few ts v e

pub returns-clause-complete : goal.returns-clause-complete
returns-clause-complete c = λ most threads few ts v m. complete most threads few ts v m

pub returns-clause-stops : goal.returns-clause-stops
returns-clause-stops c = λ most threads few. takes_beginnings most threads few

pub returns-clause-finishes : goal.returns-clause-finishes
returns-clause-finishes c =
    λ most threads frames used expected. finishes most threads frames used expected
