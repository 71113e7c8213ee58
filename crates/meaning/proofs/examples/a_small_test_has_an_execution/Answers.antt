use Rattle.meaning.proofs.Store.{no_cycle, listed_store, store_listed, store_executes}
use Rattle.meaning.proofs.examples.a_small_test_has_an_execution.Goals as goal

pub returns-clause-acyclic : goal.returns-clause-acyclic
returns-clause-acyclic c = λ a h. no_cycle a a h.0 h.1

pub returns-clause-stores : goal.returns-clause-stores
returns-clause-stores c = λ e. (listed_store e, store_listed e)

pub returns-clause-execution : goal.returns-clause-execution
returns-clause-execution c = store_executes
