use Rattle.litmus_table.proofs.Finishes.{thread_finishes}
use Rattle.litmus_table.proofs.Sound.{thread_sound}
use Rattle.litmus_table.proofs.Tables.{thread_complete, thread_begins, thread_taken}
use Rattle.litmus_table.proofs.laws.takes_threads.Goals as goal

pub returns-clause-sound : goal.returns-clause-sound
returns-clause-sound c = λ ps s e m. thread_sound ps s e m

pub returns-clause-complete : goal.returns-clause-complete
returns-clause-complete c = λ qs ps rs t. thread_complete qs ps rs t

pub returns-clause-finishes : goal.returns-clause-finishes
returns-clause-finishes c = λ ps s e. thread_finishes ps s e

pub returns-clause-stops : goal.returns-clause-stops
returns-clause-stops c = λ ps. (thread_begins ps, thread_taken ps)
