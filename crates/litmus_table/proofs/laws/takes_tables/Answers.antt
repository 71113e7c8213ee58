use Rattle.litmus_table.proofs.Finishes.{table_finishes}
use Rattle.litmus_table.proofs.Rules.{apart}
use Rattle.litmus_table.proofs.Sound.{table_sound}
use Rattle.litmus_table.proofs.Tables.{table_complete, table_begins, table_taken}
use Rattle.litmus_table.proofs.laws.takes_tables.Goals as goal

pub returns-clause-sound : goal.returns-clause-sound
returns-clause-sound c = λ others ps s e m. table_sound others ps s e m

pub returns-clause-complete : goal.returns-clause-complete
returns-clause-complete c = λ others qs ps rs t. table_complete qs ps rs others t

pub returns-clause-finishes : goal.returns-clause-finishes
returns-clause-finishes c = λ others ps s e. table_finishes others ps s e

pub returns-clause-stops : goal.returns-clause-stops
returns-clause-stops c = λ others ps. (table_begins others ps, table_taken others ps)

pub returns-clause-apart : goal.returns-clause-apart
returns-clause-apart c = λ s t offset b e. apart s t offset b e
