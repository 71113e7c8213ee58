use Rattle.bench_instance.proofs.Posted.{settled_is_shown, settled_history_is_shown}
use Rattle.bench_instance.proofs.view_laws.settled_lists_are_shown.Goals as goal

pub returns-clause-histories : goal.returns-clause-histories
returns-clause-histories c = settled_history_is_shown

pub returns-clause-lists : goal.returns-clause-lists
returns-clause-lists c = λ ops legal. settled_is_shown ops legal
