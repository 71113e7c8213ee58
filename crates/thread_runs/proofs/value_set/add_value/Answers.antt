use Rattle.std.proofs.Common.{rules}
use Rattle.thread_runs.proofs.Sorted.{inserted_set, inserted_is}
use Rattle.thread_runs.proofs.value_set.add_value.Goals as goal

pub returns-in_ok-insert-clause-set : goal.returns-in_ok-insert-clause-set
returns-in_ok-insert-clause-set c =
    inserted_set _ _ _ _ c.args.value c.requires (search rules) c.deref.ensures.value
    c.in-Some.ensures.missing c.in_ok-insert.ensures.items

pub returns-in_ok-insert-clause-added : goal.returns-in_ok-insert-clause-added
returns-in_ok-insert-clause-added c =
    inserted_is _ _ _ c.args.value (search rules) c.in_ok-insert.ensures.items
