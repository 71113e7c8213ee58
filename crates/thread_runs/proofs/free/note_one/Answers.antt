use Rattle.std.proofs.Common.{rules}
use Rattle.thread_runs.proofs.Adding.{added_one}
use Rattle.thread_runs.proofs.free.note_one.Goals as goal

pub returns-in_ok-add_value-in-Some-clause-added : goal.returns-in_ok-add_value-in-Some-clause-added
returns-in_ok-add_value-in-Some-clause-added c =
    added_one c.in-Some.value _ _ _ (search rules) c.add_value.ensures.longer
    c.add_value.ensures.unchanged c.in_ok-add_value-in-Some.ensures.added
