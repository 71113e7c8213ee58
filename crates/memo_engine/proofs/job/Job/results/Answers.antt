use Rattle.memo_engine.proofs.job.Job.results.Goals as goal

pub returns-in-Ok-with_capacity-clause-computed : goal.returns-in-Ok-with_capacity-clause-computed
returns-in-Ok-with_capacity-clause-computed g c =
    rw (c.as_slice.ensures.value, c.as_slice-2.ensures.value, ← c.in_ok-outputs.ensures.values) at
    c.in-Ok.ensures

pub returns-in-Ok-with_capacity-clause-kept : goal.returns-in-Ok-with_capacity-clause-kept
returns-in-Ok-with_capacity-clause-kept g c =
    rw c.as_slice-3.ensures.value at c.in_ok-outputs.ensures.kept
