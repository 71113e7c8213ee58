use Rattle.meaning_executions.proofs.Holding.{all_hold}
use Rattle.meaning_executions.proofs.ends_are_meant.Goals as goal

pub returns : goal.returns
returns c = λ t p of values x is y by_name same e shows place o known.
    all_hold t p of values x is y by_name same e shows place o known
