use Rattle.session_answers.proofs.outcomes.outcomes_of.Goals as goal

pub returns : goal.returns
returns c =
    λ texts all.
    record { name = c.in_ok-copied.ensures; outcomes = c.in_ok-eval_row.ensures texts all }
