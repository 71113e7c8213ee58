use Rattle.session_answers.proofs.outcomes.test_outcomes.Goals as goal

pub returns : goal.returns
returns g c =
    c.each_test-rows.ensures c.args.models.now (rw c.deref.ensures.value c.in_ok-resolved.ensures)
