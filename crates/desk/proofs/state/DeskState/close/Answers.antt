use Rattle.desk.proofs.state.DeskState.close.Goals as goal

pub returns-clause-shown : goal.returns-clause-shown
returns-clause-shown g c = λ owes.
    let shown = c.self-2.invariant.3 owes in
    (shown.0, rw shown.0 shown.1)
