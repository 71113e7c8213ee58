use Rattle.std.proofs.Common.{sym}
use Rattle.outcome_states.proofs.Atoms.{atom_found, atom_missing}
use Rattle.outcome_states.proofs.formula.atom.Goals as goal

pub returns-in-Some-observable_number : goal.returns-in-Some-observable_number
returns-in-Some-observable_number c = λ shows content.
    atom_found c.args.locations.now c.args.observables.now c.args.observable.now c.args.value.now
    c.in-Some.shown c.in-Some-known_value.value c.in-Some-observable_number.number
    (sym c.in-Some.ensures) (sym c.in-Some-known_value.ensures) (sym c.in-Some-observable_number.ensures)
    content

pub returns-in-None : goal.returns-in-None
returns-in-None c =
    λ shows content. absurd (atom_missing c.args.locations.now c.args.observables.now c.args.observable.now
    c.in-Some.shown (sym c.in-Some.ensures) (sym c.in-None.ensures) shows)
