use Rattle.std.proofs.Common.{◌≡◌, sym, subst, ap, ◌∙◌}
use Rattle.text_values.specs.TestValue.{Join, formula_of}
use Rattle.text_values.specs.declared.test.Proposition as text
use Rattle.outcome_states.specs.Compiled.{Compiles}
use Rattle.outcome_states.specs.declared.formula.Formula as code
use Rattle.outcome_states.proofs.Atoms.{both_meant}
use Rattle.outcome_states.proofs.formula.+formula_over.Goals as goal

pub returns-in_ok-right-in-Joined : goal.returns-in_ok-right-in-Joined
returns-in_ok-right-in-Joined t c =
    let is : formula_of c.args.proposition.now ≡ Join c.in-Joined.connective (formula_of c.deref-in-Joined.result.now) (formula_of c.deref-in-Joined-2.result.now) =
    ap formula_of c.in-Joined.is
    ∙ ap
    (λ (p : text.Proposition).
    Join c.in-Joined.connective (formula_of p) (formula_of c.in-Joined.right.value))
    (sym c.deref-in-Joined.ensures)
    ∙ ap
    (λ (p : text.Proposition).
    Join c.in-Joined.connective (formula_of c.deref-in-Joined.result.now) (formula_of p))
    (sym c.deref-in-Joined-2.ensures) in
    both_meant c.args.locations.now c.args.observables.now c.in-Joined.connective
    (formula_of c.deref-in-Joined.result.now) (formula_of c.deref-in-Joined-2.result.now)
    (formula_of c.args.proposition.now)
    c.in_ok-left-in-Joined.left.value c.in_ok-right-in-Joined.right.value is
    (subst
    (λ (f : code.Formula). Compiles c.args.locations.now c.args.observables.now
    (formula_of c.deref-in-Joined.result.now) f)
    (sym c.in_ok-left-in-Joined.ensures.ok) c.in_ok-formula_over-in-Joined.ensures)
    (subst
    (λ (f : code.Formula). Compiles c.args.locations.now c.args.observables.now
    (formula_of c.deref-in-Joined-2.result.now) f)
    (sym c.in_ok-right-in-Joined.ensures.ok) c.in_ok-formula_over-in-Joined-2.ensures)
