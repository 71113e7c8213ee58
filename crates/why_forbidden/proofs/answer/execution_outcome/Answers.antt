use Rattle.std.proofs.Common.{◌∙◌, List, ℕ, [], ap, sym, refl}
use Rattle.text_values.specs.TestValue.{formula_of}
use Rattle.candidate_spaces.specs.Space.{shown_by}
use Rattle.verdict.specs.Evaluated.{is_satisfied}
use Rattle.why_forbidden.proofs.answer.execution_outcome.Goals as goal

pub returns-then-not-is_satisfied : goal.returns-then-not-is_satisfied
returns-then-not-is_satisfied c =
    let shown = shown_by c.args.execution.now in
    record {
      scene = record { candidate = c.args.candidate; events = shown.events; instructions = [] };
      candidate = record {
        number = refl;
        shown = shown;
        stands = c.requires.shown;
        events = refl;
        holds =
            ap
            (λ (names : List (List ℕ)).
            is_satisfied names (formula_of c.args.test.now.condition.proposition) shown)
            (sym c.deref.ensures.value)
            ∙ sym c.is_satisfied.ensures ∙ c.if-not-is_satisfied.true;
      };
    }
