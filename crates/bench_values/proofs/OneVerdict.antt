-- A verdict gives one outcome.
use Rattle.std.proofs.Common.{◌≡◌, List, [], ◌∷◌, Option, Some, None, sym, ap, ◌∙◌}
use Rattle.ppc_lowering.specs.declared.fault.EvalRefusal.{EvalRefusal}
use Rattle.outcome_states.specs.declared.answer.Outcome.{Outcome}
use Rattle.verdict.proofs.Uniqueness.{one_outcome}
use Rattle.bench_values.specs.Givens.{VerdictPartsContent}
use Rattle.bench_values.specs.Laws.{GivesOneOutcome}
use Rattle.bench_values.specs.Makes.{checks_among, flags_among, IsVerdictOver}
use Rattle.bench_values.specs.Values.{NodeContent, OfOutcome, space_of, refusal_of, answers_of}

same_outcome : (parts : VerdictPartsContent) (values : List NodeContent) (r : Option EvalRefusal)
    (o p : Outcome) → IsVerdictOver r parts values o → IsVerdictOver r parts values p → o ≡ p
same_outcome parts values (Some r) o p h k = h ∙ sym k
same_outcome parts values None o p h k =
    one_outcome (space_of values).locations (space_of values).executions parts.kind
    parts.proposition parts.observed (checks_among parts.flags (answers_of values))
    (flags_among parts.flags (answers_of values)) o p h k

pub one_verdict : (parts : VerdictPartsContent) (values : List NodeContent)
    → GivesOneOutcome parts values
one_verdict parts values a b h k =
    h.1
    ∙ ap (λ (o : Outcome). OfOutcome o ∷ []) (same_outcome parts values (refusal_of values) h.0 k.0
    h.2 k.2) ∙ sym k.1
