use Rattle.std.proofs.Common.{List, arith, subst}
use Rattle.thread_runs.specs.declared.value.Value.{Value}
use Rattle.ppc_lowering.specs.Domain.{IsCombinationFault}
use Rattle.ppc_semantics.proofs.Bounds.{combination_fault, passed_on}
use Rattle.ppc_semantics.proofs.rounds.domain_of.Goals as goal

pub returns-in_err-check_combinations-clause-fault : goal.returns-in_err-check_combinations-clause-fault
returns-in_err-check_combinations-clause-fault c =
    passed_on _ c.args.program.now _ c.in_err-check_combinations.field-0.0
    c.from_residual-in_err-check_combinations.ensures.1
    (λ proper. combination_fault c.args.program.now c.in_ok-values.values.items
    (omega (arith, c.event_count.ensures, c.if-event_count-gt-MAX_EVENTS.false))
    (c.in_ok-values.ensures.within proper) (c.in_ok-values.ensures.round proper)
    c.in_err-check_combinations.field-0.0
    (subst
    (λ (V : List Value).
    IsCombinationFault c.args.program.now V c.in_err-check_combinations.field-0.0)
    c.deref.ensures.value c.in_err-check_combinations.ensures.fault))
