use Rattle.std.proofs.Common.{ℕ, ◌≡◌, ◌+◌, List, arith, sym, subst}
use Rattle.thread_runs.specs.declared.value.Value.{Value}
use Rattle.ppc_lowering.specs.Domain.{load_total, IsDomainAt}
use Rattle.ppc_semantics.proofs.Bounds.{few_loads, going, going_fault, passed_on, stopped_round, stopped_within}
use Rattle.ppc_semantics.proofs.rounds.last_round.Goals as goal

pub loop-round-init : goal.loop-round-init
loop-round-init c =
    going c.args.program.now 0 _ c.in_ok-values.values.items c.deref.ensures.value
    c.in_ok-values.ensures.set c.in_ok-values.ensures.round
    (λ proper j lt. absurd (omega arith))
    c.in_ok-check_round.ensures.few c.in_ok-check_round.ensures.runs

pub loop-round-preserved : goal.loop-round-preserved
loop-round-preserved c =
    going c.args.program.now _ _ c.in_ok-next.next.items c.deref-in-loop-round-2.ensures.value
    c.in_ok-next.ensures.set
    (λ proper. c.in_ok-next.ensures.round c.loop-round.round (subst
    (λ (V : List Value). IsDomainAt c.args.program.now c.loop-round.round V)
    (sym c.deref-in-loop-round.ensures.value) (c.loop-round.invariant.round proper)))
    (λ proper j lt. c.loop-round.invariant.within proper j (omega arith))
    c.in_ok-check_round-2.ensures.few c.in_ok-check_round-2.ensures.runs

pub returns-in_err-check_round-clause-fault : goal.returns-in_err-check_round-clause-fault
returns-in_err-check_round-clause-fault c =
    passed_on _ c.args.program.now _ c.in_err-check_round.field-0.0
    c.from_residual-in_err-check_round.ensures.1
    (going_fault c.args.program.now 0 _ c.in_ok-values.values.items c.deref.ensures.value c.requires
    (omega arith) c.in_ok-values.ensures.round (λ proper j lt. absurd (omega arith))
    c.in_err-check_round.field-0.0 c.in_err-check_round.ensures.fault)

pub returns-in_err-check_round-2-clause-fault : goal.returns-in_err-check_round-2-clause-fault
returns-in_err-check_round-2-clause-fault c =
    passed_on _ c.args.program.now _ c.in_err-check_round-2.field-0.0
    c.from_residual-in_err-check_round-2.ensures.1
    (going_fault c.args.program.now (c.loop-round.round + 1) _ c.in_ok-next.next.items
    c.deref-in-loop-round-2.ensures.value c.requires (omega (
      arith,
      c.loop-round-test.true,
      c.load_count-round-end.ensures,
    ))
    (λ proper. c.in_ok-next.ensures.round c.loop-round.round (subst
    (λ (V : List Value). IsDomainAt c.args.program.now c.loop-round.round V)
    (sym c.deref-in-loop-round.ensures.value) (c.loop-round.invariant.round proper)))
    (λ proper j lt. c.loop-round.invariant.within proper j (omega arith))
    c.in_err-check_round-2.field-0.0 c.in_err-check_round-2.ensures.fault)

pub returns-then-len-clause-round : goal.returns-then-len-clause-round
returns-then-len-clause-round c = λ proper.
    stopped_round c.args.program.now c.loop-round.round _ c.loop-round.values.items
    c.deref-in-loop-round.ensures.value c.in_ok-next.next.items c.in_ok-next.ensures.round
    c.in_ok-next.ensures.unchanged
    (omega (
      arith,
      c.if-len.true,
      c.len.ensures,
      c.len-in-loop-round.ensures,
      c.in_ok-next.next.ok,
      c.loop-round.values.ok,
    )) c.loop-round.invariant proper
    (load_total c.args.program.now)
    (omega (arith, c.loop-round-test.true, c.load_count-round-end.ensures))

pub returns-then-len-clause-within : goal.returns-then-len-clause-within
returns-then-len-clause-within c = λ proper k le.
    stopped_within c.args.program.now c.loop-round.round _ c.loop-round.values.items
    c.deref-in-loop-round.ensures.value c.in_ok-next.next.items c.in_ok-next.ensures.round
    c.in_ok-next.ensures.unchanged
    (omega (
      arith,
      c.if-len.true,
      c.len.ensures,
      c.len-in-loop-round.ensures,
      c.in_ok-next.next.ok,
      c.loop-round.values.ok,
    )) c.loop-round.invariant proper k

pub returns-clause-round : goal.returns-clause-round
returns-clause-round c = λ proper.
    let few = few_loads c.args.program.now in
    let e : c.loop-round.round ≡ load_total c.args.program.now = omega (arith, few, c.load_count-round-end.ensures) in
    subst (λ (k : ℕ). IsDomainAt c.args.program.now k c.loop-round.values.items) e
    (c.loop-round.invariant.round proper)

pub returns-clause-within : goal.returns-clause-within
returns-clause-within c = λ proper k le.
    let few = few_loads c.args.program.now in
    c.loop-round.invariant.within proper k (omega (arith, few, le, c.load_count-round-end.ensures))
