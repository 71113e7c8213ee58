use Rattle.std.proofs.Common.{List, Vec, map, ap, sym, subst, ◌∙◌}
use Rattle.std.specs.Prelude.{Option, Some, Result, Ok}
use Rattle.std.specs.declared.alloc.Global.{Global}
use Rattle.std.proofs.lemmas.Bool.{iff_false}
use Rattle.text_values.specs.TestValue.{content_of}
use Rattle.meaning.specs.Sets.{IsOnce}
use Rattle.meaning.specs.Names.{Name}
use Rattle.plain_machine.specs.declared.value.Value.{Value}
use Rattle.plain_runs.specs.declared.run.Run.{Run}
use Rattle.plain_runs.specs.Locations.{names_as}
use Rattle.plain_domains.specs.declared.domain.Refusal.{Refusal}
use Rattle.plain_domains.specs.Domains.{IsDomainFound}
use Rattle.plain_events.specs.Combinations.{AreAllCombinations}
use Rattle.plain_events.proofs.Standing.{locations_once}
use Rattle.plain_executions.specs.declared.execution.Execution as code
use Rattle.plain_executions.specs.Executions.{execution_as, HasFaultAmong}
use Rattle.plain_executions.proofs.Executing.{too_many, faulty, sound, many_as, not_many}
use Rattle.plain_executions.proofs.execution.executions.Goals as goal

pub all_executions-requires-clause-once : goal.all_executions-requires-clause-once
all_executions-requires-clause-once c =
    subst (λ (ns : List Name). IsOnce ns)
    (sym (ap names_as c.deref-2.ensures.value ∙ c.in_ok-locations.ensures))
    (locations_once (content_of c.args.test.now))

pub returns-then-has_many : goal.returns-then-has_many
returns-then-has_many c =
    let t = content_of c.args.test.now in
    let xs = c.in_ok-executions.executions.items in
    let domain : IsDomainFound t (Ok c.in-Ok.values) = subst (λ (r : Result (Vec Value Global) Refusal). IsDomainFound t r) c.in-Ok.is c.in_ok-values.ensures in
    let few : AreAllCombinations t (Some c.in-Some.combinations) = subst (λ (o : Option (Vec (Vec Run Global) Global)). AreAllCombinations t o) c.in-Some.is c.in_ok-combinations.ensures in
    too_many t (map execution_as xs) domain.0 few.0 c.in_ok-executions.ensures
    (many_as xs c.deref-4.result.now c.deref-4.ensures.value (c.has_many.ensures.0 c.if-has_many.true))

pub returns-then-has_fault : goal.returns-then-has_fault
returns-then-has_fault c =
    let t = content_of c.args.test.now in
    let xs = c.in_ok-executions.executions.items in
    let domain : IsDomainFound t (Ok c.in-Ok.values) = subst (λ (r : Result (Vec Value Global) Refusal). IsDomainFound t r) c.in-Ok.is c.in_ok-values.ensures in
    let few : AreAllCombinations t (Some c.in-Some.combinations) = subst (λ (o : Option (Vec (Vec Run Global) Global)). AreAllCombinations t o) c.in-Some.is c.in_ok-combinations.ensures in
    faulty t (map execution_as xs) domain.0 few.0 c.in_ok-executions.ensures
    (not_many xs c.deref-4.result.now c.deref-4.ensures.value (iff_false c.has_many.ensures c.if-has_many.false))
    (subst (λ (l : List code.Execution). HasFaultAmong (map execution_as l)) c.deref-5.ensures.value
    (c.has_fault.ensures.0 c.if-has_fault.true))

pub returns : goal.returns
returns c =
    let t = content_of c.args.test.now in
    let xs = c.in_ok-executions.executions.items in
    let domain : IsDomainFound t (Ok c.in-Ok.values) = subst (λ (r : Result (Vec Value Global) Refusal). IsDomainFound t r) c.in-Ok.is c.in_ok-values.ensures in
    let few : AreAllCombinations t (Some c.in-Some.combinations) = subst (λ (o : Option (Vec (Vec Run Global) Global)). AreAllCombinations t o) c.in-Some.is c.in_ok-combinations.ensures in (
      sound t (map execution_as xs) domain.0 few.0 c.in_ok-executions.ensures
          (not_many xs c.deref-4.result.now c.deref-4.ensures.value (iff_false c.has_many.ensures c.if-has_many.false))
          (λ is. iff_false c.has_fault.ensures c.if-has_fault.false
          (subst (λ (l : List code.Execution). HasFaultAmong (map execution_as l)) (sym c.deref-5.ensures.value) is)),
      c.in_ok-executions.ensures,
    )
