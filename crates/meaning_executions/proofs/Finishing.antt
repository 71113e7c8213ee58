-- A test is refused for what its space is refused for, and accepted where it has a space.
use Rattle.std.proofs.Common.{◌≡◌, ◌<◌, ◌≤◌, List, length, Contains, refl, sym, ◌∙◌, arith}
use Rattle.text_values.specs.declared.test.Test.{Test}
use Rattle.text_values.specs.TestValue.{Content, content_of}
use Rattle.thread_runs.specs.declared.value.Value.{Value}
use Rattle.thread_runs.specs.declared.instruction.Program.{Program}
use Rattle.ppc_lowering.specs.Domain.{IsDomain}
use Rattle.ppc_lowering.specs.Lowering.{IsProgram}
use Rattle.ppc_lowering.specs.declared.fault.EvalRefusal.{EvalRefusal}
use Rattle.ppc_lowering.specs.declared.fault.EvalRefusal.TheVariants as refused
use Rattle.candidates.specs.Executions as numbered
use Rattle.candidates.specs.Executions.{HasFaultedRun}
use Rattle.candidates.specs.Listed.{AreTestExecutions, ListsExecutions, IsSpaceRefusal}
use Rattle.candidate_spaces.specs.declared.candidate.Space.{Space}
use Rattle.meaning.specs.Sets.{HasOver}
use Rattle.meaning.specs.Executions.{IsExecution}
use Rattle.meaning.specs.Refusals.{HasFault, HasFewCombinations, HasFewExecutions, IsAccepted, IsRefusal}
use Rattle.meaning_executions.proofs.Lists.{index_of, member, left_there, right_there, as_long}
use Rattle.meaning_executions.proofs.Pairing.{run_named, run_numbered}
use Rattle.meaning_executions.specs.Counts.{AreListed}
use Rattle.meaning_executions.specs.Refusals.{refusal_by_name}
use Rattle.meaning_executions.proofs.Once.{rising_once}
use Rattle.meaning_executions.proofs.Bounds.{few_of}
use Rattle.meaning_executions.proofs.Listing.{listed}
use Rattle.meaning_executions.proofs.Refusing.{refused_alike}
use Rattle.meaning_executions.proofs.Combining.{many_combinations, few_combinations}
use Rattle.meaning_executions.specs.Executions.{IsSameExecution}
use Rattle.meaning_executions.proofs.Ordering.{all_of}
use Rattle.std.proofs.lemmas.List.Elements.{All-contains}

module _ (t : Test) where
  abbrev content : Content
  content = content_of t

  domain_of : (p : Program) (V : List Value) → IsProgram t p → IsDomain p V → HasFewCombinations content
  domain_of p V of h =
      let (n, has, few) = h.combinations in
      ((refused_alike t p of).domain h.events h.rounds, few_combinations t p of V h.last n has 1048576 few)

  module _ (initial : List Value) (xs : List numbered.Execution)
      (are : AreTestExecutions t initial xs) where
    list : AreListed content xs
    list = listed t initial xs are

    long : length xs ≡ length list.named
    long = as_long (IsSameExecution content) xs list.named list.same

    many_executions : 16384 < length xs → HasOver 16384 (IsExecution content)
    many_executions many = (
      list.named,
      list.all.once,
      all_of (IsExecution content) list.named (λ x h. (list.all.exact x).0 h),
      let is : length xs ≡ length list.named = long in omega (arith, many, is),
    )

    few_executions : length xs ≤ 16384 → HasOver 16384 (IsExecution content) → ⊥
    few_executions few (ys, once, all, many) =
        let fewer : length ys ≤ length list.named =
        few_of ys list.named (rising_once (λ x y. x ≡ y → ⊥) (λ x other. other refl) ys once)
        (λ x h. (list.all.exact x).1 (All-contains (IsExecution content) ys x all h)) in
        let is : length xs ≡ length list.named = long in
        omega (arith, few, fewer, is, many)

    bounded : length xs ≤ 16384 → HasFewExecutions content
    bounded few =
        (domain_of are.program are.values are.of_test are.domain, few_executions few)

    fault_named : (x : numbered.Execution) → Contains xs x → HasFaultedRun x → HasFault content
    fault_named x there (r, h, fault) =
        let own : _ = left_there (IsSameExecution content) xs list.named list.same x there in
        let at : _ = index_of x.runs r h in
        let found : _ = run_named content 0 own.2.runs at.0 r at.1 in (
          own.0,
          (list.all.exact own.0).0 own.1,
          (found.0, member own.0.runs at.0 found.0 found.1, sym found.2.same.faulted ∙ fault),
        )

    fault_numbered : HasFault content
        → (x : numbered.Execution) × Contains xs x × HasFaultedRun x
    fault_numbered (y, is, (q, h, fault)) =
        let own : _ = right_there (IsSameExecution content) xs list.named list.same y
        ((list.all.exact y).1 is) in
        let at : _ = index_of y.runs q h in
        let found : _ = run_numbered content 0 own.2.runs at.0 q at.1 in (
          own.0,
          own.1,
          (found.0, member own.0.runs at.0 found.0 found.1, found.2.same.faulted ∙ fault),
        )

  pub is_refused : (r : EvalRefusal) → IsSpaceRefusal t r → IsRefusal content (refusal_by_name r)
  is_refused refused.TooManyEvents (p, of, h) = (refused_alike t p of).events h
  is_refused refused.TooManyValues (p, of, h) = (refused_alike t p of).values h
  is_refused refused.TooManyRuns (p, of, h) = (refused_alike t p of).runs h
  is_refused refused.TooManyCombinations (p, of, h) = (
    (refused_alike t p of).domain h.events h.rounds,
    many_combinations t p of h.values h.last h.combinations h.counted 1048576 h.many,
  )
  is_refused refused.TooManyCandidates h = (
    domain_of h.executions.program h.executions.values h.executions.of_test h.executions.domain,
    many_executions h.initial h.all h.executions h.many,
  )
  is_refused refused.AddressFault h = (
    bounded h.initial h.all h.executions h.few,
    fault_named h.initial h.all h.executions h.execution h.there h.fault,
  )

  pub is_accepted : (s : Space) → ListsExecutions t s → IsAccepted content
  is_accepted s h = (
    bounded h.initial h.all h.executions h.few,
    λ fault.
        let found : _ = fault_numbered h.initial h.all h.executions fault in
        h.sound found.0 found.1 found.2,
  )
