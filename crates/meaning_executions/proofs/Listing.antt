-- The list of the executions of a test has each of its executions once.
use Rattle.std.proofs.Common.{◌≡◌, inl, inr, List, [], ◌∷◌, Contains, Some, sym, ap, subst, ◌∙◌, arith}
use Rattle.std.specs.List.{AllZip, flat_map}
use Rattle.std.proofs.lemmas.List.Elements.{All-weaker, All-contains}
use Rattle.text_values.specs.declared.test.Test.{Test}
use Rattle.text_values.specs.TestValue.{Content, content_of}
use Rattle.thread_runs.specs.declared.value.Value.{Value}
use Rattle.thread_runs.specs.declared.instruction.Program.{Program}
use Rattle.thread_runs.specs.Runs.{IsThreadRun}
use Rattle.thread_runs.specs.ValueSet.{IsProperValue}
use Rattle.ppc_lowering.specs.Domain.{threads_of}
use Rattle.store_orders.specs.Lists.{IsFiltered, none, kept, left}
use Rattle.candidates.specs.Executions as numbered
use Rattle.candidates.specs.Executions.{over_runs, product}
use Rattle.candidates.specs.Listed.{AreTestExecutions}
use Rattle.candidates.proofs.AllListed.{all_executions}
use Rattle.meaning.specs.Executions.{Execution, IsExecution}
use Rattle.meaning.proofs.Counting.{head_or_tail}
use Rattle.meaning_executions.proofs.Lists.{at_right, left_there, right_there, member, chosen, StandsOnce}
use Rattle.meaning_executions.specs.Executions.{IsSameExecution, IsProgramExecution, AreSameExecutions}
use Rattle.meaning_executions.proofs.Ordering.{all_of, once_apart}
use Rattle.meaning_executions.proofs.Matching.{same_executions}
use Rattle.meaning_executions.specs.Counts.{AreListed}
use Rattle.meaning_executions.proofs.Once.{executions_once}

filtered_holds : {X : Type 0} (P : X → Type 0) (xs ys : List X) → IsFiltered P xs ys → (x : X)
    → Contains ys x → P x
filtered_holds P [] ys none x (k, lt, eq) = absurd (omega arith)
filtered_holds {X} P (z ∷ xs) ys (kept {ys = us} q f) x c = elim (head_or_tail z us x c) [
  | inl e ↦ subst P e q
  | inr d ↦ filtered_holds P xs us f x d
]
filtered_holds P (z ∷ xs) ys (left fails f) x c = filtered_holds P xs ys f x c

weaker : {X Y : Type 0} (R S : X → Y → Type 0) → ((x : X) (y : Y) → R x y → S x y) → (xs : List X)
    (ys : List Y) → AllZip R xs ys → AllZip S xs ys
weaker R S to [] [] h = tt
weaker R S to [] (y ∷ ys) h = absurd h
weaker R S to (x ∷ xs) [] h = absurd h
weaker R S to (x ∷ xs) (y ∷ ys) h = (to x y h.0, weaker R S to xs ys h.1)

module _ (t : Test) (initial : List Value) (xs : List numbered.Execution)
    (are : AreTestExecutions t initial xs) where
  abbrev p : Program
  p = are.program

  abbrev V : List Value
  V = are.values

  abbrev content : Content
  content = content_of t

  alike : AreSameExecutions content p V
  alike = same_executions t p are.of_test V are.domain.last

  pub is_one : (x : numbered.Execution) → Contains xs x → IsProgramExecution p V x
  is_one x there =
      subst (λ (vs : List Value). numbered.IsExecution vs (threads_of p) (Contains V) x) are.starts
      (filtered_holds (numbered.IsExecution initial (threads_of p) (Contains V))
      (flat_map (over_runs initial) (product are.executions.runs)) xs are.executions.executions x
      there)

  is_there : (x : numbered.Execution) → IsProgramExecution p V x → Contains xs x
  is_there x is =
      let own : numbered.IsExecution initial (threads_of p) (Contains V) x =
      subst (λ (vs : List Value). numbered.IsExecution vs (threads_of p) (Contains V) x)
      (sym are.starts) is in
      (all_executions t initial xs are x).1
      (record {
        runs =
            weaker (λ s r. IsThreadRun s (Contains V) r) (λ s r. IsThreadRun s IsProperValue r)
            (λ s r h. (
              All-weaker (Contains V) IsProperValue
                  (λ v c. All-contains IsProperValue V v are.domain.last.set.proper c) r.values h.0,
              h.1,
            )) (threads_of p) x.runs own.runs;
        reads = own.reads;
        orders = own.orders;
        acyclic = own.acyclic;
      })

  -- an execution by name that is the same
  abbrev IsNamed : numbered.Execution → Execution → Type 0
  IsNamed x y = IsExecution content y × IsSameExecution content x y

  named : (x : numbered.Execution) → IsProgramExecution p V x → (y : Execution) × IsNamed x y
  named x is = let by : _ = alike.by_name x is in (by.0, (by.1, by.2))

  abbrev chosen_names : (ys : List Execution) × AllZip IsNamed xs ys
  chosen_names =
      chosen IsNamed (IsProgramExecution p V) named xs (all_of (IsProgramExecution p V) xs is_one)

  pub listed : AreListed content xs
  listed =
      let own : (ys : List Execution) × AllZip IsNamed xs ys = chosen_names in
      let ys : List Execution = own.0 in
      let once : StandsOnce ys = λ m n y at there.
      let first : _ = at_right IsNamed xs ys own.1 m y at in
      let second : _ = at_right IsNamed xs ys own.1 n y there in
      let same : second.0 ≡ first.0 =
      alike.one_number second.0 first.0 y (is_one second.0 (member xs n second.0 second.1))
      (is_one first.0 (member xs m first.0 first.1)) second.2.1 first.2.1 in
      executions_once initial (threads_of p) V xs are.executions m n first.0 first.1
      (second.1 ∙ ap (λ (x : numbered.Execution). Some x) same) in
      record {
        named = ys;
        all = record {
          once = once_apart ys once;
          exact = λ y. (
            (λ there. let found : _ = right_there IsNamed xs ys own.1 y there in found.2.0),
            (λ is.
                let by : _ = alike.by_number y is in
                let back : _ = left_there IsNamed xs ys own.1 by.0 (is_there by.0 by.1) in
                let same : back.0 ≡ y =
                alike.one_name by.0 back.0 y back.2.0 is back.2.1 by.2 in
                subst (λ (z : Execution). Contains ys z) same back.1),
          );
        };
        same = weaker IsNamed (IsSameExecution content) (λ x y h. h.1) xs ys own.1;
      }
