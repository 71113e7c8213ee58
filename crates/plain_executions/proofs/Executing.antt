-- The executions of a test, as a list.
use Rattle.std.proofs.Common.{◌≡◌, inl, inr, ℕ, ◌+◌, ◌<◌, ◌≤◌, List, [], ◌++◌, length, map, take, get_or, Contains, Bool, true, false, refl, sym, ap, subst, ◌∙◌, arith}
use Rattle.std.proofs.lemmas.List.{length-map, get_or-map}
use Rattle.std.proofs.lemmas.List.Elements.{Contains-push_cases}
use Rattle.text_values.specs.TestValue.{Content}
use Rattle.meaning.specs.Sets.{Set, IsOnce, IsListOf, HasOver}
use Rattle.meaning.specs.Runs.{Run}
use Rattle.meaning.specs.Executions.{Event, Execution, AreRuns, IsExecution}
use Rattle.meaning.specs.Refusals.{HasDomain, HasFewExecutions, IsAccepted, IsRefusal, TooManyCandidates, AddressFault}
use Rattle.plain_runs.proofs.Listing.{Over, listed_as, listed_map, over_more, over_all}
use Rattle.plain_runs.proofs.Counting.{has_over, has_not_over}
use Rattle.plain_runs.proofs.Mapping.{there_at, mapped_more, mapped_all}
use Rattle.plain_executions.specs.declared.execution.Execution as code
use Rattle.plain_executions.specs.Executions.{execution_as, execution_of, IsReadsFromOf, IsCoherenceOf, IsExecutionWith, IsExecutionFrom, IsExecutionOf, HasFaultAmong}

-- ---- a loop over what a list is mapped to

module _ {A X Y : Type 0} (G : X → Set Y) (f : A → X)
    (one : (a b : X) (y : Y) → G a y → G b y → a ≡ b) where
  pub over_step : (xs : List A) (k : ℕ) (d : A) (old more new : List Y) → k < length xs
      → IsOnce (map f xs) → IsListOf (Over G (take k (map f xs))) old
      → IsListOf (G (f (get_or xs k d))) more → new ≡ old ++ more
      → IsListOf (Over G (take (k + 1) (map f xs))) new
  over_step xs k d old more new lt once before listed e =
      over_more G (map f xs) k (f d) old more new
      (let long : length (map f xs) ≡ length xs = length-map xs f in omega (arith, long, lt)) once one
      before
      (subst (λ (x : X). IsListOf (G x) more) (sym (get_or-map f xs k d (f d) lt)) listed) e

  pub over_end : (xs : List A) (k : ℕ) (ys : List Y) → length xs ≤ k
      → IsListOf (Over G (take k (map f xs))) ys → IsListOf (Over G (map f xs)) ys
  over_end xs k ys le listed =
      over_all G (map f xs) k ys
      (let long : length (map f xs) ≡ length xs = length-map xs f in omega (arith, long, le)) listed

-- ---- the executions of runs

module _ (runs : List Run) (orders : List (List (List Event))) where
  pub with_listed : (reads_from : List Event) (xs : List Execution) → IsOnce orders
      → xs ≡ map (execution_of runs reads_from) orders
      → IsListOf (IsExecutionWith runs orders reads_from) xs
  with_listed reads_from xs once e =
      subst (λ (l : List Execution). IsListOf (IsExecutionWith runs orders reads_from) l) (sym e)
      (listed_map (execution_of runs reads_from) (Contains orders) orders
      (λ co other same. ap (λ (x : Execution). x.coherence) same)
      (record { once = once; exact = λ co. ((λ there. there), λ there. there) }))

  pub one_reads : (first second : List Event) (x : Execution)
      → IsExecutionWith runs orders first x → IsExecutionWith runs orders second x → first ≡ second
  one_reads first second x is also =
      ap (λ (y : Execution). y.reads_from) (is.2 ∙ sym also.2)

pub of_listed : (t : Content) (runs : List Run) (all : List (List Event))
    (orders : List (List (List Event))) (xs : List Execution) → IsListOf (IsReadsFromOf t runs) all
    → IsListOf (IsCoherenceOf t runs) orders → IsListOf (IsExecutionFrom runs all orders) xs
    → IsListOf (IsExecutionOf t runs) xs
of_listed t runs all orders xs reads coherent listed =
    listed_as (IsExecutionFrom runs all orders) (IsExecutionOf t runs) xs (λ x. (to x, back x)) listed
  where
    made : (x : Execution) (reads_from : List Event) (coherence : List (List Event))
        → execution_of runs reads_from coherence ≡ x → IsReadsFromOf t runs reads_from
        → IsCoherenceOf t runs coherence → IsExecutionOf t runs x
    made x reads_from coherence e is are =
        subst (λ (y : Execution). IsExecutionOf t runs y) e (refl, is, are)

    to : (x : Execution) → IsExecutionFrom runs all orders x → IsExecutionOf t runs x
    to x (reads_from, there, (coherence, also, e)) =
        made x reads_from coherence e ((reads.exact reads_from).0 there)
        ((coherent.exact coherence).0 also)

    back : (x : Execution) → IsExecutionOf t runs x → IsExecutionFrom runs all orders x
    back x (same, is, are) = (
      x.reads_from,
      (reads.exact x.reads_from).1 is,
      (
        x.coherence,
        (coherent.exact x.coherence).1 are,
        ap (λ (rs : List Run). execution_of rs x.reads_from x.coherence) (sym same),
      ),
    )

module _ (t : Content) where
  pub one_runs : (first second : List Run) (x : Execution) → IsExecutionOf t first x
      → IsExecutionOf t second x → first ≡ second
  one_runs first second x is also = sym is.0 ∙ also.0

  execution_to : (runs : List Run) (x : Execution) → AreRuns t runs → IsExecutionOf t runs x
      → IsExecution t x
  execution_to runs x are (same, is, orders) =
      whole (subst (λ (rs : List Run). AreRuns t rs) (sym same) are)
      (subst (λ (rs : List Run). IsReadsFromOf t rs x.reads_from) (sym same) is)
      (subst (λ (rs : List Run). IsCoherenceOf t rs x.coherence) (sym same) orders)
    where
      whole : AreRuns t x.runs → IsReadsFromOf t x.runs x.reads_from
          → IsCoherenceOf t x.runs x.coherence → IsExecution t x
      whole runs reads coherent =
          record { runs = runs; reads = reads.0; orders = coherent; acyclic = reads.1 }

  pub all_listed : (combinations : List (List Run)) (xs : List Execution)
      → IsListOf (AreRuns t) combinations → IsListOf (Over (IsExecutionOf t) combinations) xs
      → IsListOf (IsExecution t) xs
  all_listed combinations xs are listed =
      listed_as (Over (IsExecutionOf t) combinations) (IsExecution t) xs
      (λ x. (
        (λ is. execution_to is.0 x ((are.exact is.0).0 is.1) is.2),
        λ is. (x.runs, (are.exact x.runs).1 is.runs, (refl, (is.reads, is.acyclic), is.orders)),
      ))
      listed

  -- ---- refusals

  pub too_many : (xs : List Execution) → HasDomain t → (HasOver 1048576 (AreRuns t) → ⊥)
      → IsListOf (IsExecution t) xs → 16384 < length xs → IsRefusal t TooManyCandidates
  too_many xs domain few listed many =
      ((domain, few), has_over (IsExecution t) xs 16384 listed many)

  few_executions : (xs : List Execution) → HasDomain t → (HasOver 1048576 (AreRuns t) → ⊥)
      → IsListOf (IsExecution t) xs → (16384 < length xs → ⊥) → HasFewExecutions t
  few_executions xs domain few listed not_many =
      ((domain, few), has_not_over (IsExecution t) xs 16384 listed le)
    where
      le : length xs ≤ 16384
      le = grind (arith, not_many)

  pub faulty : (xs : List Execution) → HasDomain t → (HasOver 1048576 (AreRuns t) → ⊥)
      → IsListOf (IsExecution t) xs → (16384 < length xs → ⊥) → HasFaultAmong xs
      → IsRefusal t AddressFault
  faulty xs domain few listed not_many (x, there, is) =
      (few_executions xs domain few listed not_many, (x, (listed.exact x).0 there, is))

  pub sound : (xs : List Execution) → HasDomain t → (HasOver 1048576 (AreRuns t) → ⊥)
      → IsListOf (IsExecution t) xs → (16384 < length xs → ⊥) → (HasFaultAmong xs → ⊥)
      → IsAccepted t
  sound xs domain few listed not_many none = (
    few_executions xs domain few listed not_many,
    λ is. none (is.0, (listed.exact is.0).1 is.1, is.2),
  )

-- ---- some thing of a list has a property

module _ {X Y : Type 0} (P : Y → Type 0) (f : X → Y) where
  abbrev pub Has : List Y → Type 0
  Has ys = (y : Y) × Contains ys y × P y

  pub none_begin : Has [] → ⊥
  none_begin (y, there, is) = let lt : _ = there.1 in omega (arith, lt)

  pub none_further : (xs : List X) (k : ℕ) (d : X) → k < length xs → (P (f (get_or xs k d)) → ⊥)
      → (Has (take k (map f xs)) → ⊥) → Has (take (k + 1) (map f xs)) → ⊥
  none_further xs k d lt other before (y, there, is) =
      elim (Contains-push_cases (take k (map f xs)) (f (get_or xs k d)) y (subst (λ (l : List Y). Contains l y) (mapped_more f xs k d lt) there)) [
        | inl earlier ↦ before (y, earlier, is)
        | inr at ↦ other (subst P (sym at) is)
      ]

  pub none_at_all : (xs : List X) (k : ℕ) → length xs ≤ k → (Has (take k (map f xs)) → ⊥)
      → Has (map f xs) → ⊥
  none_at_all xs k le none =
      subst (λ (l : List Y). Has l → ⊥) (mapped_all f xs k le) none

  pub one_has : (xs : List X) (k : ℕ) (d : X) → k < length xs → P (f (get_or xs k d))
      → Has (map f xs)
  one_has xs k d lt is = (f (get_or xs k d), there_at f xs k d (f (get_or xs k d)) lt refl, is)

pub not_faulted : (b : Bool) → b ≡ false → b ≡ true → ⊥
not_faulted b e is = let h : false ≡ true = sym e ∙ is in cc

-- what the code lists, and what that is
pub many_as : (xs same : List code.Execution) → same ≡ xs → 16384 < length same
    → 16384 < length (map execution_as xs)
many_as xs same e lt =
    let long : length (map execution_as xs) ≡ length xs = length-map xs execution_as in
    let also : length same ≡ length xs = ap (λ (l : List code.Execution). length l) e in
    omega (arith, long, also, lt)

pub not_many : (xs same : List code.Execution) → same ≡ xs → (16384 < length same → ⊥)
    → 16384 < length (map execution_as xs) → ⊥
not_many xs same e few lt =
    let long : length (map execution_as xs) ≡ length xs = length-map xs execution_as in
    let also : length same ≡ length xs = ap (λ (l : List code.Execution). length l) e in
    few (omega (arith, long, also, lt))
