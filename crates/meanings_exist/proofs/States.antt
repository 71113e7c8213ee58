-- The final states of the executions of a list, in order and counted.
use Rattle.std.proofs.Common.{◌≡◌, ◌↔◌, inl, inr, ℕ, List, [], ◌∷◌, map, length, Contains, refl, sym, ap₂, subst}
use Rattle.std.specs.List.{AllByRecursion}
use Rattle.std.proofs.lemmas.List.Elements.{All-from_recursion}
use Rattle.text_values.specs.TestValue.{Content}
use Rattle.meaning.specs.Sets.{Set, IsListOf, HasCount}
use Rattle.meaning.specs.Machine.{Value}
use Rattle.meaning.specs.Executions.{Execution, IsExecution}
use Rattle.meaning.specs.Outcome.{CountedState, IsCounted, AreStates, IsStateBefore, EndsIn, Satisfies, observables}
use Rattle.meaning.proofs.Counting.{here, behind, head_or_tail}
use Rattle.meaning.proofs.Finals.{ends_in_one}
use Rattle.meaning_laws.specs.Words.{IsTestOfWords}
use Rattle.plain_runs.proofs.Listing.{none_there, mapped_from}
use Rattle.meanings_exist.proofs.Decisions.{Decided, answer, answer_is, answer_from}
use Rattle.meanings_exist.proofs.Sublists.{counted_part, decide_each, above_none}
use Rattle.meanings_exist.specs.Sorted.{Rises, IsGood}
use Rattle.meanings_exist.proofs.Sorting.{sorted, pairs_rise}
use Rattle.meanings_exist.proofs.Ordering.{states_transitive, states_compared}
use Rattle.meanings_exist.proofs.Ending.{ends, ends_or_not, ends_well, satisfied_alike, satisfied_or_not}

module _ (t : Content) (of : IsTestOfWords t) (Kept : Set Execution)
    (are : (x : Execution) → Kept x → IsExecution t x) (ks : List Execution)
    (listed : IsListOf Kept ks) where
  -- some execution of the list ends in the state
  abbrev IsEnd : List Execution → List Value → Type 0
  IsEnd xs s = (x : Execution) × Contains xs x × EndsIn t x s

  all_ends : (xs : List Execution) → ((x : Execution) → Contains xs x → IsExecution t x)
      → (ss : List (List Value)) × ((s : List Value) → Contains ss s ↔ IsEnd xs s)
  all_ends [] each =
      ([], λ s. ((λ there. absurd (none_there s there)), λ h. absurd (none_there h.0 h.1)))
  all_ends (x ∷ xs) each =
      let first : (s : List Value) × EndsIn t x s = ends t x (each x (here x xs)) in
      let rest : _ = all_ends xs (λ y there. each y (behind x xs y there)) in
      (first.0 ∷ rest.0, λ s. (to first rest.0 rest.1 s, back first rest.0 rest.1 s))
    where
      to : (first : (r : List Value) × EndsIn t x r) (ss : List (List Value))
          → ((r : List Value) → Contains ss r ↔ IsEnd xs r) → (s : List Value)
          → Contains (first.0 ∷ ss) s → IsEnd (x ∷ xs) s
      to first ss exact s there = elim (head_or_tail first.0 ss s there) [
        | inl at ↦ (x, here x xs, subst (λ (r : List Value). EndsIn t x r) at first.1)
        | inr later ↦
            let found : _ = (exact s).0 later in
            (found.0, behind x xs found.0 found.1, found.2)
      ]

      back : (first : (r : List Value) × EndsIn t x r) (ss : List (List Value))
          → ((r : List Value) → Contains ss r ↔ IsEnd xs r) → (s : List Value)
          → IsEnd (x ∷ xs) s → Contains (first.0 ∷ ss) s
      back first ss exact s (y, there, h) = elim (head_or_tail x xs y there) [
        | inl at ↦
            subst (λ (r : List Value). Contains (first.0 ∷ ss) r)
            (ends_in_one t y first.0 s (subst (λ (z : Execution). EndsIn t z first.0) at first.1)
            h)
            (here first.0 ss)
        | inr later ↦ behind first.0 ss s ((exact s).1 (y, later, h))
      ]

  is_kept : (x : Execution) → Contains ks x → Kept x
  is_kept x there = (listed.exact x).0 there

  is_one : (x : Execution) → Contains ks x → IsExecution t x
  is_one x there = are x (is_kept x there)

  good_end : (s : List Value) → IsEnd ks s → IsGood (length (observables t)) s
  good_end s (x, there, h) = ends_well t x (is_one x there) of s h

  -- what is said of a state in which an execution ends
  counted_state : (s : List Value) → IsEnd ks s
      → (c : CountedState) × (c.values ≡ s) × IsCounted t Kept c
  counted_state s (x, there, h) =
      let number : (n : ℕ) × HasCount (λ y. Kept y × EndsIn t y s) n =
      counted_part Kept (λ y. EndsIn t y s) ks listed
      (decide_each (λ y. Decided (EndsIn t y s)) ks (λ y in_list. ends_or_not t y (is_one y in_list) s))
      in
      let told : Decided (Satisfies t x t.condition) = satisfied_or_not t x (is_one x there) in (
        record { values = s; count = number.0; holds = answer told },
        refl,
        record {
          count = number.1;
          above = above_none (λ y. Kept y × EndsIn t y s) number.0 x number.1
              (is_kept x there, h);
          holds = λ y kept g.
              let alike : _ = satisfied_alike t x y s h g in
              ((λ e. alike.0 (answer_is told e)), λ e. answer_from told (alike.1 e));
        },
      )

  counted_states : (ss : List (List Value)) → ((s : List Value) → Contains ss s → IsEnd ks s)
      → (cs : List CountedState) × (map (λ c. c.values) cs ≡ ss)
      × AllByRecursion (IsCounted t Kept) cs
  counted_states [] each = ([], refl, tt)
  counted_states (s ∷ ss) each =
      let first : _ = counted_state s (each s (here s ss)) in
      let rest : _ = counted_states ss (λ r there. each r (behind s ss r there)) in (
        first.0 ∷ rest.0,
        ap₂ (λ (h : List Value) (l : List (List Value)). h ∷ l) first.1 rest.1,
        (first.2, rest.2),
      )

  -- the states in which the executions end, in their order
  sorted_ends : (ss : List (List Value)) × Rises IsStateBefore ss
      × ((s : List Value) → Contains ss s ↔ IsEnd ks s)
  sorted_ends =
      let all : (ss : List (List Value)) × ((s : List Value) → Contains ss s ↔ IsEnd ks s) =
      all_ends ks is_one in
      let order : _ =
      sorted IsStateBefore (IsGood (length (observables t)))
      (states_compared (length (observables t))) states_transitive all.0
      (λ s there. good_end s ((all.1 s).0 there)) in (
        order.0,
        order.1,
        λ s. (
          (λ there. (all.1 s).0 ((order.2 s).0 there)),
          λ h. (order.2 s).1 ((all.1 s).1 h),
        ),
      )

  pub states_of : (cs : List CountedState) × AreStates t Kept cs
  states_of =
      let order : (ss : List (List Value)) × Rises IsStateBefore ss
      × ((s : List Value) → Contains ss s ↔ IsEnd ks s) = sorted_ends in
      let all : (cs : List CountedState) × (map (λ c. c.values) cs ≡ order.0)
      × AllByRecursion (IsCounted t Kept) cs =
      counted_states order.0 (λ s there. (order.2 s).0 there) in (
        all.0,
        record {
          rising = pairs_rise IsStateBefore (λ (c : CountedState). c.values) all.0
              (subst (λ (l : List (List Value)). Rises IsStateBefore l) (sym all.1) order.1);
          counted = All-from_recursion (IsCounted t Kept) all.0 all.2;
          whole = λ x kept. state_there order.0 order.2 all.0 all.1 x kept;
        },
      )
    where
      state_there : (ss : List (List Value)) → ((s : List Value) → Contains ss s ↔ IsEnd ks s)
          → (cs : List CountedState) → map (λ c. c.values) cs ≡ ss → (x : Execution) → Kept x
          → (c : CountedState) × Contains cs c × EndsIn t x c.values
      state_there ss exact cs same x kept =
          let there : Contains ks x = (listed.exact x).1 kept in
          let at : (s : List Value) × EndsIn t x s = ends t x (is_one x there) in
          let in_states : Contains (map (λ (c : CountedState). c.values) cs) at.0 =
          subst (λ (l : List (List Value)). Contains l at.0) (sym same)
          ((exact at.0).1 (x, there, at.1)) in
          let found : (c : CountedState) × Contains cs c × (c.values ≡ at.0) =
          mapped_from (λ (c : CountedState). c.values) cs at.0 in_states in
          (found.0, found.1, subst (λ (s : List Value). EndsIn t x s) (sym found.2) at.1)
