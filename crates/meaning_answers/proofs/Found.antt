-- The executions of a test in the order of its candidates, and which of them are chosen.
use Rattle.std.proofs.Common.{ℕ, zero, suc, ◌≡◌, ◌<◌, ◌≤◌, ◌+◌, ◌↔◌, ◌⊎◌, inl, inr, List, [], ◌∷◌, ◌++◌, length, map, IsTrue, Contains, Option, Some, None, option_map, refl, sym, ap, subst, ◌∙◌, arith}
use Rattle.std.specs.Prelude.{slice_get}
use Rattle.std.proofs.lemmas.Bool.{cases_lt}
use Rattle.std.proofs.lemmas.List.{length-map}
use Rattle.std.proofs.lemmas.List.Elements.{Contains-append_left, Contains-append_right, Contains-append_cases}
use Rattle.std.proofs.lemmas.Option.{same_Some, slice_get-map, slice_get_within, get_or_from_slice_get}
use Rattle.text_values.specs.declared.test.Test.{Test}
use Rattle.text_values.specs.TestValue.{Content, content_of}
use Rattle.candidate_spaces.specs.declared.candidate.Space.{Space}
use Rattle.candidates.specs.Listed.{ListsExecutions, ShowsExecution}
use Rattle.candidate_spaces.specs.Space.{Candidate, Shown, candidates_in, candidate_count, shown_in, shown_of}
use Rattle.verdict.specs.Evaluated.{is_satisfied}
use Rattle.why_forbidden.specs.Told.{Scene}
use Rattle.meaning.specs.Sets.{IsListOf}
use Rattle.meaning.specs.Names.{Name}
use Rattle.meaning.specs.Executions.{Execution, IsExecution}
use Rattle.meaning.specs.Outcome.{Satisfies}
use Rattle.meaning_executions.proofs.Located.{numbered_are}
use Rattle.meaning_executions.proofs.Lists.{StandsOnce, none_twice, one_more_once, both_once, index_of, member, as_long, at_left, at_right}
use Rattle.meaning_executions.specs.Executions.{IsSameExecution}
use Rattle.meaning_executions.proofs.Ordering.{once_apart}
use Rattle.meaning_states.proofs.Listing.{IsPair, all_named, pair_at}
use Rattle.meaning_laws.specs.Words.{IsTestOfWords}
use Rattle.meaning_executions.specs.Satisfied.{IsShownAs}
use Rattle.meaning_executions.proofs.Conditions.{all_meant}

-- ---- what is chosen of a list of executions, before an index

module _ (P : Execution → Type 0) (ys : List Execution) (apart : StandsOnce ys) where
  -- those that have the property, each once
  pub record AreChosen (k : ℕ) (chosen : List Execution) : Type 0 where
    pub once : StandsOnce chosen
    pub exact : (z : Execution)
        → Contains chosen z ↔ ((i : ℕ) × (i < k) × (slice_get ys i ≡ Some z) × P z)

  pub none_chosen : AreChosen 0 []
  none_chosen = record {
    once = none_twice;
    exact = λ z. (
      λ c. absurd (let lt = c.1 in omega (arith, lt)),
      λ h. absurd (let lt = h.1 in omega (arith, lt)),
    );
  }

  module _ (k : ℕ) (chosen : List Execution) (before : AreChosen k chosen) (y : Execution)
      (at : slice_get ys k ≡ Some y) where
    -- the next, if it has not the property
    pub one_left : (P y → ⊥) → AreChosen (k + 1) chosen
    one_left never = record {
      once = before.once;
      exact = λ z. (
        λ c. let h = (before.exact z).0 c in
            let lt = h.1 in (h.0, omega (arith, lt), h.2, h.3),
        λ h. (before.exact z).1
            (h.0, less h.0 h.1 z h.2 h.3 (cases_lt h.0 k), h.2, h.3),
      );
    }
      where
        less : (i : ℕ) → i < k + 1 → (z : Execution) → slice_get ys i ≡ Some z → P z
            → (i < k) ⊎ (k ≤ i) → i < k
        less i lt z e p (inl less_than) = less_than
        less i lt z e p (inr le) =
            let same : i ≡ k = omega (arith, lt, le) in
            absurd
            (never
            (subst P (same_Some _ _ (sym e ∙ (ap (λ (j : ℕ). slice_get ys j) same ∙ at))) p))

    -- the next, if it has it
    pub one_more : P y → AreChosen (k + 1) (chosen ++ y ∷ [])
    one_more p = record {
      once =
          both_once chosen (y ∷ []) before.once
          (one_more_once y [] (λ i e. absurd (let f : None ≡ Some y = e in cc)) none_twice)
          (λ i j z there also.
          let c : Contains chosen z = member chosen i z there in
          let h = (before.exact z).0 c in
          let is : y ≡ z = alone j z also in
          let same : h.0 ≡ k =
          apart h.0 k z h.2 (at ∙ ap (λ (x : Execution). Some x) is) in
          let lt = h.1 in omega (arith, lt, same));
      exact = λ z. (
        λ c. from z (Contains-append_cases chosen (y ∷ []) z c),
        λ h. into z h.0 h.1 h.2 h.3 (cases_lt h.0 k),
      );
    }
      where
        alone : (j : ℕ) (z : Execution) → slice_get (y ∷ []) j ≡ Some z → y ≡ z
        alone zero z e = same_Some _ _ e
        alone (suc j) z e = absurd (let f : None ≡ Some z = e in cc)

        from : (z : Execution) → Contains chosen z ⊎ Contains (y ∷ []) z
            → (i : ℕ) × (i < k + 1) × (slice_get ys i ≡ Some z) × P z
        from z (inl c) =
            let h = (before.exact z).0 c in
            let lt = h.1 in (h.0, omega (arith, lt), h.2, h.3)
        from z (inr c) =
            let i = index_of (y ∷ []) z c in
            let is : y ≡ z = alone i.0 z i.1 in
            (k, omega arith, at ∙ ap (λ (x : Execution). Some x) is, subst P is p)

        into : (z : Execution) (i : ℕ) → i < k + 1 → slice_get ys i ≡ Some z → P z
            → (i < k) ⊎ (k ≤ i) → Contains (chosen ++ y ∷ []) z
        into z i lt e q (inl less) =
            Contains-append_left chosen (y ∷ []) z ((before.exact z).1 (i, less, e, q))
        into z i lt e q (inr le) =
            let same : i ≡ k = omega (arith, lt, le) in
            let is : y ≡ z =
            same_Some _ _ (sym at ∙ (ap (λ (j : ℕ). slice_get ys j) (sym same) ∙ e)) in
            Contains-append_right chosen (y ∷ []) z
            (subst (λ (x : Execution). Contains (y ∷ []) x) is (member (y ∷ []) 0 y refl))

  -- all that have the property
  pub all_chosen : (k : ℕ) (chosen : List Execution) → AreChosen k chosen → length ys ≡ k
      → ((z : Execution) → P z → Contains ys z) → IsListOf P chosen
  all_chosen k chosen h long there = record {
    once = once_apart chosen h.once;
    exact = λ z. (
      λ c. ((h.exact z).0 c).3,
      λ p.
          let i = index_of ys z (there z p) in
          let lt = slice_get_within ys i.0 z i.1 in
          (h.exact z).1 (i.0, omega (arith, lt, long), i.1, p),
    );
  }

-- ---- the executions of a test

module _ (t : Test) (words : IsTestOfWords (content_of t)) (s : Space) (lists : ListsExecutions t s)
  where
    abbrev content : Content
    content = content_of t

    abbrev pub executions : List Execution
    executions = (all_named t s lists).named

    pub long : length executions ≡ candidate_count s
    long =
        sym (as_long (IsSameExecution content) lists.all executions (all_named t s lists).same)
        ∙ as_long (ShowsExecution lists.initial) lists.all (shown_in s) lists.shown
        ∙ length-map (candidates_in s.combinations.items) (shown_of s.registers.items)

    pub twice : StandsOnce executions
    twice m n z e f = by (cases_lt m n) (cases_lt n m)
      where
        apart : (a b : ℕ) → a < b → slice_get executions a ≡ Some z → slice_get executions b ≡ Some z → ⊥
        apart a b lt at also =
            (all_named t s lists).all.once a b z lt (slice_get_within executions b z also)
            (get_or_from_slice_get executions a z z at ∙ sym (get_or_from_slice_get executions b z z also))

        by : (m < n) ⊎ (n ≤ m) → (n < m) ⊎ (m ≤ n) → m ≡ n
        by (inl lt) other = absurd (apart m n lt e f)
        by (inr le) (inl lt) = absurd (apart n m lt f e)
        by (inr le) (inr ge) = omega (arith, le, ge)

    pub listed : (z : Execution) → IsExecution content z → Contains executions z
    listed z h = ((all_named t s lists).all.exact z).1 h

    -- the execution of a candidate
    pub record IsFound (k : ℕ) (shown : Shown) : Type 0 where
      pub execution : Execution
      pub there : slice_get executions k ≡ Some execution

    pub found_at : (k : ℕ) (shown : Shown) → slice_get (shown_in s) k ≡ Some shown → IsFound k shown
    found_at k shown e =
        let x = at_right (ShowsExecution lists.initial) lists.all (shown_in s) lists.shown k shown e in
        let y = at_left (IsSameExecution content) lists.all executions (all_named t s lists).same k x.0 x.1 in
        record { execution = y.0; there = y.1 }

    module _ (k : ℕ) (shown : Shown) (e : slice_get (shown_in s) k ≡ Some shown) (y : Execution)
        (there : slice_get executions k ≡ Some y) where
      abbrev pub pair : IsPair t s lists k y
      pair = pair_at t s lists k y there

      pub shown_is : shown_of s.registers.items pair.one ≡ shown
      shown_is =
          same_Some _ _
          (sym
          (slice_get-map (shown_of s.registers.items) (candidates_in s.combinations.items) k
          ∙ ap (λ (o : Option Candidate). option_map (shown_of s.registers.items) o) pair.at)
          ∙ e)

      shown_as : IsShownAs t y shown
      shown_as = record {
        program = lists.executions.program;
        of_test = lists.executions.of_test;
        values = lists.executions.values;
        execution = pair.execution;
        is = pair.is_one;
        by_name = pair.is;
        same = pair.same;
        shows =
            subst
            (λ (d : Shown). ShowsExecution lists.executions.program.initial.items pair.execution d)
            shown_is pair.shows;
      }

      pub condition_alike : IsTrue (is_satisfied s.locations.items content.condition shown)
          ↔ Satisfies content y content.condition
      condition_alike =
          subst
          (λ (names : List Name). IsTrue (is_satisfied names content.condition shown)
          ↔ Satisfies content y content.condition)
          (sym (numbered_are t s.locations.items lists.locations)) (all_meant t words y shown shown_as)

      pub events_are : (scene : Scene) → scene.events ≡ shown.events
          → scene.events ≡ pair.one.0.events.items
      events_are scene of = of ∙ sym (ap (λ (d : Shown). d.events) shown_is)
