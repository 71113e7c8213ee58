-- What the kept executions of a test say.
use Rattle.std.proofs.Common.{◌≡◌, ◌↔◌, ℕ, List, [], ◌∷◌, length, map, Contains, Bool, true, false, IsTrue, refl, sym, ap₂, subst, ◌∙◌, true≢false}
use Rattle.std.specs.List.{AllZip, AllByRecursion}
use Rattle.std.proofs.lemmas.List.Elements.{All-from_recursion}
use Rattle.text_values.specs.ModelValue.{Clause}
use Rattle.text_values.specs.TestValue.{Content}
use Rattle.meaning.specs.Sets.{HasCount}
use Rattle.meaning.specs.Names.{Name}
use Rattle.meaning.specs.Machine as machine
use Rattle.meaning.specs.Executions.{Execution}
use Rattle.meaning.specs.Outcome as outcome
use Rattle.meaning.specs.Outcome.{IsStateBefore, IsCounted, AreStates, EndsIn, Satisfies, AreFlags, observables}
use Rattle.meaning.specs.Evaluates.{IsKept, MeetsFlag}
use Rattle.meaning.proofs.Counting.{here, behind}
use Rattle.meaning.proofs.Finals.{ends_in_one}
use Rattle.meaning_laws.specs.Words.{IsTestOfWords}
use Rattle.meanings_exist.specs.Sorted.{Rises, IsInOrder, IsGood}
use Rattle.meanings_exist.proofs.Sorting.{pairs_rise}
use Rattle.meanings_exist.proofs.Ending.{ends_well, satisfied_alike}
use Rattle.plain_runs.proofs.Listing.{there_mapped, mapped_from}
use Rattle.plain_ends.specs.declared.ending.End.{End}
use Rattle.plain_ends.specs.Ends.{values_as, EndsSo}
use Rattle.plain_outcomes.specs.declared.kept.Kept as code
use Rattle.plain_outcomes.specs.declared.states.CountedState as code_state
use Rattle.plain_outcomes.specs.States.{end_state, ends_as, counted_as, AreGood, HaveCount, IsCountedOf}
use Rattle.plain_outcomes.specs.Kept.{AreEndsOf}
use Rattle.plain_outcomes.proofs.Counting.{some_counted, right_of, left_of, counted}
use Rattle.plain_outcomes.proofs.Flagging.{raised_as}

abbrev State : Type 0
State = List machine.Value

module _ (t : Content) (items : List Clause) (k : code.Kept)
    (are : AreEndsOf t items (IsKept t items) k) where
  abbrev ends : List End
  ends = k.ends.items

  -- an end of a kept execution
  end_of : (x : Execution) → IsKept t items x → (e : End) × Contains ends e × EndsSo t x e
  end_of x is = right_of (EndsSo t) are.executions ends are.ends x ((are.listed.exact x).1 is)

  -- the kept execution of an end
  of_end : (e : End) → Contains ends e → (x : Execution) × IsKept t items x × EndsSo t x e
  of_end e there =
      let found : _ = left_of (EndsSo t) are.executions ends are.ends e there in
      (found.0, (are.listed.exact found.0).0 found.1, found.2)

  pub ends_are_good : IsTestOfWords t → AreGood (ends_as ends)
  ends_are_good of = record { count = length (observables t); good = good }
    where
      good : (s : State) → Contains (ends_as ends) s → IsGood (length (observables t)) s
      good s there =
          let e : (e : End) × Contains ends e × (end_state e ≡ s) = mapped_from end_state ends s there in
          let x : _ = of_end e.0 e.1 in
          ends_well t x.0 x.1.0 of s (subst (λ (r : State). EndsIn t x.0 r) e.2 x.2.values)

  -- ---- witnesses

  pub positive : (n : ℕ) → HaveCount (λ (e : End). e.holds ≡ true) ends n
      → HasCount (λ x. IsKept t items x × Satisfies t x t.condition) n
  positive n have =
      counted (EndsSo t) (λ x. Satisfies t x t.condition) (λ (e : End). e.holds ≡ true)
      (λ x e is. is.holds) (IsKept t items) are.executions ends n are.listed are.ends have

  pub negative : (n : ℕ) → HaveCount (λ (e : End). e.holds ≡ false) ends n
      → HasCount (λ x. IsKept t items x × (Satisfies t x t.condition → ⊥)) n
  negative n have =
      counted (EndsSo t) (λ x. Satisfies t x t.condition → ⊥) (λ (e : End). e.holds ≡ false)
      (λ x e is. contrary e.holds (Satisfies t x t.condition) is.holds) (IsKept t items)
      are.executions ends n are.listed are.ends have
    where
      contrary : (b : Bool) (P : Type 0) → IsTrue b ↔ P → (b ≡ false) ↔ (P → ⊥)
      contrary true P is =
          ((λ e. absurd (true≢false e)), λ no. absurd (no (is.0 refl)))
      contrary false P is = ((λ e p. true≢false (sym (is.1 p))), λ no. refl)

  -- ---- states

  in_state : (s : State) (n : ℕ) → HaveCount (λ (e : End). end_state e ≡ s) ends n
      → HasCount (λ x. IsKept t items x × EndsIn t x s) n
  in_state s n have =
      counted (EndsSo t) (λ x. EndsIn t x s) (λ (e : End). end_state e ≡ s)
      (λ x e is. (
        (λ same. subst (λ (r : State). EndsIn t x r) same is.values),
        λ h. ends_in_one t x (end_state e) s is.values h,
      ))
      (IsKept t items) are.executions ends n are.listed are.ends have

  one_state : (s : State) (c : code_state.CountedState) → Contains (ends_as ends) s
      → IsCountedOf ends s c → IsCounted t (IsKept t items) (counted_as c)
  one_state s c there of = record {
    count = subst (λ (r : State). HasCount (λ x. IsKept t items x × EndsIn t x r) c.count) (sym of.values) (in_state s c.count of.count);
    above =
        let e : (e : End) × Contains ends e × (end_state e ≡ s) = mapped_from end_state ends s there in
        some_counted (λ (d : End). end_state d ≡ s) ends c.count of.count e.0 e.1 e.2;
    holds = holds;
  }
    where
      answer : (e : End) × Contains ends e × (end_state e ≡ s) × (e.holds ≡ c.holds)
      answer = of.holds there

      holds : (x : Execution) → IsKept t items x → EndsIn t x (values_as c.values.items)
          → IsTrue c.holds ↔ Satisfies t x t.condition
      holds x kept ends_so = (
        λ is. alike.0 (y.2.holds.0 (answer.3 ∙ is)),
        λ satisfied. sym answer.3 ∙ y.2.holds.1 (alike.1 satisfied),
      )
        where
          y : (z : Execution) × IsKept t items z × EndsSo t z answer.0
          y = of_end answer.0 answer.1

          alike : Satisfies t y.0 t.condition ↔ Satisfies t x t.condition
          alike =
              satisfied_alike t y.0 x s (subst (λ (r : State). EndsIn t y.0 r) answer.2 y.2.values)
              (subst (λ (r : State). EndsIn t x r) of.values ends_so)

  values_are : (ss : List State) (cs : List code_state.CountedState)
      → AllZip (IsCountedOf ends) ss cs
      → map (λ (c : outcome.CountedState). c.values) (map counted_as cs) ≡ ss
  values_are [] [] all = refl
  values_are [] (c ∷ cs) all = absurd all
  values_are (s ∷ ss) [] all = absurd all
  values_are (s ∷ ss) (c ∷ cs) all =
      ap₂ (λ (h : State) (l : List State). h ∷ l) all.0.values (values_are ss cs all.1)

  all_counted : (ss : List State) (cs : List code_state.CountedState)
      → ((s : State) → Contains ss s → Contains (ends_as ends) s) → AllZip (IsCountedOf ends) ss cs
      → AllByRecursion (IsCounted t (IsKept t items)) (map counted_as cs)
  all_counted [] [] among all = tt
  all_counted [] (c ∷ cs) among all = absurd all
  all_counted (s ∷ ss) [] among all = absurd all
  all_counted (s ∷ ss) (c ∷ cs) among all = (
    one_state s c (among s (here s ss)) all.0,
    all_counted ss cs (λ r there. among r (behind s ss r there)) all.1,
  )

  pub states : (ss : List State) (cs : List code_state.CountedState)
      → IsInOrder IsStateBefore (ends_as ends) ss → AllZip (IsCountedOf ends) ss cs
      → AreStates t (IsKept t items) (map counted_as cs)
  states ss cs sorted all = record {
    rising = pairs_rise IsStateBefore (λ (c : outcome.CountedState). c.values) (map counted_as cs)
        (subst (λ (l : List State). Rises IsStateBefore l) (sym (values_are ss cs all)) sorted.rises);
    counted = All-from_recursion (IsCounted t (IsKept t items)) (map counted_as cs)
        (all_counted ss cs (λ s there. (sorted.exact s).0 there) all);
    whole = whole;
  }
    where
      whole : (x : Execution) → IsKept t items x
          → (c : outcome.CountedState) × Contains (map counted_as cs) c × EndsIn t x c.values
      whole x kept =
          let e : _ = end_of x kept in
          let in_order : Contains ss (end_state e.0) =
          (sorted.exact (end_state e.0)).1 (there_mapped end_state ends e.0 e.1) in
          let c : _ = right_of (IsCountedOf ends) ss cs all (end_state e.0) in_order in (
            counted_as c.0,
            there_mapped counted_as cs c.0 c.1,
            subst (λ (r : State). EndsIn t x r) (sym c.2.values) e.2.values,
          )

  -- ---- flags

  pub raised : (ns : List Name) → AreFlags (λ i. Contains k.raised.items i) items ns
      → AreFlags (λ i. (x : Execution) × IsKept t items x × MeetsFlag t items i x) items ns
  raised ns (names, flags, once) = (
    names,
    raised_as (λ i. Contains k.raised.items i)
        (λ i. (x : Execution) × IsKept t items x × MeetsFlag t items i x) are.raised 0 items names
        flags,
    once,
  )
