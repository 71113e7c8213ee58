-- What the executions of a test say, where there is a list of them, and it is decided of each which
-- checks and flags it meets.
use Rattle.std.proofs.Common.{ℕ, List, refl}
use Rattle.std.specs.List.{AllByRecursion}
use Rattle.text_values.specs.TestValue.{Content}
use Rattle.text_values.specs.ModelValue.{Clause}
use Rattle.meaning.specs.Sets.{Set, IsListOf, HasCount}
use Rattle.meaning.specs.Names.{Name}
use Rattle.meaning.specs.Executions.{Execution, IsExecution, IsEvent}
use Rattle.meaning.specs.Cat.{AreMet}
use Rattle.meaning.specs.Outcome.{CountedState, AreStates, Satisfies, AreFlags, observation_of, is_met, Evaluation, Says}
use Rattle.meaning.specs.Evaluates.{outermost, IsKept, MeetsFlag}
use Rattle.meaning_laws.specs.Words.{IsTestOfWords}
use Rattle.meanings_exist.proofs.Decisions.{Decided, not_decided}
use Rattle.meanings_exist.proofs.Sublists.{listed_part, counted_part, decide_each}
use Rattle.meanings_exist.proofs.Finite.{some_decided}
use Rattle.meanings_exist.proofs.Ending.{satisfied_or_not}
use Rattle.meanings_exist.proofs.States.{states_of}
use Rattle.meanings_exist.proofs.Flags.{flags}

-- the execution meets the checks
abbrev pub MeetsChecks : Content → List Clause → Set Execution
MeetsChecks t items x = AreMet (IsEvent t x) (outermost t x) items

-- some kept execution meets the flag at an index
abbrev pub IsRaised : Content → List Clause → ℕ → Type 0
IsRaised t items i = (x : Execution) × IsKept t items x × MeetsFlag t items i x

module _ (t : Content) (of : IsTestOfWords t) (items : List Clause) where
  of_kept : (ks : List Execution) → IsListOf (IsKept t items) ks
      → ((i : ℕ) → Decided (IsRaised t items i))
      → (e : Evaluation) × Says t items (IsKept t items) (MeetsFlag t items) e
  of_kept ks listed raised =
      let Kept : Set Execution = IsKept t items in
      let or_not : AllByRecursion (λ x. Decided (Satisfies t x t.condition)) ks =
      decide_each (λ x. Decided (Satisfies t x t.condition)) ks
      (λ x there. satisfied_or_not t x ((listed.exact x).0 there).0) in
      let contrary : AllByRecursion (λ x. Decided (Satisfies t x t.condition → ⊥)) ks =
      decide_each (λ x. Decided (Satisfies t x t.condition → ⊥)) ks
      (λ x there. not_decided (satisfied_or_not t x ((listed.exact x).0 there).0)) in
      let states : (cs : List CountedState) × AreStates t Kept cs =
      states_of t of Kept (λ x kept. kept.0) ks listed in
      let positive : (n : ℕ) × HasCount (λ x. Kept x × Satisfies t x t.condition) n =
      counted_part Kept (λ x. Satisfies t x t.condition) ks listed or_not in
      let negative : (n : ℕ) × HasCount (λ x. Kept x × (Satisfies t x t.condition → ⊥)) n =
      counted_part Kept (λ x. Satisfies t x t.condition → ⊥) ks listed contrary in
      let names : (ns : List Name) × AreFlags (IsRaised t items) items ns =
      flags (IsRaised t items) items raised in (
        record {
          states = states.0;
          positive = positive.0;
          negative = negative.0;
          observation = observation_of positive.0 negative.0;
          ok = is_met t.quantifier positive.0 negative.0;
          flags = names.0;
        },
        record {
          states = states.1;
          positive = positive.1;
          negative = negative.1;
          observation = refl;
          ok = refl;
          flags = names.1;
        },
      )

  pub evaluation_of : (xs : List Execution) → IsListOf (IsExecution t) xs
      → ((x : Execution) → Decided (MeetsChecks t items x))
      → ((i : ℕ) (x : Execution) → Decided (MeetsFlag t items i x))
      → (e : Evaluation) × Says t items (IsKept t items) (MeetsFlag t items) e
  evaluation_of xs listed checks met =
      let kept : (ks : List Execution) × IsListOf (IsKept t items) ks =
      listed_part (IsExecution t) (MeetsChecks t items) xs listed
      (decide_each (λ x. Decided (MeetsChecks t items x)) xs (λ x there. checks x)) in
      of_kept kept.0 kept.1 (λ i. raised_or_not kept.0 kept.1 i)
    where
      raised_or_not : (ks : List Execution) → IsListOf (IsKept t items) ks → (i : ℕ)
          → Decided (IsRaised t items i)
      raised_or_not ks all i =
          some_decided (IsKept t items) (MeetsFlag t items i)
          (record { things = ks; exact = all.exact }) (λ x kept. met i x)
