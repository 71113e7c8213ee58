-- Executions end with words, and each location of a test holds a value at the end.
use Rattle.std.proofs.Common.{ℕ, zero, suc, ◌≡◌, ◌<◌, ◌+◌, List, [], ◌∷◌, ◌++◌, length, zip, Contains, Option, Some, None, option_map, unwrap_or, slice_get, refl, sym, ap, subst, ◌∙◌, arith}
use Rattle.std.specs.Prelude.{option_and_then}
use Rattle.std.specs.List.{AllByRecursion, AllZip}
use Rattle.std.proofs.lemmas.Option.{same_Some}
use Rattle.text_values.specs.declared.test.Place.{Place}
use Rattle.text_values.specs.declared.test.Place.TheVariants.{Location, Register}
use Rattle.text_values.specs.TestValue.{Content}
use Rattle.meaning.specs.Names.{Name, locations}
use Rattle.meaning.specs.Machine.{Value, NoValue}
use Rattle.meaning.specs.Runs.{Instance, Run}
use Rattle.meaning.specs.Domain.{InDomain}
use Rattle.meaning.specs.Executions.{Event, Initial, Does, Execution, Action, Stores, IsActionOf, HasAction, IsExecution, IsOrder, IsStoreOf, instances_of}
use Rattle.meaning.specs.Outcome.{EndsWith, IsFinalValue, final_register}
use Rattle.meaning.proofs.Counting.{here, behind}
use Rattle.meaning_laws.specs.Words.{IsWord, IsTestOfWords, NumbersAreWords, LocationsHold}
use Rattle.meaning_laws.proofs.Machines.{AreWords, stored_words}
use Rattle.meaning_laws.proofs.Running.{HasWords, run_has_words, initial_word, in_domain}

word_at : (vs : List Value) (r : ℕ) → AreWords vs → IsWord (unwrap_or (slice_get vs r) NoValue)
word_at [] r all = tt
word_at (v ∷ vs) zero all = all.0
word_at (v ∷ vs) (suc r) all = word_at vs r all.1

before_at : (is : List Instance)
    → AllByRecursion (λ (i : Instance). AreWords i.before.registers) is → (k : ℕ) (i : Instance)
    → slice_get is k ≡ Some i → AreWords i.before.registers
before_at [] all k i at = absurd (let f : None ≡ Some i = at in cc)
before_at (j ∷ is) all zero i at =
    subst (λ (d : Instance). AreWords d.before.registers) (same_Some _ _ at) all.0
before_at (j ∷ is) all (suc k) i at = before_at is all.1 k i at

one_value : (l m : Name) (v w : Value) → Stores l v ≡ Stores m w → v ≡ w
one_value l m v w e = cc

module _ (t : Content) (of : IsTestOfWords t) (x : Execution) (is : IsExecution t x) where
  at_run : (thread : ℕ) (r : Run) → slice_get x.runs thread ≡ Some r → HasWords r
  at_run thread r at =
      run_has_words t of (InDomain t) (in_domain t of) thread r (is.runs.each thread r at)

  register_word : (thread r : ℕ) → IsWord (final_register x thread r)
  register_word thread r = by (slice_get x.runs thread) (at_run thread)
    where
      by : (o : Option Run) → ((q : Run) → o ≡ Some q → HasWords q)
          → IsWord
          (unwrap_or (option_and_then (λ (q : Run). slice_get q.final.registers r) o) NoValue)
      by None words = tt
      by (Some q) words = word_at q.final.registers r (words q refl).final

  does_word : (thread index : ℕ) (l : Name) (v : Value)
      → HasAction t x (Does thread index) (Stores l v) → IsWord v
  does_word thread index l v (i, at, acts) = by (slice_get x.runs thread) (at_run thread) at
    where
      by : (o : Option Run) → ((q : Run) → o ≡ Some q → HasWords q)
          → slice_get (unwrap_or (option_map (λ (q : Run). q.instances) o) []) index ≡ Some i
          → IsWord v
      by None words there = absurd (let f : None ≡ Some i = there in cc)
      by (Some q) words there =
          stored_words i.instruction i.before v
          (before_at q.instances (words q refl).before index i there) acts.1

  stored : (e : Event) (l : Name) (v : Value) → HasAction t x e (Stores l v) → IsWord v
  stored (Initial m) l v (there, is_it) =
      subst IsWord (sym (one_value l m v _ is_it)) (initial_word t of (Location m))
  stored (Does thread index) l v h = does_word thread index l v h

  pub ends_with_word : (p : Place) (v : Value) → EndsWith t x p v → IsWord v
  ends_with_word (Register thread r) v e = subst IsWord (sym e) (register_word thread r)
  ends_with_word (Location l) v (order, before, last, there, eq, has) = stored last l v has

pub all_words : NumbersAreWords
all_words t of x is p v e = ends_with_word t of x is p v e

-- ---- locations hold something

last_of : {X : Type 0} (x : X) (xs : List X)
    → (before : List X) × (last : X) × (x ∷ xs ≡ before ++ last ∷ [])
last_of x [] = ([], x, refl)
last_of {X} x (z ∷ xs) =
    let rest : _ = last_of z xs in
    (x ∷ rest.0, rest.1, ap (λ (ys : List X). x ∷ ys) rest.2)

is_last : {X : Type 0} (before : List X) (last : X) → Contains (before ++ last ∷ []) last
is_last [] last = here last []
is_last (x ∷ before) last = behind x (before ++ last ∷ []) last (is_last before last)

order_beside : (t : Content) (x : Execution) (ls : List Name) (orders : List (List Event))
    → AllZip (IsOrder t x) ls orders → (l : Name) → Contains ls l
    → (order : List Event) × Contains (zip ls orders) (l, order) × IsOrder t x l order
order_beside t x [] orders all l (k, lt, eq) = absurd (omega (arith, lt))
order_beside t x (m ∷ ls) [] all l h = absurd all
order_beside t x (m ∷ ls) (o ∷ orders) all l (zero, lt, eq) = (
  o,
  subst (λ (n : Name). Contains ((m, o) ∷ zip ls orders) (n, o)) eq (here (m, o) (zip ls orders)),
  subst (λ (n : Name). IsOrder t x n o) eq all.0,
)
order_beside t x (m ∷ ls) (o ∷ orders) all l (suc k, lt, eq) =
    let rest : _ = order_beside t x ls orders all.1 l (k, omega (arith, lt), eq) in
    (rest.0, behind (m, o) (zip ls orders) (l, rest.0) rest.1, rest.2)

ends_in_order : (t : Content) (x : Execution) (l : Name) (order : List Event)
    → Contains (zip (locations t) x.coherence) (l, order) → IsOrder t x l order
    → (v : Value) × EndsWith t x (Location l) v
ends_in_order t x l [] there (lists, first) =
    absurd (let f : None ≡ Some (Initial l) = first in cc)
ends_in_order t x l (e ∷ es) there (lists, first) =
    let cut : _ = last_of e es in
    let store : IsStoreOf t x l cut.1 =
    (lists.exact cut.1).0
    (subst (λ (zs : List Event). Contains zs cut.1) (sym cut.2) (is_last cut.0 cut.1)) in
    (store.0, (e ∷ es, cut.0, cut.1, there, cut.2, store.1))

pub all_hold : LocationsHold
all_hold t x is l there =
    let beside : _ = order_beside t x (locations t) x.coherence is.orders l there in
    ends_in_order t x l beside.0 beside.1 beside.2
