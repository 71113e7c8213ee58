-- Dependencies and reads-from are the same by number and by name, and so are the cycles of need
-- with reads-from.
use Rattle.std.proofs.Common.{ℕ, zero, suc, ◌≡◌, ◌+◌, ◌↔◌, inl, inr, true, IsTrue, List, [], ◌∷◌, zip, Contains, Option, Some, None, option_map, unwrap_or, slice_get, refl, sym, ap, subst, ◌∙◌, arith, true≢false}
use Rattle.std.specs.List.{AllZip}
use Rattle.std.proofs.lemmas.Option.{same_Some, slice_get_within, slice_get-get_or, get_or_from_slice_get}
use Rattle.bit_rows.specs.Pairs as pairs
use Rattle.text_values.specs.declared.instruction.Instruction.TheVariants.{Branch}
use Rattle.text_values.specs.TestValue.{Content}
use Rattle.thread_runs.specs.declared.value.Value as numbered_value
use Rattle.thread_runs.specs.declared.instruction.Instruction as numbered_instruction
use Rattle.thread_runs.specs.declared.instruction.Instruction.TheVariants as does
use Rattle.thread_runs.specs.Machine as machine
use Rattle.thread_runs.specs.Runs as by_number
use Rattle.thread_runs.specs.Runs.{executed}
use Rattle.taints.specs.Chains as chains
use Rattle.store_orders.specs.Events as numbered
use Rattle.candidates.specs.Executions.{IsDependency, event_number}
use Rattle.meaning.specs.Sets as sets
use Rattle.meaning.specs.Names.{locations}
use Rattle.meaning.specs.Machine.{is_load}
use Rattle.meaning.specs.Runs.{Run}
use Rattle.meaning.specs.Dependencies as depends
use Rattle.meaning.specs.Dependencies.{Instructions}
use Rattle.meaning.specs.Executions.{Event, Initial, Does, Execution, instructions_of, loads_in, ReadsFrom, Dependency, NeedOrReads}
use Rattle.meaning.proofs.Counting.{here, behind, head_or_tail}
use Rattle.meaning_executions.specs.Dependencies.{DependAlike}
use Rattle.meaning_executions.proofs.Executed.{runs_depend_alike}
use Rattle.meaning_executions.specs.Events.{IsNumbered}
use Rattle.meaning_executions.specs.ThreadRuns as same
use Rattle.meaning_executions.specs.ThreadRuns.{IsSameThreadRun, AreSameThreadRuns}
use Rattle.meaning_executions.proofs.Pairing.{run_named, run_numbered}
use Rattle.meaning_executions.proofs.Lists.{at_left, at_right, StandsOnce}

-- ---- Paths

-- two events by number are related, and their names are
pub record ByName (es : List Event) (S : Event → Event → Type 0) (m n : ℕ) : Type 0 where
  pub first : Event
  pub second : Event
  pub first_at : IsNumbered es m first
  pub second_at : IsNumbered es n second
  pub related : S first second

pub record ByNumber (es : List Event) (R : ℕ → ℕ → Type 0) (a b : Event) : Type 0 where
  pub first : ℕ
  pub second : ℕ
  pub first_at : IsNumbered es first a
  pub second_at : IsNumbered es second b
  pub related : R first second

module _ (es : List Event) (R : ℕ → ℕ → Type 0) (S : Event → Event → Type 0) where
  path_by_name : ((m n : ℕ) → R m n → ByName es S m n) → (m : ℕ) (through : List ℕ) (n : ℕ)
      → pairs.Path R m through n → (a : Event) → IsNumbered es m a
      → (b : Event) × (names : List Event) × IsNumbered es n b × sets.Path S a names b
  path_by_name to m [] n h a at =
      let one : ByName es S m n = to m n h in
      let is : one.first ≡ a = same_Some _ _ (sym one.first_at ∙ at) in
      (one.second, [], one.second_at, subst (λ (c : Event). S c one.second) is one.related)
  path_by_name to m (k ∷ ks) n h a at =
      let one : ByName es S m k = to m k h.0 in
      let is : one.first ≡ a = same_Some _ _ (sym one.first_at ∙ at) in
      let rest : _ = path_by_name to k ks n h.1 one.second one.second_at in (
        rest.0,
        one.second ∷ rest.1,
        rest.2,
        (subst (λ (c : Event). S c one.second) is one.related, rest.3),
      )

  start_by_name : ((m n : ℕ) → R m n → ByName es S m n) → (m : ℕ) (through : List ℕ) (n : ℕ)
      → pairs.Path R m through n → (a : Event) × IsNumbered es m a
  start_by_name to m [] n h = let one : ByName es S m n = to m n h in (one.first, one.first_at)
  start_by_name to m (k ∷ ks) n h =
      let one : ByName es S m k = to m k h.0 in (one.first, one.first_at)

  pub acyclic_by_number : ((m n : ℕ) → R m n → ByName es S m n) → sets.IsAcyclic S
      → pairs.IsAcyclic R
  acyclic_by_number to never m (through, path) =
      let start : _ = start_by_name to m through m path in
      let found : _ = path_by_name to m through m path start.0 start.1 in
      let is : found.0 ≡ start.0 = same_Some _ _ (sym found.2 ∙ start.1) in
      never start.0
      (found.1, subst (λ (b : Event). sets.Path S start.0 found.1 b) is found.3)

  module _ (once : StandsOnce es) where
    path_by_number : ((a b : Event) → S a b → ByNumber es R a b) → (a : Event)
        (names : List Event) (b : Event) → sets.Path S a names b → (m : ℕ) → IsNumbered es m a
        → (n : ℕ) × (through : List ℕ) × IsNumbered es n b × pairs.Path R m through n
    path_by_number to a [] b h m at =
        let one : ByNumber es R a b = to a b h in
        let is : one.first ≡ m = once one.first m a one.first_at at in
        (one.second, [], one.second_at, subst (λ (k : ℕ). R k one.second) is one.related)
    path_by_number to a (c ∷ cs) b h m at =
        let one : ByNumber es R a c = to a c h.0 in
        let is : one.first ≡ m = once one.first m a one.first_at at in
        let rest : _ = path_by_number to c cs b h.1 one.second one.second_at in (
          rest.0,
          one.second ∷ rest.1,
          rest.2,
          (subst (λ (k : ℕ). R k one.second) is one.related, rest.3),
        )

    start_by_number : ((a b : Event) → S a b → ByNumber es R a b) → (a : Event)
        (names : List Event) (b : Event) → sets.Path S a names b → (m : ℕ) × IsNumbered es m a
    start_by_number to a [] b h =
        let one : ByNumber es R a b = to a b h in (one.first, one.first_at)
    start_by_number to a (c ∷ cs) b h =
        let one : ByNumber es R a c = to a c h.0 in (one.first, one.first_at)

    pub acyclic_by_name : ((a b : Event) → S a b → ByNumber es R a b) → pairs.IsAcyclic R
        → sets.IsAcyclic S
    acyclic_by_name to never a (names, path) =
        let start : _ = start_by_number to a names a path in
        let found : _ = path_by_number to a names a path start.0 start.1 in
        let is : found.0 ≡ start.0 = once found.0 start.0 a found.2 start.1 in
        never start.0 (found.1, subst (λ (n : ℕ). pairs.Path R start.0 found.1 n) is found.3)

-- ---- Reads-from

pub zip_there : {X Y : Type 0} (xs : List X) (ys : List Y) (k : ℕ) (x : X) (y : Y)
    → slice_get xs k ≡ Some x → slice_get ys k ≡ Some y → Contains (zip xs ys) (x, y)
zip_there [] ys k x y at there = absurd cc
zip_there (z ∷ xs) [] k x y at there = absurd cc
zip_there {X} {Y} (z ∷ xs) (w ∷ ys) zero x y at there =
    subst (λ (u : X). Contains ((z, w) ∷ zip xs ys) (u, y)) (same_Some _ _ at)
    (subst (λ (v : Y). Contains ((z, w) ∷ zip xs ys) (z, v)) (same_Some _ _ there)
    (here (z, w) (zip xs ys)))
zip_there (z ∷ xs) (w ∷ ys) (suc k) x y at there =
    behind (z, w) (zip xs ys) (x, y) (zip_there xs ys k x y at there)

nothing_in : {X : Type 0} (x : X) → Contains [] x → ⊥
nothing_in x (k, lt, eq) = omega arith

pub zip_from : {X Y : Type 0} (xs : List X) (ys : List Y) (x : X) (y : Y) → Contains (zip xs ys) (x, y)
    → (k : ℕ) × (slice_get xs k ≡ Some x) × (slice_get ys k ≡ Some y)
zip_from [] ys x y h = absurd (nothing_in (x, y) h)
zip_from (z ∷ xs) [] x y h = absurd (nothing_in (x, y) h)
zip_from {X} {Y} (z ∷ xs) (w ∷ ys) x y h = elim (head_or_tail (z, w) (zip xs ys) (x, y) h) [
  | inl e ↦ (
    0,
    ap (λ (p : X × Y). Some p.0) e,
    ap (λ (p : X × Y). Some p.1) e,
  )
  | inr later ↦ let found : _ = zip_from xs ys x y later in (suc found.0, found.1, found.2)
]

module _ (es : List Event) (loads xs : List ℕ) (ls ys : List Event)
    (loads_are : AllZip (IsNumbered es) loads ls) (reads_are : AllZip (IsNumbered es) xs ys) where
  pub reads_by_name : (m n : ℕ) → numbered.ReadsFrom loads xs m n
      → ByName es (λ a b. Contains (zip ys ls) (a, b)) m n
  reads_by_name m n (i, lt, below, is, of) =
      let store : _ = at_left (IsNumbered es) xs ys reads_are i m
      (slice_get-get_or xs i 0 lt ∙ ap (λ (k : ℕ). Some k) (sym is)) in
      let load : _ = at_left (IsNumbered es) loads ls loads_are i n
      (slice_get-get_or loads i 0 below ∙ ap (λ (k : ℕ). Some k) (sym of)) in
      record {
        first = store.0;
        second = load.0;
        first_at = store.2;
        second_at = load.2;
        related = zip_there ys ls i store.0 load.0 store.1 load.1;
      }

  pub reads_by_number : (a b : Event) → Contains (zip ys ls) (a, b)
      → ByNumber es (numbered.ReadsFrom loads xs) a b
  reads_by_number a b h =
      let at : _ = zip_from ys ls a b h in
      let store : _ = at_right (IsNumbered es) xs ys reads_are at.0 a at.1 in
      let load : _ = at_right (IsNumbered es) loads ls loads_are at.0 b at.2 in
      record {
        first = store.0;
        second = load.0;
        first_at = store.2;
        second_at = load.2;
        related = (
          at.0,
          slice_get_within xs at.0 store.0 store.1,
          slice_get_within loads at.0 load.0 load.1,
          sym (get_or_from_slice_get xs at.0 store.0 0 store.1),
          sym (get_or_from_slice_get loads at.0 load.0 0 load.1),
        );
      }

-- ---- Dependencies

-- a kind of dependency by number and by name, which relates a load to an event
pub record IsKind (R : chains.Executed → ℕ → ℕ → Type 0) (Q : Instructions → ℕ → ℕ → Type 0)
    : Type 0 where
  pub alike : (by_number : chains.Executed) (at : Instructions) → DependAlike by_number at
      → (i j : ℕ) → R by_number i j ↔ Q at i j
  pub first : (at : chains.Executed) (i j : ℕ) → R at i j → chains.is_event (at i) ≡ true
  pub second : (at : chains.Executed) (i j : ℕ) → R at i j → chains.is_event (at j) ≡ true
  pub load : (at : Instructions) (i j : ℕ) → Q at i j → IsTrue (is_load (at i))

pub loads_are_events : (i : numbered_instruction.Instruction) → IsTrue (machine.is_load i)
    → chains.is_event i ≡ true
loads_are_events (does.Immediate d n) h = absurd (true≢false (sym h))
loads_are_events (does.Move d a) h = absurd (true≢false (sym h))
loads_are_events (does.AddImmediate d a n) h = absurd (true≢false (sym h))
loads_are_events (does.Operate o d a b) h = absurd (true≢false (sym h))
loads_are_events (does.Load d a) h = refl
loads_are_events (does.LoadIndexed d a b) h = refl
loads_are_events (does.Store d a) h = refl
loads_are_events (does.StoreIndexed d a b) h = refl
loads_are_events (does.Compare a b) h = absurd (true≢false (sym h))
loads_are_events (does.CompareImmediate a n) h = absurd (true≢false (sym h))
loads_are_events (does.Branch c l) h = absurd (true≢false (sym h))
loads_are_events (does.Jump l) h = absurd (true≢false (sym h))
loads_are_events (does.Fence f) h = refl

pub stores_are_events : (i : numbered_instruction.Instruction) (p : chains.Resource)
    → chains.IsStoredRegister i p → chains.is_event i ≡ true
stores_are_events (does.Immediate d n) p h = absurd h
stores_are_events (does.Move d a) p h = absurd h
stores_are_events (does.AddImmediate d a n) p h = absurd h
stores_are_events (does.Operate o d a b) p h = absurd h
stores_are_events (does.Load d a) p h = absurd h
stores_are_events (does.LoadIndexed d a b) p h = absurd h
stores_are_events (does.Store d a) p h = refl
stores_are_events (does.StoreIndexed d a b) p h = refl
stores_are_events (does.Compare a b) p h = absurd h
stores_are_events (does.CompareImmediate a n) p h = absurd h
stores_are_events (does.Branch c l) p h = absurd h
stores_are_events (does.Jump l) p h = absurd h
stores_are_events (does.Fence f) p h = absurd h

pub need : IsKind chains.IsNeed depends.IsNeed
need = record {
  alike = λ by_number at are i j. are.need i j;
  first = λ at i j h. loads_are_events (at i) h.0;
  second = λ at i j h. stores_are_events (at j) h.1.0 h.1.1;
  load = λ at i j h. h.0;
}

module _ (t : Content) (x : Execution) (initial : List numbered_value.Value)
    (rs : List by_number.Run) (es : List Event) (are : AreSameThreadRuns t 0 rs x.runs)
    (number : (thread : ℕ) (r : by_number.Run) → slice_get rs thread ≡ Some r → (step : ℕ)
    → chains.is_event (executed r.outcome.walk.steps step) ≡ true
    → IsNumbered es (event_number initial rs thread r step) (Does thread step))
    (R : chains.Executed → ℕ → ℕ → Type 0) (Q : Instructions → ℕ → ℕ → Type 0)
    (kind : IsKind R Q) where
  related_alike : (thread : ℕ) (r : by_number.Run) (q : Run) → slice_get x.runs thread ≡ Some q
      → IsSameThreadRun t (0 + thread) r q → (i j : ℕ)
      → R (executed r.outcome.walk.steps) i j ↔ Q (instructions_of x thread) i j
  related_alike thread r q there one i j =
      kind.alike (executed r.outcome.walk.steps) (instructions_of x thread)
      (runs_depend_alike x thread (locations t) one.labels r.outcome q there one.same) i j

  pub depends_by_name : (m n : ℕ) → IsDependency R initial rs m n → ByName es (Dependency Q x) m n
  depends_by_name m n h =
      let at : chains.Executed = executed h.run.outcome.walk.steps in
      let found : _ = run_named t 0 are h.thread h.run h.its_run in
      record {
        first = Does h.thread h.first;
        second = Does h.thread h.second;
        first_at =
            subst (λ (k : ℕ). IsNumbered es k (Does h.thread h.first)) (sym h.from)
            (number h.thread h.run h.its_run h.first (kind.first at h.first h.second h.related));
        second_at =
            subst (λ (k : ℕ). IsNumbered es k (Does h.thread h.second)) (sym h.to)
            (number h.thread h.run h.its_run h.second (kind.second at h.first h.second h.related));
        related = (
          refl,
          (related_alike h.thread h.run found.0 found.1 found.2 h.first h.second).0 h.related,
        );
      }

  has_run : (thread i j : ℕ) → Q (instructions_of x thread) i j
      → (q : Run) × (slice_get x.runs thread ≡ Some q)
  has_run thread i j h =
      go (slice_get x.runs thread) refl (kind.load (instructions_of x thread) i j h)
    where
      go : (o : Option Run) → slice_get x.runs thread ≡ o
          → IsTrue (is_load (unwrap_or (option_map (λ i. i.instruction) (slice_get (unwrap_or (option_map (λ r. r.instances) o) []) i)) (Branch [])))
          → (q : Run) × (slice_get x.runs thread ≡ Some q)
      go None e load = absurd (true≢false (sym load))
      go (Some q) e load = (q, e)

  pub depends_by_number : (a b : Event) → Dependency Q x a b → ByNumber es (IsDependency R initial rs) a b
  depends_by_number (Initial l) b h = absurd h
  depends_by_number (Does u i) (Initial l) h = absurd h
  depends_by_number (Does u i) (Does v j) (is, related) =
      let run : _ = has_run u i j related in
      let found : _ = run_numbered t 0 are u run.0 run.1 in
      let at : chains.Executed = executed found.0.outcome.walk.steps in
      let back : R at i j = (related_alike u found.0 run.0 run.1 found.2 i j).1 related in
      record {
        first = event_number initial rs u found.0 i;
        second = event_number initial rs u found.0 j;
        first_at = number u found.0 found.1 i (kind.first at i j back);
        second_at =
            subst (λ (w : ℕ). IsNumbered es (event_number initial rs u found.0 j) (Does w j)) is
            (number u found.0 found.1 j (kind.second at i j back));
        related =
            record {
              thread = u;
              run = found.0;
              its_run = found.1;
              first = i;
              second = j;
              related = back;
              from = refl;
              to = refl;
            };
      }

-- ---- Cycles

module _ (t : Content) (x : Execution) (initial : List numbered_value.Value)
    (rs : List by_number.Run) (es : List Event) (are : AreSameThreadRuns t 0 rs x.runs)
    (number : (thread : ℕ) (r : by_number.Run) → slice_get rs thread ≡ Some r → (step : ℕ)
    → chains.is_event (executed r.outcome.walk.steps step) ≡ true
    → IsNumbered es (event_number initial rs thread r step) (Does thread step))
    (loads xs : List ℕ) (loads_are : AllZip (IsNumbered es) loads (loads_in 0 x.runs))
    (reads_are : AllZip (IsNumbered es) xs x.reads_from) where
  abbrev NumberedNeedOrReads : ℕ → ℕ → Type 0
  NumberedNeedOrReads =
      pairs.Union (IsDependency chains.IsNeed initial rs) (numbered.ReadsFrom loads xs)

  to_name : (m n : ℕ) → NumberedNeedOrReads m n → ByName es (NeedOrReads x) m n
  to_name m n (inl h) =
      let by : ByName es (Dependency depends.IsNeed x) m n = depends_by_name t x initial rs es are number chains.IsNeed depends.IsNeed need m n h in
      record {
        first = by.first;
        second = by.second;
        first_at = by.first_at;
        second_at = by.second_at;
        related = inl by.related;
      }
  to_name m n (inr h) =
      let by : ByName es (ReadsFrom x) m n = reads_by_name es loads xs (loads_in 0 x.runs) x.reads_from loads_are reads_are m n h in
      record {
        first = by.first;
        second = by.second;
        first_at = by.first_at;
        second_at = by.second_at;
        related = inr by.related;
      }

  to_number : (a b : Event) → NeedOrReads x a b → ByNumber es NumberedNeedOrReads a b
  to_number a b (inl h) =
      let by : ByNumber es (IsDependency chains.IsNeed initial rs) a b = depends_by_number t x initial rs es are number chains.IsNeed depends.IsNeed need a b h in
      record {
        first = by.first;
        second = by.second;
        first_at = by.first_at;
        second_at = by.second_at;
        related = inl by.related;
      }
  to_number a b (inr h) =
      let by : ByNumber es (numbered.ReadsFrom loads xs) a b = reads_by_number es loads xs (loads_in 0 x.runs) x.reads_from loads_are reads_are a b h in
      record {
        first = by.first;
        second = by.second;
        first_at = by.first_at;
        second_at = by.second_at;
        related = inr by.related;
      }

  pub acyclic_named : StandsOnce es → pairs.IsAcyclic NumberedNeedOrReads
      → sets.IsAcyclic (NeedOrReads x)
  acyclic_named once never =
      acyclic_by_name es NumberedNeedOrReads (NeedOrReads x) once to_number never

  pub acyclic_numbered : sets.IsAcyclic (NeedOrReads x) → pairs.IsAcyclic NumberedNeedOrReads
  acyclic_numbered never =
      acyclic_by_number es NumberedNeedOrReads (NeedOrReads x) to_name never
