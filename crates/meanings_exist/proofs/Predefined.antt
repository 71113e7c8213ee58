-- The predefined names of an execution have tame meanings.
use Rattle.std.proofs.Common.{◌≡◌, inl, inr, ℕ, zero, suc, ◌<◌, Bool, true, false, IsTrue, List, [], ◌∷◌, ◌++◌, zip, length, Option, Some, None, slice_get, Contains, refl, sym, ap, subst, arith, true≢false}
use Rattle.std.proofs.lemmas.List.Elements.{Contains-append_left, Contains-append_right}
use Rattle.text_values.specs.declared.instruction.Fence as kinds
use Rattle.text_values.specs.declared.instruction.Fence.TheVariants.{Sync, LightweightSync, Eieio, Isync}
use Rattle.text_values.specs.declared.instruction.Instruction as text
use Rattle.text_values.specs.declared.instruction.Instruction.TheVariants as texts
use Rattle.predefined_names.specs.declared.predefined.Predefined.{Predefined}
use Rattle.predefined_names.specs.declared.predefined.Predefined.TheVariants as names
use Rattle.predefined_names.specs.PredefinedNames as predefined
use Rattle.predefined_names.specs.PredefinedNames.{spelling}
use Rattle.text_values.specs.TestValue.{Content}
use Rattle.meaning.specs.Sets.{Relation, Intersection, Inverse, Union}
use Rattle.meaning.specs.Names.{Name}
use Rattle.meaning.specs.Machine.{is_load}
use Rattle.meaning.specs.Dependencies.{IsAddressRegister, IsStoredRegister, is_event, IsAddr, IsData, IsCtrl, IsCtrlIsync}
use Rattle.meaning.specs.Executions.{Event, Initial, Does, Execution, Loads, Stores, Fences, IsEvent, IsStoreOf, ProgramOrder, ReadsFrom, Coherence, Dependency, instances_of, instructions_of, loads_in}
use Rattle.meaning.specs.Predefined.{IsLoadOf, IsAccessOf, IsFence, IsInitial, HaveOneThread, EventsOf, SameLocation, Internal, External, FromReads, Fenced, PairsOf, predefined_names}
use Rattle.meaning.specs.Cat.{Names, ASet, ARelation, choice_of}
use Rattle.meaning.specs.Evaluates.{predefined_bound, outermost}
use Rattle.meaning.proofs.Counting.{here, behind, head_or_tail}
use Rattle.plain_runs.proofs.Listing.{none_there}
use Rattle.plain_runs.proofs.Running.{same_some, no_some}
use Rattle.meanings_exist.proofs.Decisions.{Decided, decided_as, none_decided, both_decided, either_decided, same_event, same_number, below_decided}
use Rattle.meanings_exist.proofs.Finite.{Finite, finite_list, finite_either, finite_below, some_decided, inhabited}
use Rattle.meanings_exist.proofs.Needs.{addr_or_not, data_or_not, ctrl_or_not, ctrl_isync_or_not}
use Rattle.meaning_laws.proofs.Growing.{names_onto, names_are}
use Rattle.meanings_exist.proofs.Events.{action_or_not, event_or_not, loaded_locations, stored_locations, load_or_not, store_or_not, places, event_place, does_place, get_below, in_range, IsPlace}
use Rattle.meanings_exist.proofs.Executions.{read_below, reads_from_or_not, depends_or_not}
use Rattle.meanings_exist.proofs.Tame.{IsTameSet, IsTameRelation, Frame, no_members, no_pairs, union, intersection, inverse, sequence, identity, complement}
use Rattle.meanings_exist.proofs.Operators.{IsTame}
use Rattle.meanings_exist.proofs.Expressions.{TameNames, none, more, a_meaning}

module _ (t : Content) (x : Execution) where
  -- ---- all that relations speak of

  joined : List (List Event) → List Event
  joined [] = []
  joined (order ∷ orders) = order ++ joined orders

  pub things : List Event
  things =
      (places t x).things ++ (x.reads_from ++ (loads_in 0 x.runs ++ joined x.coherence))

  place_there : (e : Event) → IsPlace t x e → Contains things e
  unfolding things
  place_there e place =
      Contains-append_left (places t x).things
      (x.reads_from ++ (loads_in 0 x.runs ++ joined x.coherence)) e
      (((places t x).exact e).1 place)

  event_there : (e : Event) → IsEvent t x e → Contains things e
  event_there e is = place_there e (event_place t x e is)

  source_there : (e : Event) → Contains x.reads_from e → Contains things e
  unfolding things
  source_there e there =
      Contains-append_right (places t x).things
      (x.reads_from ++ (loads_in 0 x.runs ++ joined x.coherence)) e
      (Contains-append_left x.reads_from (loads_in 0 x.runs ++ joined x.coherence) e there)

  load_there : (e : Event) → Contains (loads_in 0 x.runs) e → Contains things e
  unfolding things
  load_there e there =
      Contains-append_right (places t x).things
      (x.reads_from ++ (loads_in 0 x.runs ++ joined x.coherence)) e
      (Contains-append_right x.reads_from (loads_in 0 x.runs ++ joined x.coherence) e
      (Contains-append_left (loads_in 0 x.runs) (joined x.coherence) e there))

  in_joined : (orders : List (List Event)) (order : List Event) (e : Event)
      → Contains orders order → Contains order e → Contains (joined orders) e
  unfolding joined
  in_joined [] order e in_orders there = absurd (none_there order in_orders)
  in_joined (o ∷ orders) order e in_orders there =
      elim (head_or_tail o orders order in_orders) [
        | inl at ↦
            Contains-append_left o (joined orders) e
            (subst (λ (l : List Event). Contains l e) (sym at) there)
        | inr later ↦
            Contains-append_right o (joined orders) e (in_joined orders order e later there)
      ]

  order_there : (order : List Event) (e : Event) → Contains x.coherence order
      → Contains order e → Contains things e
  unfolding things
  order_there order e in_orders there =
      Contains-append_right (places t x).things
      (x.reads_from ++ (loads_in 0 x.runs ++ joined x.coherence)) e
      (Contains-append_right x.reads_from (loads_in 0 x.runs ++ joined x.coherence) e
      (Contains-append_right (loads_in 0 x.runs) (joined x.coherence) e
      (in_joined x.coherence order e in_orders there)))

  pub events_tame : IsTameSet things (IsEvent t x)
  events_tame = record { inside = event_there; decided = event_or_not t x }

  abbrev pub frame : Frame Event
  frame = record {
    things = things;
    all = IsEvent t x;
    tame = events_tame;
    same = same_event;
  }

  -- ---- sets

  accesses_of : (e : Event) → Finite (λ l. IsAccessOf t x l e)
  accesses_of e =
      finite_either (λ l. IsLoadOf t x l e) (λ l. IsStoreOf t x l e) (loaded_locations t x e)
      (stored_locations t x e)

  access_or_not : (l : Name) (e : Event) → Decided (IsAccessOf t x l e)
  access_or_not l e = either_decided (load_or_not t x l e) (store_or_not t x l e)

  access_event : (l : Name) (e : Event) → IsAccessOf t x l e → IsEvent t x e
  access_event l e (inl h) = (Loads l h.0, h.1)
  access_event l e (inr h) = (Stores l h.0, h.1)

  fence_or_not : (f : kinds.Fence) (e : Event) → Decided (IsFence t x f e)
  fence_or_not f e = action_or_not t x e (Fences f)

  fence_tame : (f : kinds.Fence) → IsTameSet things (IsFence t x f)
  fence_tame f = record {
    inside = λ e h. event_there e (Fences f, h);
    decided = fence_or_not f;
  }

  all_fences : List kinds.Fence
  all_fences = Sync ∷ LightweightSync ∷ Eieio ∷ Isync ∷ []

  each_fence : (f : kinds.Fence) → Contains all_fences f
  unfolding all_fences
  each_fence Sync = (0, omega arith, refl)
  each_fence LightweightSync = (1, omega arith, refl)
  each_fence Eieio = (2, omega arith, refl)
  each_fence Isync = (3, omega arith, refl)

  some_fence : (e : Event) → Decided ((f : kinds.Fence) × IsFence t x f e)
  some_fence e =
      decided_as (λ h. (h.0, h.2)) (λ h. (h.0, each_fence h.0, h.1))
      (some_decided (λ f. Contains all_fences f) (λ f. IsFence t x f e)
      (finite_list all_fences) (λ f there. fence_or_not f e))

  initial_or_not : (e : Event) → Decided (IsInitial e)
  initial_or_not (Initial l) = inl tt
  initial_or_not (Does u i) = none_decided

  sets_tame : (p : Predefined) → IsTameSet things (EventsOf t x p)
  sets_tame names.Loads = record {
    inside = λ e h. event_there e (Loads h.0 h.1.0, h.1.1);
    decided = λ e. inhabited (λ l. IsLoadOf t x l e) (loaded_locations t x e);
  }
  sets_tame names.Stores = record {
    inside = λ e h. event_there e (Stores h.0 h.1.0, h.1.1);
    decided = λ e. inhabited (λ l. IsStoreOf t x l e) (stored_locations t x e);
  }
  sets_tame names.Accesses = record {
    inside = λ e h. event_there e (access_event h.0 e h.1);
    decided = λ e. inhabited (λ l. IsAccessOf t x l e) (accesses_of e);
  }
  sets_tame names.Fences = record {
    inside = λ e h. event_there e (Fences h.0, h.1);
    decided = some_fence;
  }
  sets_tame names.InitialStores = record {
    inside = λ e h. event_there e h.0;
    decided = λ e. both_decided (event_or_not t x e) (initial_or_not e);
  }
  sets_tame names.SyncFences = fence_tame Sync
  sets_tame names.LwsyncFences = fence_tame LightweightSync
  sets_tame names.EieioFences = fence_tame Eieio
  sets_tame names.IsyncFences = fence_tame Isync
  sets_tame _ = no_members things

  -- ---- relations

  program_or_not : (a b : Event) → Decided (ProgramOrder t x a b)
  program_or_not (Does u i) (Does v j) =
      decided_as (λ h. (h.0.0, h.0.1, h.1.0, h.1.1)) (λ h. ((h.0, h.1), (h.2, h.3)))
      (both_decided
      (both_decided (event_or_not t x (Does u i)) (event_or_not t x (Does v j)))
      (both_decided (same_number u v) (below_decided i j)))
  program_or_not (Initial l) b = none_decided
  program_or_not (Does u i) (Initial l) = none_decided

  program_first : (a b : Event) → ProgramOrder t x a b → IsEvent t x a
  program_first (Does u i) (Does v j) h = h.0
  program_first (Initial l) b h = absurd h
  program_first (Does u i) (Initial l) h = absurd h

  program_second : (a b : Event) → ProgramOrder t x a b → IsEvent t x b
  program_second (Does u i) (Does v j) h = h.1
  program_second (Initial l) b h = absurd h
  program_second (Does u i) (Initial l) h = absurd h

  program_tame : IsTameRelation things (ProgramOrder t x)
  program_tame = record {
    from = λ a b h. event_there a (program_first a b h);
    into = λ a b h. event_there b (program_second a b h);
    decided = program_or_not;
  }

  location_tame : IsTameRelation things (SameLocation t x)
  location_tame = record {
    from = λ a b h. event_there a (access_event h.0 a h.1);
    into = λ a b h. event_there b (access_event h.0 b h.2);
    decided = λ a b.
        some_decided (λ l. IsAccessOf t x l a) (λ l. IsAccessOf t x l b) (accesses_of a)
        (λ l is. access_or_not l b);
  }

  thread_or_not : (a b : Event) → Decided (HaveOneThread a b)
  thread_or_not (Does u i) (Does v j) = same_number u v
  thread_or_not (Initial l) b = none_decided
  thread_or_not (Does u i) (Initial l) = none_decided

  internal_tame : IsTameRelation things (Internal t x)
  internal_tame = record {
    from = λ a b h. event_there a h.0;
    into = λ a b h. event_there b h.1;
    decided = λ a b.
        decided_as (λ h. (h.0, h.1.0, h.1.1)) (λ h. (h.0, (h.1, h.2)))
        (both_decided (event_or_not t x a)
        (both_decided (event_or_not t x b) (thread_or_not a b)));
  }

  external_tame : IsTameRelation things (External t x)
  external_tame = complement things (IsEvent t x) events_tame (Internal t x) internal_tame

  zip_parts : (xs ys : List Event) (a b : Event) → Contains (zip xs ys) (a, b)
      → Contains xs a × Contains ys b
  zip_parts [] ys a b there = absurd (none_there (a, b) there)
  zip_parts (c ∷ xs) [] a b there = absurd (none_there (a, b) there)
  zip_parts (c ∷ xs) (d ∷ ys) a b there =
      elim (head_or_tail (c, d) (zip xs ys) (a, b) there) [
        | inl at ↦ (
          subst (λ (e : Event). Contains (c ∷ xs) e) (ap (λ (p : Event × Event). p.0) at)
              (here c xs),
          subst (λ (e : Event). Contains (d ∷ ys) e) (ap (λ (p : Event × Event). p.1) at)
              (here d ys),
        )
        | inr later ↦
            let rest : Contains xs a × Contains ys b = zip_parts xs ys a b later in
            (behind c xs a rest.0, behind d ys b rest.1)
      ]

  reads_tame : IsTameRelation things (ReadsFrom x)
  reads_tame = record {
    from = λ a b h. source_there a (zip_parts x.reads_from (loads_in 0 x.runs) a b h).0;
    into = λ a b h. load_there b (zip_parts x.reads_from (loads_in 0 x.runs) a b h).1;
    decided = reads_from_or_not t x;
  }

  -- the first stands before the second in an order
  abbrev StandBefore : List Event → Relation Event
  StandBefore order a b =
      (j : ℕ) × (j < length order)
      × ((slice_get order j ≡ Some b)
      × ((i : ℕ) × (i < j) × (slice_get order i ≡ Some a)))

  at_or_not : (order : List Event) (k : ℕ) (e : Event) → Decided (slice_get order k ≡ Some e)
  at_or_not order k e = by (slice_get order k)
    where
      by : (o : Option Event) → Decided (o ≡ Some e)
      by None = inr (λ is. no_some e is)
      by (Some d) =
          decided_as (λ same. ap (λ (c : Event). Some c) same) (λ same. same_some d e same)
          (same_event d e)

  before_or_not : (order : List Event) (a b : Event) → Decided (StandBefore order a b)
  before_or_not order a b =
      some_decided (λ j. j < length order)
      (λ j. (slice_get order j ≡ Some b)
      × ((i : ℕ) × (i < j) × (slice_get order i ≡ Some a)))
      (finite_below (length order))
      (λ j lt. both_decided (at_or_not order j b)
      (some_decided (λ i. i < j) (λ i. slice_get order i ≡ Some a) (finite_below j)
      (λ i less. at_or_not order i a)))

  coherence_or_not : (a b : Event) → Decided (Coherence x a b)
  coherence_or_not a b =
      decided_as to back
      (some_decided (λ order. Contains x.coherence order) (λ order. StandBefore order a b)
      (finite_list x.coherence) (λ order there. before_or_not order a b))
    where
      to : (order : List Event) × Contains x.coherence order × StandBefore order a b
          → Coherence x a b
      to (order, there, (j, lt, (second, (i, less, first)))) =
          (order, there, i, j, less, first, second)

      back : Coherence x a b
          → (order : List Event) × Contains x.coherence order × StandBefore order a b
      back (order, there, i, j, less, first, second) =
          (order, there, (j, get_below order j b second, (second, (i, less, first))))

  stands : (order : List Event) (k : ℕ) (e : Event) → slice_get order k ≡ Some e
      → Contains order e
  stands [] k e at = absurd (no_some e at)
  stands (d ∷ order) zero e at =
      subst (λ (c : Event). Contains (d ∷ order) c) (same_some d e at) (here d order)
  stands (d ∷ order) (suc k) e at = behind d order e (stands order k e at)

  coherence_tame : IsTameRelation things (Coherence x)
  coherence_tame = record {
    from = λ a b h. order_there h.0 a h.1 (stands h.0 h.2 a h.5);
    into = λ a b h. order_there h.0 b h.1 (stands h.0 h.3 b h.6);
    decided = coherence_or_not;
  }

  from_reads_tame : IsTameRelation things (FromReads x)
  from_reads_tame =
      sequence things (Inverse (ReadsFrom x)) (Coherence x)
      (inverse things (ReadsFrom x) reads_tame) coherence_tame

  accesses_tame : IsTameSet things (EventsOf t x names.Accesses)
  accesses_tame = sets_tame names.Accesses

  fenced_tame : (f : kinds.Fence) → IsTameRelation things (Fenced t x f)
  fenced_tame f = record {
    from = λ a b h. accesses_tame.inside a h.0;
    into = λ a b h. accesses_tame.inside b h.1;
    decided = λ a b.
        decided_as
        (λ h. (h.0, h.1.0, (h.1.1.0, h.1.1.2.0, h.1.1.2.1.0, h.1.1.2.1.1)))
        (λ h. (h.0, (h.1, (h.2.0, (fence_tame f).inside h.2.0 h.2.2, (h.2.1, (h.2.2, h.2.3))))))
        (both_decided (accesses_tame.decided a)
        (both_decided (accesses_tame.decided b)
        (some_decided (λ c. Contains things c)
        (λ c. ProgramOrder t x a c × (IsFence t x f c × ProgramOrder t x c b))
        (finite_list things)
        (λ c there. both_decided (program_or_not a c)
        (both_decided (fence_or_not f c) (program_or_not c b))))));
  }

  -- ---- dependencies

  abbrev Instructing : Type 1
  Instructing = (ℕ → text.Instruction) → ℕ → ℕ → Type 0

  -- both ends of what depends are instructions that are executed
  depends_tame : (R : Instructing)
      → ((thread i j : ℕ) → Decided (R (instructions_of x thread) i j))
      → ((thread i j : ℕ) → R (instructions_of x thread) i j → IsPlace t x (Does thread i))
      → ((thread i j : ℕ) → R (instructions_of x thread) i j → IsPlace t x (Does thread j))
      → IsTameRelation things (Dependency R x)
  depends_tame R each first second = record {
    from = from;
    into = into;
    decided = depends_or_not t x R each;
  }
    where
      from : (a b : Event) → Dependency R x a b → Contains things a
      from (Does u i) (Does v j) h = place_there (Does u i) (first u i j h.1)
      from (Initial l) b h = absurd h
      from (Does u i) (Initial l) h = absurd h

      into : (a b : Event) → Dependency R x a b → Contains things b
      into (Does u i) (Does v j) h =
          subst (λ (n : ℕ). Contains things (Does n j)) h.0
          (place_there (Does u j) (second u i j h.1))
      into (Initial l) b h = absurd h
      into (Does u i) (Initial l) h = absurd h

  executed : (P : text.Instruction → Type 0) → (P (texts.Branch []) → ⊥) → (thread index : ℕ)
      → P (instructions_of x thread index) → IsPlace t x (Does thread index)
  executed P behind_end thread index is =
      let at : _ = in_range x P behind_end thread index is in
      does_place t x thread index at.0 at.1

  no_test : IsTrue false → ⊥
  no_test e = true≢false (sym e)

  load_place : (thread index : ℕ) → IsTrue (is_load (instructions_of x thread index))
      → IsPlace t x (Does thread index)
  load_place = executed (λ i. IsTrue (is_load i)) no_test

  event_of_run : (thread index : ℕ) → IsTrue (is_event (instructions_of x thread index))
      → IsPlace t x (Does thread index)
  event_of_run = executed (λ i. IsTrue (is_event i)) no_test

  address_tame : IsTameRelation things (Dependency IsAddr x)
  address_tame =
      depends_tame IsAddr
      (λ u. addr_or_not (instructions_of x u) (length (instances_of x u)) (read_below t x u))
      (λ u i j h. load_place u i h.0)
      (λ u i j h. executed (λ k. IsAddressRegister k h.1.0) (λ is. is) u j h.1.1)

  data_tame : IsTameRelation things (Dependency IsData x)
  data_tame =
      depends_tame IsData
      (λ u. data_or_not (instructions_of x u) (length (instances_of x u)) (read_below t x u))
      (λ u i j h. load_place u i h.0)
      (λ u i j h. executed (λ k. IsStoredRegister k h.1.0) (λ is. is) u j h.1.1)

  control_tame : IsTameRelation things (Dependency IsCtrl x)
  control_tame =
      depends_tame IsCtrl
      (λ u. ctrl_or_not (instructions_of x u) (length (instances_of x u)) (read_below t x u))
      (λ u i j h. load_place u i h.1.3.0) (λ u i j h. event_of_run u j h.0)

  control_isync_tame : IsTameRelation things (Dependency IsCtrlIsync x)
  control_isync_tame =
      depends_tame IsCtrlIsync
      (λ u. ctrl_isync_or_not (instructions_of x u) (length (instances_of x u))
      (read_below t x u))
      (λ u i j h. load_place u i h.1.3.1.3.0) (λ u i j h. event_of_run u j h.0)

  -- ---- all of them

  external_part : (R : Relation Event) → IsTameRelation things R
      → IsTameRelation things (Intersection R (External t x))
  external_part R h = intersection things R (External t x) h external_tame

  internal_part : (R : Relation Event) → IsTameRelation things R
      → IsTameRelation things (Intersection R (Internal t x))
  internal_part R h = intersection things R (Internal t x) h internal_tame

  pairs_tame : (p : Predefined) → IsTameRelation things (PairsOf t x p)
  pairs_tame names.Identity = identity things same_event (IsEvent t x) events_tame
  pairs_tame names.ProgramOrder = program_tame
  pairs_tame names.SameLocation = location_tame
  pairs_tame names.ProgramOrderSameLocation =
      intersection things (ProgramOrder t x) (SameLocation t x) program_tame location_tame
  pairs_tame names.Internal = internal_tame
  pairs_tame names.External = external_tame
  pairs_tame names.ReadsFrom = reads_tame
  pairs_tame names.Coherence = coherence_tame
  pairs_tame names.FromReads = from_reads_tame
  pairs_tame names.ReadsFromExternal = external_part (ReadsFrom x) reads_tame
  pairs_tame names.ReadsFromInternal = internal_part (ReadsFrom x) reads_tame
  pairs_tame names.CoherenceExternal = external_part (Coherence x) coherence_tame
  pairs_tame names.CoherenceInternal = internal_part (Coherence x) coherence_tame
  pairs_tame names.FromReadsExternal = external_part (FromReads x) from_reads_tame
  pairs_tame names.FromReadsInternal = internal_part (FromReads x) from_reads_tame
  pairs_tame names.Communication =
      union things (Union (ReadsFrom x) (Coherence x)) (FromReads x)
      (union things (ReadsFrom x) (Coherence x) reads_tame coherence_tame) from_reads_tame
  pairs_tame names.AddressDependency = address_tame
  pairs_tame names.DataDependency = data_tame
  pairs_tame names.ControlDependency = control_tame
  pairs_tame names.ControlIsyncDependency = control_isync_tame
  pairs_tame names.SyncOrder = fenced_tame Sync
  pairs_tame names.LwsyncOrder = fenced_tame LightweightSync
  pairs_tame names.EieioOrder = fenced_tame Eieio
  pairs_tame names.IsyncOrder = fenced_tame Isync
  pairs_tame _ = no_pairs things

  meaning_tame : (p : Predefined) (b : Bool)
      → IsTame things (choice_of b (ASet (EventsOf t x p)) (ARelation (PairsOf t x p)))
  meaning_tame p true = sets_tame p
  meaning_tame p false = pairs_tame p

  onto_tame : (ps : List Predefined) (N : Names Event) → TameNames things N
      → TameNames things (names_onto t x ps N)
  onto_tame [] N tame = tame
  onto_tame (p ∷ ps) N tame =
      onto_tame ps ((spelling p, predefined_bound t x p) ∷ N)
      (more (spelling p) (predefined_bound t x p) N
      (a_meaning (choice_of (predefined.is_set p) (ASet (EventsOf t x p)) (ARelation (PairsOf t x p)))
      (meaning_tame p (predefined.is_set p)))
      tame)

  pub outermost_tame : TameNames frame.things (outermost t x)
  outermost_tame =
      subst (λ (N : Names Event). TameNames things N) (names_are t x)
      (onto_tame predefined_names [] none)
