-- What a predefined name has in a candidate can be told.
use Rattle.std.proofs.Common.{ℕ, ◌≡◌, ◌<◌, ◌⊎◌, inl, inr, List, length, take, Option, Some, None, refl, arith}
use Rattle.std.specs.Prelude.{slice_get}
use Rattle.std.proofs.lemmas.Bool.{cases_eq}
use Rattle.std.proofs.lemmas.Option.{slice_get_within}
use Rattle.text_values.specs.declared.instruction.Fence as kinds
use Rattle.text_values.specs.declared.instruction.Fence.TheVariants.{Sync, LightweightSync, Eieio, Isync}
use Rattle.predefined_names.specs.declared.predefined.Predefined.{Predefined}
use Rattle.predefined_names.specs.declared.predefined.Predefined.TheVariants as names
use Rattle.thread_runs.specs.declared.value.Value.{Value}
use Rattle.store_orders.specs.declared.combination.Action.{Action}
use Rattle.store_orders.specs.declared.combination.Action.TheVariants.{Load, Store, Fence}
use Rattle.store_orders.specs.declared.combination.Combination.{Combination}
use Rattle.store_orders.specs.declared.combination.Event.{Event}
use Rattle.bit_rows.specs.Pairs.{Inter, Complement}
use Rattle.base_names.specs.Events.{IsLoad, IsAccess, IsFence, IsSameThread, IsSameLocation, At, Both, ProgramOrder, SameLocation, Internal, Fenced, ReadsFromBy, Coherence, location_of, loads_in}
use Rattle.base_names.specs.Names.{IsIn, Fixed}
use Rattle.base_names.specs.Candidate.{SetIn, SharedIn, ReadsFromIn, CoherenceIn, FromReadsIn, RelationIn}
use Rattle.whole_outcomes.specs.NameLaws.{Told, NamesAreTold}
use Rattle.whole_outcomes.proofs.Telling.{told_both, told_either, told_not, told_same, told_less, Below, told_below, told_some, told_none, told_common, told_at, told_two, told_listed, none_or}

-- ---- one event

fence_number : kinds.Fence → ℕ
fence_number Sync = 0
fence_number LightweightSync = 1
fence_number Eieio = 2
fence_number Isync = 3

told_kind : (f g : kinds.Fence) → Told (f ≡ g)
unfolding fence_number
told_kind Sync Sync = inl refl
told_kind Sync LightweightSync = inr (λ e. let n : 0 ≡ 1 = (λ i. fence_number (e i)) in omega (arith, n))
told_kind Sync Eieio = inr (λ e. let n : 0 ≡ 2 = (λ i. fence_number (e i)) in omega (arith, n))
told_kind Sync Isync = inr (λ e. let n : 0 ≡ 3 = (λ i. fence_number (e i)) in omega (arith, n))
told_kind LightweightSync Sync = inr (λ e. let n : 1 ≡ 0 = (λ i. fence_number (e i)) in omega (arith, n))
told_kind LightweightSync LightweightSync = inl refl
told_kind LightweightSync Eieio = inr (λ e. let n : 1 ≡ 2 = (λ i. fence_number (e i)) in omega (arith, n))
told_kind LightweightSync Isync = inr (λ e. let n : 1 ≡ 3 = (λ i. fence_number (e i)) in omega (arith, n))
told_kind Eieio Sync = inr (λ e. let n : 2 ≡ 0 = (λ i. fence_number (e i)) in omega (arith, n))
told_kind Eieio LightweightSync = inr (λ e. let n : 2 ≡ 1 = (λ i. fence_number (e i)) in omega (arith, n))
told_kind Eieio Eieio = inl refl
told_kind Eieio Isync = inr (λ e. let n : 2 ≡ 3 = (λ i. fence_number (e i)) in omega (arith, n))
told_kind Isync Sync = inr (λ e. let n : 3 ≡ 0 = (λ i. fence_number (e i)) in omega (arith, n))
told_kind Isync LightweightSync = inr (λ e. let n : 3 ≡ 1 = (λ i. fence_number (e i)) in omega (arith, n))
told_kind Isync Eieio = inr (λ e. let n : 3 ≡ 2 = (λ i. fence_number (e i)) in omega (arith, n))
told_kind Isync Isync = inl refl

told_load_action : (x : Action) → Told ((l : ℕ) × (v : Value) × (x ≡ Load l v))
told_load_action (Load l v) = inl (l, v, refl)
told_load_action (Store l v) = inr (λ h. absurd (let e : Store l v ≡ Load h.0 h.1 = h.2 in cc))
told_load_action (Fence f) = inr (λ h. absurd (let e : Fence f ≡ Load h.0 h.1 = h.2 in cc))

told_store_action : (x : Action) → Told ((l : ℕ) × (v : Value) × (x ≡ Store l v))
told_store_action (Load l v) = inr (λ h. absurd (let e : Load l v ≡ Store h.0 h.1 = h.2 in cc))
told_store_action (Store l v) = inl (l, v, refl)
told_store_action (Fence f) = inr (λ h. absurd (let e : Fence f ≡ Store h.0 h.1 = h.2 in cc))

told_fence_action : (kind : kinds.Fence) (x : Action) → Told (x ≡ Fence kind)
told_fence_action kind (Load l v) = inr (λ e. absurd (let g : Load l v ≡ Fence kind = e in cc))
told_fence_action kind (Store l v) = inr (λ e. absurd (let g : Store l v ≡ Fence kind = e in cc))
told_fence_action kind (Fence f) =
    told_same (f ≡ kind) (Fence f ≡ Fence kind)
    ((λ e. λ i. Fence (e i)), (λ e. λ i. kind_of f (e i))) (told_kind f kind)
  where
    kind_of : kinds.Fence → Action → kinds.Fence
    kind_of d (Load l v) = d
    kind_of d (Store l v) = d
    kind_of d (Fence g) = g

told_some_fence : (x : Action) → Told ((kind : kinds.Fence) × (x ≡ Fence kind))
told_some_fence (Load l v) = inr (λ h. absurd (let g : Load l v ≡ Fence h.0 = h.1 in cc))
told_some_fence (Store l v) = inr (λ h. absurd (let g : Store l v ≡ Fence h.0 = h.1 in cc))
told_some_fence (Fence f) = inl (f, refl)

told_location : (o : Option ℕ) → Told ((l : ℕ) × (o ≡ Some l))
told_location None = inr (λ h. none_or h.0 h.1)
told_location (Some l) = inl (l, refl)

told_in : (name : Predefined) (e : Event) → Told (IsIn name e)
told_in names.Loads e = told_load_action e.action
told_in names.Stores e = told_store_action e.action
told_in names.Accesses e = told_location (location_of e.action)
told_in names.Fences e = told_some_fence e.action
told_in names.InitialStores e = told_none e.thread
told_in names.SyncFences e = told_fence_action Sync e.action
told_in names.LwsyncFences e = told_fence_action LightweightSync e.action
told_in names.EieioFences e = told_fence_action Eieio e.action
told_in names.IsyncFences e = told_fence_action Isync e.action
told_in _ e = inr (λ h. h)

-- ---- events and pairs by number

module _ (events : List Event) where
  event_at : (P : Event → Type 0) → ((e : Event) → Told (P e)) → (a : ℕ) → Told (At events P a)
  event_at P told a = told_at P told (slice_get events a)

  events_at : (P : Event → Event → Type 0) → ((e f : Event) → Told (P e f)) → (a b : ℕ)
      → Told (Both events P a b)
  events_at P told a b = told_two P told (slice_get events a) (slice_get events b)

  same_thread : (e f : Event) → Told (IsSameThread e f)
  same_thread e f = told_common e.thread f.thread

  same_location : (e f : Event) → Told (IsSameLocation e f)
  same_location e f = told_common (location_of e.action) (location_of f.action)

  program_order : (a b : ℕ) → Told (ProgramOrder events a b)
  program_order a b =
      told_both (a < b) (Both events IsSameThread a b) (told_less a b) (events_at IsSameThread same_thread a b)

  -- a fence of the kind stands between them
  abbrev Between : kinds.Fence → ℕ → ℕ → ℕ → Type 0
  Between kind a b c = ProgramOrder events a c × At events (IsFence kind) c × ProgramOrder events c b

  between : (kind : kinds.Fence) (a b c : ℕ) → Told (Between kind a b c)
  between kind a b c =
      told_same (ProgramOrder events a c × (At events (IsFence kind) c × ProgramOrder events c b))
      (Between kind a b c) ((λ h. (h.0, h.1.0, h.1.1)), (λ h. (h.0, (h.1, h.2))))
      (told_both (ProgramOrder events a c) (At events (IsFence kind) c × ProgramOrder events c b)
      (program_order a c)
      (told_both (At events (IsFence kind) c) (ProgramOrder events c b)
      (event_at (IsFence kind) (λ e. told_fence_action kind e.action) c) (program_order c b)))

  fenced : (kind : kinds.Fence) (a b : ℕ) → Told (Fenced events kind a b)
  fenced kind a b =
      told_same (At events IsAccess a × (At events IsAccess b × Below (Between kind a b) b))
      (Fenced events kind a b) (
        (λ h. (h.0, h.1.0, (h.1.1.0, h.1.1.2.0, h.1.1.2.1, h.1.1.2.2))),
        (λ h. (h.0, (h.1, (h.2.0, h.2.3.0, (h.2.1, h.2.2, h.2.3))))),
      )
      (told_both (At events IsAccess a) (At events IsAccess b × Below (Between kind a b) b)
      (event_at IsAccess (λ e. told_location (location_of e.action)) a)
      (told_both (At events IsAccess b) (Below (Between kind a b) b)
      (event_at IsAccess (λ e. told_location (location_of e.action)) b)
      (told_below (Between kind a b) (between kind a b) b)))

  reads_from_by : (reads : List ℕ) (a b : ℕ) → Told (ReadsFromBy events reads a b)
  reads_from_by reads a b =
      told_both (At events IsLoad b) (slice_get reads (loads_in (take b events)) ≡ Some a)
      (event_at IsLoad (λ e. told_load_action e.action) b)
      (told_some (slice_get reads (loads_in (take b events))) a)

  -- the two stand at these indexes of the order
  abbrev StandAt : List ℕ → ℕ → ℕ → ℕ → ℕ → Type 0
  StandAt order a b i j =
      (i < j) × ((slice_get order i ≡ Some a) × ((slice_get order j ≡ Some b) × SameLocation events a b))

  coherence_by : (order : List ℕ) (a b : ℕ) → Told (Coherence events order a b)
  coherence_by order a b =
      told_same (Below (λ i. Below (StandAt order a b i) (length order)) (length order)) (Coherence events order a b) (
        (λ h. (h.0, (h.2.0, h.2.2.0, h.2.2.1.0, h.2.2.1.1.0, h.2.2.1.1.1))),
        (λ h. (
          h.0,
          slice_get_within order h.0 a h.1.2,
          (h.1.0, slice_get_within order h.1.0 b h.1.3, (h.1.1, (h.1.2, (h.1.3, h.1.4)))),
        )),
      )
      (told_below (λ i. Below (StandAt order a b i) (length order))
      (λ i. told_below (StandAt order a b i) (λ j.
      told_both (i < j) ((slice_get order i ≡ Some a) × ((slice_get order j ≡ Some b) × SameLocation events a b))
      (told_less i j)
      (told_both (slice_get order i ≡ Some a) ((slice_get order j ≡ Some b) × SameLocation events a b)
      (told_some (slice_get order i) a)
      (told_both (slice_get order j ≡ Some b) (SameLocation events a b) (told_some (slice_get order j) b)
      (events_at IsSameLocation same_location a b)))) (length order)) (length order))

-- ---- the names

told_fixed : (name : Predefined) (n : ℕ) (c : Combination) (a b : ℕ) → Told (Fixed name n c a b)
told_fixed names.Identity n c a b = told_both (a < n) (a ≡ b) (told_less a n) (cases_eq a b)
told_fixed names.ProgramOrder n c a b = program_order c.events.items a b
told_fixed names.SameLocation n c a b =
    events_at c.events.items IsSameLocation (same_location c.events.items) a b
told_fixed names.ProgramOrderSameLocation n c a b =
    told_both (ProgramOrder c.events.items a b) (SameLocation c.events.items a b)
    (program_order c.events.items a b)
    (events_at c.events.items IsSameLocation (same_location c.events.items) a b)
told_fixed names.Internal n c a b =
    events_at c.events.items IsSameThread (same_thread c.events.items) a b
told_fixed names.External n c a b =
    told_same ((a < n) × ((b < n) × (Internal c.events.items a b → ⊥)))
    (Complement n (Internal c.events.items) a b)
    ((λ h. (h.0, h.1.0, h.1.1)), (λ h. (h.0, (h.1, h.2))))
    (told_both (a < n) ((b < n) × (Internal c.events.items a b → ⊥)) (told_less a n)
    (told_both (b < n) (Internal c.events.items a b → ⊥) (told_less b n)
    (told_not (Internal c.events.items a b)
    (events_at c.events.items IsSameThread (same_thread c.events.items) a b))))
told_fixed names.AddressDependency n c a b = told_listed c.dependencies.addr_pairs.items a b
told_fixed names.DataDependency n c a b = told_listed c.dependencies.data_pairs.items a b
told_fixed names.ControlDependency n c a b = told_listed c.dependencies.ctrl_pairs.items a b
told_fixed names.ControlIsyncDependency n c a b = told_listed c.dependencies.ctrlisync_pairs.items a b
told_fixed names.SyncOrder n c a b = fenced c.events.items Sync a b
told_fixed names.LwsyncOrder n c a b = fenced c.events.items LightweightSync a b
told_fixed names.EieioOrder n c a b = fenced c.events.items Eieio a b
told_fixed names.IsyncOrder n c a b = fenced c.events.items Isync a b
told_fixed _ n c a b = inr (λ h. h)

pub names_told : (c : Combination) → NamesAreTold c
names_told c n reads order name = (set_told, relation_told name)
  where
    below_told : (R : ℕ → ℕ → Type 0) → ((a b : ℕ) → Told (R a b)) → (a b : ℕ)
        → Told ((a < n) × (b < n) × R a b)
    below_told R told a b =
        told_same ((a < n) × ((b < n) × R a b)) ((a < n) × (b < n) × R a b)
        ((λ h. (h.0, h.1.0, h.1.1)), (λ h. (h.0, (h.1, h.2))))
        (told_both (a < n) ((b < n) × R a b) (told_less a n)
        (told_both (b < n) (R a b) (told_less b n) (told a b)))

    set_told : (a : ℕ) → Told (SetIn c n name a)
    set_told a =
        told_both (a < n) (At c.events.items (IsIn name) a) (told_less a n)
        (event_at c.events.items (IsIn name) (told_in name) a)

    shared_told : (other : Predefined) (a b : ℕ) → Told (SharedIn c n other a b)
    shared_told other = below_told (Fixed other n c) (told_fixed other n c)

    reads_told : (a b : ℕ) → Told (ReadsFromIn c n reads a b)
    reads_told = below_told (λ a b. ReadsFromBy c.events.items reads a b) (reads_from_by c.events.items reads)

    order_told : (a b : ℕ) → Told (CoherenceIn c n order a b)
    order_told = below_told (λ a b. Coherence c.events.items order a b) (coherence_by c.events.items order)

    from_reads_told : (a b : ℕ) → Told (FromReadsIn c n reads order a b)
    from_reads_told a b =
        told_same (Below (λ d. ReadsFromIn c n reads d a × CoherenceIn c n order d b) n) (FromReadsIn c n reads order a b)
        ((λ h. (h.0, h.2.0, h.2.1)), (λ h. (h.0, h.1.0, (h.1, h.2))))
        (told_below (λ d. ReadsFromIn c n reads d a × CoherenceIn c n order d b)
        (λ d. told_both (ReadsFromIn c n reads d a) (CoherenceIn c n order d b) (reads_told d a) (order_told d b)) n)

    both_told : (R S : ℕ → ℕ → Type 0) → ((a b : ℕ) → Told (R a b)) → ((a b : ℕ) → Told (S a b))
        → (a b : ℕ) → Told (Inter R S a b)
    both_told R S r s a b = told_both (R a b) (S a b) (r a b) (s a b)

    relation_told : (other : Predefined) (a b : ℕ) → Told (RelationIn other n c reads order a b)
    relation_told names.ReadsFrom = reads_told
    relation_told names.Coherence = order_told
    relation_told names.FromReads = from_reads_told
    relation_told names.ReadsFromExternal =
        both_told (SharedIn c n names.External) (ReadsFromIn c n reads) (shared_told names.External) reads_told
    relation_told names.ReadsFromInternal =
        both_told (SharedIn c n names.Internal) (ReadsFromIn c n reads) (shared_told names.Internal) reads_told
    relation_told names.CoherenceExternal =
        both_told (SharedIn c n names.External) (CoherenceIn c n order) (shared_told names.External) order_told
    relation_told names.CoherenceInternal =
        both_told (SharedIn c n names.Internal) (CoherenceIn c n order) (shared_told names.Internal) order_told
    relation_told names.FromReadsExternal =
        both_told (SharedIn c n names.External) (FromReadsIn c n reads order) (shared_told names.External) from_reads_told
    relation_told names.FromReadsInternal =
        both_told (SharedIn c n names.Internal) (FromReadsIn c n reads order) (shared_told names.Internal) from_reads_told
    relation_told names.Communication = λ a b.
        told_either (ReadsFromIn c n reads a b ⊎ CoherenceIn c n order a b) (FromReadsIn c n reads order a b)
        (told_either (ReadsFromIn c n reads a b) (CoherenceIn c n order a b) (reads_told a b) (order_told a b))
        (from_reads_told a b)
    relation_told other = shared_told other
