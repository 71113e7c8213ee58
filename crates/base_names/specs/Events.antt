-- Events of a candidate, by their numbers, and how two of them may be linked whatever the loads
-- read.
use Rattle.std.specs.Prelude.{ℕ, ◌≡◌, ◌<◌, ◌≤◌, ◌+◌, List, [], ◌∷◌, take, Option, Some, None, slice_get, Contains}
use Rattle.text_values.specs.declared.instruction.Fence as kinds
use Rattle.predefined_names.specs.declared.predefined.Predefined.{Predefined}
use Rattle.predefined_names.specs.declared.predefined.Predefined.TheVariants as names
use Rattle.store_orders.specs.declared.combination.Event.{Event}
use Rattle.store_orders.specs.declared.combination.Action.{Action}
use Rattle.store_orders.specs.declared.combination.Action.TheVariants.{Load, Store, Fence}

-- the location that an access is of
abbrev pub location_of : Action → Option ℕ
location_of (Load l v) = Some l
location_of (Store l v) = Some l
location_of (Fence f) = None

-- one more where the event is a load
abbrev pub loads_with : Action → ℕ → ℕ
loads_with (Load l v) n = n + 1
loads_with _ n = n

-- ---- one event

abbrev pub IsLoad : Event → Type 0
IsLoad e = (l : ℕ) × (v : _) × (e.action ≡ Load l v)

abbrev pub IsStore : Event → Type 0
IsStore e = (l : ℕ) × (v : _) × (e.action ≡ Store l v)

abbrev pub IsAccess : Event → Type 0
IsAccess e = (l : ℕ) × (location_of e.action ≡ Some l)

-- a fence of this kind
abbrev pub IsFence : kinds.Fence → Event → Type 0
IsFence kind e = e.action ≡ Fence kind

abbrev pub IsSomeFence : Event → Type 0
IsSomeFence e = (kind : kinds.Fence) × IsFence kind e

-- initial stores are of no thread
abbrev pub IsInitial : Event → Type 0
IsInitial e = e.thread ≡ None

-- ---- two events

abbrev pub IsSameThread : Event → Event → Type 0
IsSameThread e f = (t : ℕ) × (e.thread ≡ Some t) × (f.thread ≡ Some t)

abbrev pub IsSameLocation : Event → Event → Type 0
IsSameLocation e f = (l : ℕ) × (location_of e.action ≡ Some l) × (location_of f.action ≡ Some l)

-- ---- by their numbers

-- the event of this number is one of which the fact holds
abbrev pub At : List Event → (Event → Type 0) → ℕ → Type 0
At events S a = (e : Event) × (slice_get events a ≡ Some e) × S e

abbrev pub Both : List Event → (Event → Event → Type 0) → ℕ → ℕ → Type 0
Both events R a b =
    (e : Event) × (f : Event) × (slice_get events a ≡ Some e) × (slice_get events b ≡ Some f)
    × R e f

abbrev pub ProgramOrder : List Event → ℕ → ℕ → Type 0
ProgramOrder events a b = (a < b) × Both events IsSameThread a b

abbrev pub SameLocation : List Event → ℕ → ℕ → Type 0
SameLocation events = Both events IsSameLocation

abbrev pub Internal : List Event → ℕ → ℕ → Type 0
Internal events = Both events IsSameThread

-- accesses of one thread in program order with a fence of this kind between them
abbrev pub Fenced : List Event → kinds.Fence → ℕ → ℕ → Type 0
Fenced events kind a b =
    At events IsAccess a × At events IsAccess b
    × ((c : ℕ) × ProgramOrder events a c × At events (IsFence kind) c × ProgramOrder events c b)

-- the pair stands in the list
abbrev pub ListedPairs : List (ℕ × ℕ) → ℕ → ℕ → Type 0
ListedPairs pairs a b = Contains pairs (a, b)

-- the pairs of numbers below n
abbrev pub Below : ℕ → (ℕ → ℕ → Type 0) → ℕ → ℕ → Type 0
Below n R a b = (a < n) × (b < n) × R a b

-- how the names that look at two events alone link them
abbrev pub Linked : Predefined → ℕ → Event → ℕ → Event → Type 0
Linked names.ProgramOrder a e b f = (a < b) × IsSameThread e f
Linked names.SameLocation a e b f = IsSameLocation e f
Linked names.ProgramOrderSameLocation a e b f = (a < b) × IsSameThread e f × IsSameLocation e f
Linked names.Internal a e b f = IsSameThread e f
Linked _ a e b f = ⊥

abbrev pub Links : List Event → Predefined → ℕ → ℕ → Type 0
Links events name a b =
    (e : Event) × (f : Event) × (slice_get events a ≡ Some e) × (slice_get events b ≡ Some f)
    × Linked name a e b f

-- the pairs that end below n
abbrev pub Before : ℕ → (ℕ → ℕ → Type 0) → ℕ → ℕ → Type 0
Before n R a b = (b < n) × R a b

-- the pairs of one row that end below an end, and the pairs of the rows below an end
abbrev pub RowTo : (ℕ → ℕ → Type 0) → ℕ → ℕ → ℕ → ℕ → Type 0
RowTo R from end a b = (a ≡ from) × (b < end) × R a b

abbrev pub RowsTo : (ℕ → ℕ → Type 0) → ℕ → ℕ → ℕ → Type 0
RowsTo R end a b = (a < end) × R a b

-- how many of the events are loads
abbrev pub loads_in : List Event → ℕ
loads_in [] = 0
loads_in (e ∷ es) = loads_with e.action (loads_in es)

-- the load reads the store, by a list that has for each load in event order the number of its store
abbrev pub ReadsFromBy : List Event → List ℕ → ℕ → ℕ → Type 0
ReadsFromBy events reads_from a b =
    At events IsLoad b × (slice_get reads_from (loads_in (take b events)) ≡ Some a)

-- the pair of the load and the store at an index of the list
abbrev pub ReadsFromAt : List ℕ → ℕ → ℕ → ℕ → ℕ → Type 0
ReadsFromAt reads_from next load a b = (b ≡ load) × (slice_get reads_from next ≡ Some a)

-- the two stores are of one location and stand in the list in this order, the first at this index
abbrev pub CoherenceFrom : List Event → List ℕ → ℕ → ℕ → ℕ → Type 0
CoherenceFrom events order i a b =
    (j : ℕ) × (i < j) × (slice_get order i ≡ Some a) × (slice_get order j ≡ Some b)
    × SameLocation events a b

abbrev pub Coherence : List Event → List ℕ → ℕ → ℕ → Type 0
Coherence events order a b = (i : ℕ) × CoherenceFrom events order i a b

-- a fence of this kind stands behind the event in its thread, below an end
abbrev pub FenceBelow : List Event → kinds.Fence → ℕ → ℕ → Type 0
FenceBelow events kind from end =
    (c : ℕ) × (c < end) × ProgramOrder events from c × At events (IsFence kind) c

-- the pairs with loads below an end
abbrev pub ReadsFromBelow : List Event → List ℕ → ℕ → ℕ → ℕ → Type 0
ReadsFromBelow events reads_from end a b = (b < end) × ReadsFromBy events reads_from a b

-- the pairs with a first store at an index below an end of the list
abbrev pub CoherenceTo : List Event → List ℕ → ℕ → ℕ → ℕ → Type 0
CoherenceTo events order end a b = (i : ℕ) × (i < end) × CoherenceFrom events order i a b

-- the pairs with the first store at this index and the second below an end of the list
abbrev pub CoherenceFromTo : List Event → List ℕ → ℕ → ℕ → ℕ → ℕ → Type 0
CoherenceFromTo events order i end a b =
    (j : ℕ) × (j < end) × (i < j) × (slice_get order i ≡ Some a) × (slice_get order j ≡ Some b)
    × SameLocation events a b

-- the event at this index of the list is an access of the location
abbrev pub IsAccessAt : List Event → List ℕ → ℕ → ℕ → Type 0
IsAccessAt events order i l =
    (s : ℕ) × (slice_get order i ≡ Some s) × At events (λ e. location_of e.action ≡ Some l) s

-- at each index below an end stands an access, none of a lower location than an earlier one
abbrev pub AreLocationsRising : List Event → List ℕ → ℕ → Type 0
AreLocationsRising events order end =
    ((i : ℕ) → i < end → (l : ℕ) × IsAccessAt events order i l)
    × ((i j l m : ℕ) → i < j → j < end → IsAccessAt events order i l → IsAccessAt events order j m
    → l ≤ m)
