-- The predefined names of a candidate.
use Rattle.std.specs.Prelude.{ℕ}
use Rattle.text_values.specs.declared.instruction.Fence.TheVariants.{Sync, LightweightSync, Eieio, Isync}
use Rattle.predefined_names.specs.declared.predefined.Predefined.{Predefined}
use Rattle.predefined_names.specs.declared.predefined.Predefined.TheVariants as names
use Rattle.store_orders.specs.declared.combination.Event.{Event}
use Rattle.store_orders.specs.declared.combination.Combination.{Combination}
use Rattle.bit_rows.specs.Pairs.{Identity, Complement, Inter}
use Rattle.base_names.specs.Events as of
use Rattle.base_names.specs.Events.{IsLoad, IsStore, IsAccess, IsFence, IsSomeFence, IsInitial, Fenced, ListedPairs}

-- the events of a set
abbrev pub IsIn : Predefined → Event → Type 0
IsIn names.Loads e = IsLoad e
IsIn names.Stores e = IsStore e
IsIn names.Accesses e = IsAccess e
IsIn names.Fences e = IsSomeFence e
IsIn names.InitialStores e = IsInitial e
IsIn names.SyncFences e = IsFence Sync e
IsIn names.LwsyncFences e = IsFence LightweightSync e
IsIn names.EieioFences e = IsFence Eieio e
IsIn names.IsyncFences e = IsFence Isync e
IsIn _ e = ⊥

-- the pairs of a relation that does not depend on what the loads read, nor on the orders of the
-- stores, over n events
abbrev pub Fixed : Predefined → ℕ → Combination → ℕ → ℕ → Type 0
Fixed names.Identity n c = Identity n
Fixed names.ProgramOrder n c = of.ProgramOrder c.events.items
Fixed names.SameLocation n c = of.SameLocation c.events.items
Fixed names.ProgramOrderSameLocation n c =
    Inter (of.ProgramOrder c.events.items) (of.SameLocation c.events.items)
Fixed names.Internal n c = of.Internal c.events.items
Fixed names.External n c = Complement n (of.Internal c.events.items)
Fixed names.AddressDependency n c = ListedPairs c.dependencies.addr_pairs.items
Fixed names.DataDependency n c = ListedPairs c.dependencies.data_pairs.items
Fixed names.ControlDependency n c = ListedPairs c.dependencies.ctrl_pairs.items
Fixed names.ControlIsyncDependency n c = ListedPairs c.dependencies.ctrlisync_pairs.items
Fixed names.SyncOrder n c = Fenced c.events.items Sync
Fixed names.LwsyncOrder n c = Fenced c.events.items LightweightSync
Fixed names.EieioOrder n c = Fenced c.events.items Eieio
Fixed names.IsyncOrder n c = Fenced c.events.items Isync
Fixed _ n c = λ a b. ⊥
