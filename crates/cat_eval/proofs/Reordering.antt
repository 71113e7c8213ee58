-- What a name stands for where the stores are ordered in another way.
use Rattle.std.proofs.Common.{◌≡◌, Bool, true, false, refl}
use Rattle.std.proofs.lemmas.Bool.{true≢false}
use Rattle.bit_rows.specs.Relation.{Relation, Events}
use Rattle.predefined_names.specs.declared.predefined.Predefined.{Predefined}
use Rattle.predefined_names.specs.declared.predefined.Predefined.TheVariants as names
use Rattle.predefined_names.specs.PredefinedNames.{is_set}
use Rattle.base_names.specs.Known.{Known, KnownPairs, SharedPairs}
use Rattle.cat_eval.specs.Needed.{changes_with_orders}
use Rattle.cat_eval.specs.Reordered.{IsReordered, HoldsSame}
use Rattle.cat_eval.specs.Tables.{IsHeld}

module _ (first second : Known) (same : IsReordered first second) where
  shared_kept : (name : Predefined) → SharedPairs second name ≡ SharedPairs first name
  shared_kept name = rw (same.shared, same.count) refl

  -- a name that does not change with the order of the stores has the same pairs
  pairs_kept : (name : Predefined) → changes_with_orders name ≡ false
      → KnownPairs second name ≡ KnownPairs first name
  pairs_kept names.Loads is = shared_kept names.Loads
  pairs_kept names.Stores is = shared_kept names.Stores
  pairs_kept names.Accesses is = shared_kept names.Accesses
  pairs_kept names.Fences is = shared_kept names.Fences
  pairs_kept names.InitialStores is = shared_kept names.InitialStores
  pairs_kept names.SyncFences is = shared_kept names.SyncFences
  pairs_kept names.LwsyncFences is = shared_kept names.LwsyncFences
  pairs_kept names.EieioFences is = shared_kept names.EieioFences
  pairs_kept names.IsyncFences is = shared_kept names.IsyncFences
  pairs_kept names.Identity is = rw same.count refl
  pairs_kept names.ProgramOrder is = shared_kept names.ProgramOrder
  pairs_kept names.SameLocation is = shared_kept names.SameLocation
  pairs_kept names.ProgramOrderSameLocation is = shared_kept names.ProgramOrderSameLocation
  pairs_kept names.Internal is = shared_kept names.Internal
  pairs_kept names.External is = shared_kept names.External
  pairs_kept names.ReadsFrom is = rw same.reads_from refl
  pairs_kept names.Coherence is = absurd (true≢false is)
  pairs_kept names.FromReads is = absurd (true≢false is)
  pairs_kept names.ReadsFromExternal is = rw (same.shared, same.count, same.reads_from) refl
  pairs_kept names.ReadsFromInternal is = rw (same.shared, same.count, same.reads_from) refl
  pairs_kept names.CoherenceExternal is = absurd (true≢false is)
  pairs_kept names.CoherenceInternal is = absurd (true≢false is)
  pairs_kept names.FromReadsExternal is = absurd (true≢false is)
  pairs_kept names.FromReadsInternal is = absurd (true≢false is)
  pairs_kept names.Communication is = absurd (true≢false is)
  pairs_kept names.AddressDependency is = shared_kept names.AddressDependency
  pairs_kept names.DataDependency is = shared_kept names.DataDependency
  pairs_kept names.ControlDependency is = shared_kept names.ControlDependency
  pairs_kept names.ControlIsyncDependency is = shared_kept names.ControlIsyncDependency
  pairs_kept names.SyncOrder is = shared_kept names.SyncOrder
  pairs_kept names.LwsyncOrder is = shared_kept names.LwsyncOrder
  pairs_kept names.EieioOrder is = shared_kept names.EieioOrder
  pairs_kept names.IsyncOrder is = shared_kept names.IsyncOrder

  held_as : (b : Bool) (name : Predefined) → changes_with_orders name ≡ false
      → (s : Events) (r : Relation) → IsHeld b name first s r → IsHeld b name second s r
  held_as true name is s r held = rw (same.sets, same.count) held
  held_as false name is s r held = rw (pairs_kept name is, same.count) held

  pub holds_same : (name : Predefined) → changes_with_orders name ≡ false
      → HoldsSame name first second
  holds_same name is = held_as (is_set name) name is
