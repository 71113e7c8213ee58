use Rattle.predefined_names.specs.declared.predefined.Predefined.TheVariants as names
use Rattle.text_values.specs.declared.instruction.Fence.TheVariants.{Sync, LightweightSync, Eieio, Isync}
use Rattle.base_names.specs.Events.{ListedPairs, Fenced}
use Rattle.base_names.proofs.Named.{from_nothing, nothing_is, linked_is, identity_is, external_is, links_program, links_both}
use Rattle.base_names.proofs.fixed.write_fixed.Goals as goal

pub returns-in-Identity : goal.returns-in-Identity
returns-in-Identity c =
    rw c.in-Identity.is (identity_is c.args.combination.now c.clear.ensures c.add_identity.ensures)

pub returns-in-External : goal.returns-in-External
returns-in-External c =
    rw c.in-External.is (external_is c.args.combination.now c.clear.ensures
    (rw c.as_slice-events.ensures.value at c.put_linked-in-External.ensures) c.turn.ensures)

pub returns-in-ProgramOrder : goal.returns-in-ProgramOrder
returns-in-ProgramOrder c =
    rw c.in-ProgramOrder.is (linked_is c.args.combination.now names.ProgramOrder
    (links_program c.args.combination.now c.args.count) c.clear.ensures
    (rw (c.in-ProgramOrder.is, c.as_slice-events.ensures.value) at c.put_linked.ensures))

pub returns-in-SameLocation : goal.returns-in-SameLocation
returns-in-SameLocation c =
    rw c.in-SameLocation.is (linked_is c.args.combination.now names.SameLocation
    (λ a b. ((λ h. h), (λ h. h))) c.clear.ensures (rw
    (c.in-SameLocation.is, c.as_slice-events.ensures.value) at
    c.put_linked-in-SameLocation.ensures))

pub returns-in-ProgramOrderSameLocation : goal.returns-in-ProgramOrderSameLocation
returns-in-ProgramOrderSameLocation c =
    rw c.in-ProgramOrderSameLocation.is (linked_is c.args.combination.now
    names.ProgramOrderSameLocation (links_both c.args.combination.now c.args.count)
    c.clear.ensures (rw (c.in-ProgramOrderSameLocation.is, c.as_slice-events.ensures.value) at
    c.put_linked-in-ProgramOrderSameLocation.ensures))

pub returns-in-Internal : goal.returns-in-Internal
returns-in-Internal c =
    rw c.in-Internal.is (linked_is c.args.combination.now names.Internal
    (λ a b. ((λ h. h), (λ h. h))) c.clear.ensures (rw
    (c.in-Internal.is, c.as_slice-events.ensures.value) at
    c.put_linked-in-Internal.ensures))

pub returns-in-AddressDependency : goal.returns-in-AddressDependency
returns-in-AddressDependency c =
    rw c.in-AddressDependency.is (from_nothing
    (ListedPairs c.args.combination.now.dependencies.addr_pairs.items) c.clear.ensures
    (rw c.deref.ensures.value at c.put_pairs.ensures))

pub returns-in-DataDependency : goal.returns-in-DataDependency
returns-in-DataDependency c =
    rw c.in-DataDependency.is (from_nothing
    (ListedPairs c.args.combination.now.dependencies.data_pairs.items) c.clear.ensures
    (rw c.deref-in-DataDependency.ensures.value at c.put_pairs-in-DataDependency.ensures))

pub returns-in-ControlDependency : goal.returns-in-ControlDependency
returns-in-ControlDependency c =
    rw c.in-ControlDependency.is (from_nothing
    (ListedPairs c.args.combination.now.dependencies.ctrl_pairs.items) c.clear.ensures
    (rw c.deref-in-ControlDependency.ensures.value at c.put_pairs-in-ControlDependency.ensures))

pub returns-in-ControlIsyncDependency : goal.returns-in-ControlIsyncDependency
returns-in-ControlIsyncDependency c =
    rw c.in-ControlIsyncDependency.is (from_nothing
    (ListedPairs c.args.combination.now.dependencies.ctrlisync_pairs.items) c.clear.ensures
    (rw c.deref-in-ControlIsyncDependency.ensures.value at
    c.put_pairs-in-ControlIsyncDependency.ensures))

pub returns-in-SyncOrder : goal.returns-in-SyncOrder
returns-in-SyncOrder c =
    rw c.in-SyncOrder.is (from_nothing (Fenced c.args.combination.now.events.items Sync)
    c.clear.ensures (rw c.as_slice-events.ensures.value at c.put_fenced.ensures))

pub returns-in-LwsyncOrder : goal.returns-in-LwsyncOrder
returns-in-LwsyncOrder c =
    rw c.in-LwsyncOrder.is (from_nothing
    (Fenced c.args.combination.now.events.items LightweightSync) c.clear.ensures
    (rw c.as_slice-events.ensures.value at c.put_fenced-in-LwsyncOrder.ensures))

pub returns-in-EieioOrder : goal.returns-in-EieioOrder
returns-in-EieioOrder c =
    rw c.in-EieioOrder.is (from_nothing (Fenced c.args.combination.now.events.items Eieio)
    c.clear.ensures (rw c.as_slice-events.ensures.value at c.put_fenced-in-EieioOrder.ensures))

pub returns-in-IsyncOrder : goal.returns-in-IsyncOrder
returns-in-IsyncOrder c =
    rw c.in-IsyncOrder.is (from_nothing (Fenced c.args.combination.now.events.items Isync)
    c.clear.ensures (rw c.as_slice-events.ensures.value at c.put_fenced-in-IsyncOrder.ensures))

pub returns-in_default : goal.returns-in_default
returns-in_default c =
    nothing_is c.args.combination.now c.args.name c.in_default.not-Identity
    c.in_default.not-ProgramOrder c.in_default.not-SameLocation
    c.in_default.not-ProgramOrderSameLocation c.in_default.not-Internal c.in_default.not-External
    c.in_default.not-AddressDependency c.in_default.not-DataDependency
    c.in_default.not-ControlDependency c.in_default.not-ControlIsyncDependency
    c.in_default.not-SyncOrder c.in_default.not-LwsyncOrder c.in_default.not-EieioOrder
    c.in_default.not-IsyncOrder c.clear.ensures
