-- What is found of the first fault of a model. `first_fault` cites it.
use Rattle.std.specs.Prelude.{◌≡◌, List, [], slice_get, slice_index_or, Option, Some, None}
use Rattle.binding_kinds.specs.Value.{BareItem, Mute}
use Rattle.binding_kinds.specs.Outermost.{outermost_names}
use Rattle.binding_kinds.specs.Faults.{HasNoFault, FirstFault}
use Rattle.fault_texts.specs.declared.place.ItemFault.{ItemFault}
use Rattle.fault_texts.specs.Signs.{signs_of_item}

-- the first fault of these items stands in the item of that index, at that sign
pub record IsItemFault (items : List BareItem) (place : ItemFault) : Type 0 where
  pub first : FirstFault [] outermost_names 0 items place.fault
  pub item_is : first.item ≡ place.item
  pub sign_is : slice_get (signs_of_item (slice_index_or items first.item Mute)) first.index
      ≡ Some place.sign.now

-- there is none, or this is the first
abbrev pub IsFirstItemFault : List BareItem → Option ItemFault → Type 0
IsFirstItemFault items None = HasNoFault [] outermost_names 0 items
IsFirstItemFault items (Some place) = IsItemFault items place
