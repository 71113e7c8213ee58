-- The item of a fault is one of the model.
use Rattle.std.proofs.Common.{ℕ, ◌<◌, ◌+◌, List, [], ◌∷◌, length, map, inl, inr, arith}
use Rattle.std.proofs.lemmas.List.{length-map}
use Rattle.text_values.specs.declared.model.Item.{Item}
use Rattle.binding_kinds.specs.declared.fault.ModelFault.{ModelFault}
use Rattle.binding_kinds.specs.Value.{Naming, BareItem, bare_item}
use Rattle.binding_kinds.specs.Senses.{Sense}
use Rattle.binding_kinds.specs.Faults.{IsFaultBehind, names_after, senses_after}
use Rattle.fault_texts.specs.declared.place.ItemFault.{ItemFault}
use Rattle.fault_texts.specs.Found.{IsItemFault}
use Rattle.binding_kinds.specs.Outermost.{outermost_names}

item_below : (ss : List Sense) (names : List Naming) (from : ℕ) (cs : List BareItem) (i p : ℕ)
    (k : ModelFault) → IsFaultBehind ss names from cs i p k → i < length cs
item_below ss names from [] i p k h = absurd h
item_below ss names from (c ∷ cs) i p k h = elim h [
  | inl (e, f) ↦ omega (arith, e)
  | inr (after, e, f) ↦
      let r =
      item_below (senses_after ss names c) (names_after ss names from c) (from + 1) cs after p k
      f in
      omega (arith, e, r)
]

pub place_below : (items : List Item) (place : ItemFault) → IsItemFault (map bare_item items) place
    → place.item < length items
place_below items place h =
    let b = item_below [] outermost_names 0 (map bare_item items) h.first.item h.first.index place.fault h.first.there in
    let e = h.item_is in
    let l = length-map items bare_item in
    omega (arith, b, e, l)
