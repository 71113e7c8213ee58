-- What is found is the first fault of the model.
use Rattle.std.proofs.Common.{◌≡◌, List, [], map, reverse, Option, Some, None, Result, Ok, Err, IfOk, sym, ap, ◌∙◌, subst, arith}
use Rattle.std.specs.Prelude.{option_map}
use Rattle.predefined_names.specs.declared.predefined.TheConstants.{PREDEFINED}
use Rattle.binding_kinds.specs.declared.function.Function.{Function}
use Rattle.binding_kinds.specs.declared.scope.Entry.{Entry}
use Rattle.binding_kinds.specs.Outermost.{naming_of, outermost_names}
use Rattle.binding_kinds.specs.Value.{Naming, BareItem, entry_of}
use Rattle.binding_kinds.specs.Senses.{Sense, HaveSenses}
use Rattle.fault_texts.specs.declared.place.ItemFault.{ItemFault}
use Rattle.fault_texts.specs.Found.{IsFirstItemFault}
use Rattle.fault_texts.specs.Search.{IndexedFault, indexed_fault_of, first_fault_in_items}
use Rattle.fault_texts.proofs.Signing.{IsPlaced, ArePlaced, items_are_placed}

found_of : (items : List BareItem) (o : Option ItemFault)
    → option_map indexed_fault_of o ≡ first_fault_in_items [] outermost_names 0 items → IsFirstItemFault items o
found_of items None e =
    subst (λ (p : Option IndexedFault). ArePlaced [] outermost_names 0 items p) (sym e)
    (items_are_placed [] outermost_names 0 items)
found_of items (Some x) e =
    let p : IsPlaced [] outermost_names 0 items (indexed_fault_of x) = subst (λ (p : Option IndexedFault). ArePlaced [] outermost_names 0 items p) (sym e) (items_are_placed [] outermost_names 0 items) in
    record { first = p.first; item_is = let i = p.item_is in omega (arith, i); sign_is = p.sign_is }

pub found_in : {E : Type 0} (es : List Entry) (fs : List Function) (items : List BareItem)
    (r : Result (Option ItemFault) E) → fs ≡ [] → map entry_of es ≡ map naming_of PREDEFINED
    → ((senses : List Sense) → HaveSenses fs senses
    → IfOk r (λ f. option_map indexed_fault_of f
    ≡ first_fault_in_items senses (reverse (map entry_of es)) 0 items))
    → IfOk r (IsFirstItemFault items)
found_in es fs items (Ok o) none same h =
    found_of items o (h [] (subst (λ (l : List Function). HaveSenses l []) (sym none) tt)
    ∙ ap (λ (l : List Naming). first_fault_in_items [] (reverse l) 0 items) same)
found_in es fs items (Err e) none same h = tt
