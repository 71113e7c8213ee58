-- Items that are looked at one after another.
use Rattle.std.proofs.Common.{ℕ, suc, ◌≡◌, ◌<◌, ◌≤◌, ◌+◌, List, ◌∷◌, length, map, drop, reverse, get_or, Option, Some, None, sym, ap, ◌∙◌, add-one}
use Rattle.std.specs.Prelude.{option_map}
use Rattle.std.proofs.lemmas.List.{drop_all}
use Rattle.std.proofs.Math.Seq.{drop-cons}
use Rattle.text_values.specs.declared.model.Item.{Item}
use Rattle.binding_kinds.specs.declared.function.Function.{Function}
use Rattle.binding_kinds.specs.declared.scope.Entry.{Entry}
use Rattle.binding_kinds.specs.Value.{Naming, entry_of, bare_item}
use Rattle.binding_kinds.specs.Senses.{Sense, HaveSenses}
use Rattle.binding_kinds.specs.Faults.{names_after, senses_after}
use Rattle.fault_texts.specs.declared.place.SignFault.{SignFault}
use Rattle.fault_texts.specs.declared.place.ItemFault.{ItemFault}
use Rattle.fault_texts.specs.Search.{SignedFault, IndexedFault, signed_fault_of, first_fault_in_item, indexed_fault, indexed_fault_of, first_fault_in_items}

-- the items before the index have no fault
pub record AreSearched (ss : List Sense) (old now : List Naming) (fs : List Function)
    (items : List Item) (i : ℕ) : Type 0 where
  pub senses : List Sense
  pub kept : HaveSenses fs senses
  pub rest : first_fault_in_items ss old 0 (map bare_item items)
      ≡ first_fault_in_items senses now i (map bare_item (drop i items))

next_items : (items : List Item) (i : ℕ) (d : Item) → i < length items → d ≡ get_or items i d
    → map bare_item (drop i items) ≡ bare_item d ∷ map bare_item (drop (i + 1) items)
next_items items i d lt is =
    ap (map bare_item) (drop-cons items i d lt)
    ∙ ap (λ (x : Item). bare_item x ∷ map bare_item (drop (suc i) items)) (sym is)
    ∙ ap (λ (n : ℕ). bare_item d ∷ map bare_item (drop n items)) (sym (add-one i))

module _ (ss : List Sense) (old : List Naming) (before : List Entry) (fs : List Function)
    (items : List Item) (i : ℕ) (d : Item) (f : Option SignFault) (lt : i < length items)
    (is : d ≡ get_or items i d) (m : AreSearched ss old (reverse (map entry_of before)) fs items i)
    (fault : (senses : List Sense) → HaveSenses fs senses
    → option_map signed_fault_of f
    ≡ first_fault_in_item senses (reverse (map entry_of before)) i (bare_item d)) where
  abbrev now : List Naming
  now = reverse (map entry_of before)

  abbrev later : Option IndexedFault
  later =
      first_fault_in_items (senses_after m.senses now (bare_item d))
      (names_after m.senses now i (bare_item d)) (i + 1) (map bare_item (drop (i + 1) items))

  opened : first_fault_in_items ss old 0 (map bare_item items)
      ≡ indexed_fault i (option_map signed_fault_of f) later
  opened =
      m.rest
      ∙ (ap (first_fault_in_items m.senses now i) (next_items items i d lt is)
      ∙ ap (λ (o : Option SignedFault). indexed_fault i o later)
      (sym (fault m.senses m.kept)))

  pub searched_more : (after : List Entry) (gs : List Function) → f ≡ None
      → ((senses : List Sense) → HaveSenses fs senses → f ≡ None
      → reverse (map entry_of after) ≡ names_after senses now i (bare_item d))
      → ((senses : List Sense) → HaveSenses fs senses → f ≡ None
      → HaveSenses gs (senses_after senses now (bare_item d)))
      → AreSearched ss old (reverse (map entry_of after)) gs items (i + 1)
  searched_more after gs none names kept = record {
    senses = senses_after m.senses now (bare_item d);
    kept = kept m.senses m.kept none;
    rest =
        opened
        ∙ (ap (λ (o : Option SignFault). indexed_fault i (option_map signed_fault_of o) later) none
        ∙ ap
        (λ (l : List Naming). first_fault_in_items
        (senses_after m.senses now (bare_item d)) l (i + 1)
        (map bare_item (drop (i + 1) items)))
        (sym (names m.senses m.kept none)));
  }

  pub searched_found : (found : SignFault) (x : ItemFault) → f ≡ Some found
      → x ≡ record { item = i; fault = found.fault; sign = found.sign }
      → Some (indexed_fault_of x) ≡ first_fault_in_items ss old 0 (map bare_item items)
  searched_found found x some x_is =
      sym (opened
      ∙ (ap (λ (o : Option SignFault). indexed_fault i (option_map signed_fault_of o) later) some
      ∙ ap (λ (y : ItemFault). Some (indexed_fault_of y)) (sym x_is)))

pub searched_all : (ss : List Sense) (old now : List Naming) (fs : List Function)
    (items : List Item) (i : ℕ) → length items ≤ i → AreSearched ss old now fs items i
    → None ≡ first_fault_in_items ss old 0 (map bare_item items)
searched_all ss old now fs items i past m =
    sym (m.rest
    ∙ ap (λ (l : List Item). first_fault_in_items m.senses now i (map bare_item l))
    (drop_all i items past))
