-- What people are told of a model whose text reads and that has a fault. `model_fault_lines` cites
-- `IsModelFaultText`.
use Rattle.std.specs.Prelude.{◌≡◌, ℕ, suc, List, [], ◌++◌, map, slice_get, slice_index_or, Some, codes, decimal}
use Rattle.text_values.specs.declared.model.Item.{Item}
use Rattle.text_values.specs.ModelValue.{Clause}
use Rattle.text_values.specs.ModelValues.{clause_of}
use Rattle.cat_printing.specs.Printing.{printed_item}
use Rattle.binding_kinds.specs.declared.fault.ModelFault.{ModelFault}
use Rattle.binding_kinds.specs.Numbers.{number as fault_number}
use Rattle.binding_kinds.specs.Value as kinds
use Rattle.binding_kinds.specs.Faults.{HasNoFault}
use Rattle.fault_texts.specs.declared.place.ItemFault.{ItemFault}
use Rattle.fault_texts.specs.Found.{IsItemFault}
use Rattle.binding_kinds.specs.Outermost.{outermost_names}
use Rattle.fault_texts.specs.Words.{rule_words}
use Rattle.fault_texts.specs.Lines.{rule_said}

-- the number of the item at an index: the given one, and else its position in the text, from 1
abbrev pub item_number : List ℕ → ℕ → ℕ
item_number numbers index = slice_index_or numbers index (suc index)

-- the model and the number of the item, the rule with its words, the sign that is at fault, and the
-- item as it is printed
unfoldable pub fault_told : (name : List ℕ) (number : ℕ) (fault : ModelFault) (sign : List ℕ)
    → Clause → List ℕ
fault_told name number fault sign item =
    name ++ codes ": item " ++ decimal number ++ codes ": "
    ++ rule_said 77 (fault_number fault) (rule_words 77 (fault_number fault))
    ++ codes ", found `" ++ sign ++ codes "`\n" ++ printed_item item ++ codes "\n"

-- nothing of a model without fault, and of another what its first fault is and where it stands
pub data IsModelFaultText (name : List ℕ) (numbers : List ℕ) (items : List Item) (text : List ℕ)
    : Type 0 where
  IsFaultless : HasNoFault [] outermost_names 0 (map kinds.bare_item items) → text ≡ []
      → IsModelFaultText name numbers items text
  IsFaulty : (place : ItemFault) → IsItemFault (map kinds.bare_item items) place → (item : Item)
      → slice_get items place.item ≡ Some item
      → text
      ≡ fault_told name (item_number numbers place.item) place.fault place.sign.now
      (clause_of item) → IsModelFaultText name numbers items text
