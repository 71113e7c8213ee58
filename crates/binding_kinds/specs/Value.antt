-- A model as plain data, without where it lies in memory.
use Rattle.std.specs.Prelude.{ℕ, List, Bool, map}
use Rattle.text_values.specs.declared.model.CheckWord.{CheckWord}
use Rattle.text_values.specs.declared.model.Binding as code_binding
use Rattle.text_values.specs.declared.model.Item as code_item
use Rattle.text_values.specs.declared.model.Item.TheVariants as items
use Rattle.text_values.specs.ModelValue.{Term}
use Rattle.text_values.specs.ModelValues.{term_of}
use Rattle.binding_kinds.specs.declared.kinds.Kind.{Kind}
use Rattle.binding_kinds.specs.declared.scope.Binder.{Binder}
use Rattle.binding_kinds.specs.declared.scope.Entry as code_entry

-- one name of a group, with its body
pub record Bound : Type 0 where
  pub name : List ℕ
  pub body : Term

-- an item, as far as names, kinds and faults depend on it: without labels, paths and what is shown
pub data BareItem : Type 0 where
  Group : (recursive : Bool) (bounds : List Bound) → BareItem
  Check : (word : CheckWord) (body : Term) → BareItem
  Mute : BareItem
  Defined : (name : List ℕ) (parameters : List (List ℕ)) (body : Term) → BareItem

-- a name that stands for something
pub record Naming : Type 0 where
  pub name : List ℕ
  pub kind : Kind
  pub binder : Binder

abbrev pub bound_value_of : code_binding.Binding → Bound
bound_value_of b = record { name = b.name; body = term_of b.body }

abbrev pub bare_item : code_item.Item → BareItem
bare_item (items.Let r g) = Group r (map bound_value_of g.items)
bare_item (items.Function n ps b) = Defined n ps.items (term_of b)
bare_item (items.Check c l) = Check c.word (term_of c.body)
bare_item (items.Flag c l) = Check c.word (term_of c.body)
bare_item (items.Show h s) = Mute
bare_item (items.Include n) = Mute

abbrev pub entry_of : code_entry.Entry → Naming
entry_of e = record { name = e.name; kind = e.kind; binder = e.binder }
