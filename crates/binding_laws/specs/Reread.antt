-- Laws of items that are read again: after an edit of its model an item that says what it said does
-- what it did, kinds left out, if the names of other items that it uses and the functions that it
-- applies are what they were, as other items see them (`items_are_read_again`). Read `ItemLaws`
-- first.
use Rattle.std.specs.Prelude.{◌≡◌, ℕ, ◌<◌, List, [], length, map, reverse, slice_get, option_map, Option, Some, None}
use Rattle.std.specs.List.{AllByRecursion as Each}
use Rattle.text_values.specs.declared.model.Item.{Item}
use Rattle.predefined_names.specs.declared.predefined.Predefined.{Predefined}
use Rattle.binding_kinds.specs.declared.scope.Input.{Input}
use Rattle.binding_kinds.specs.Value.{Naming, BareItem, bare_item}
use Rattle.binding_kinds.specs.Outermost.{naming_of}
use Rattle.binding_kinds.specs.Faults.{HasNoFault}
use Rattle.binding_graph.specs.declared.resolved.Body.{Body}
use Rattle.binding_graph.specs.declared.resolved.ResolvedItem.{ResolvedItem}
use Rattle.binding_graph.specs.declared.resolved.Role.{Role}
use Rattle.binding_graph.specs.declared.resolved.Role.TheVariants as roles
use Rattle.binding_graph.specs.Contents.{role_content}
use Rattle.binding_graph.specs.Resolved.{AreResolved, AreLabelledAs}
use Rattle.binding_shapes.specs.Shapes.{role_shape}
use Rattle.binding_laws.specs.ItemLaws.{SayTheSame}

-- ---- models

-- a model as it is read: the numbers of its items, the items, and what these are resolved to, in
-- the order of the text
pub record ReadModel : Type 0 where
  pub numbers : List ℕ
  pub items : List Item
  pub resolved : List ResolvedItem

-- the item of that index has that number
abbrev pub HasNumber : ReadModel → ℕ → ℕ → Type 0
HasNumber m index number = slice_get m.numbers index ≡ Some number

-- the names that the first item sees
abbrev pub outer_namings : List Predefined → List Naming
outer_namings ps = reverse (map naming_of ps)

-- each item has a number of its own, none has a fault, and they are resolved to these, where the
-- first sees those names
pub record IsReadModel (names : List Naming) (m : ReadModel) : Type 0 where
  pub numbered : length m.numbers ≡ length m.items
  pub apart : (a b number : ℕ) → HasNumber m a number → HasNumber m b number → a ≡ b
  pub whole : length m.resolved ≡ length m.items
  pub no_fault : HasNoFault [] names 0 (map bare_item m.items)
  pub as_resolved : AreResolved [] [] names 0 (map bare_item m.items) m.resolved
  pub labelled : AreLabelledAs m.items m.resolved

-- The items that both models have stand in one order. Without this the law would fail: of two items
-- that bind one name the later is found.
abbrev pub AreInOneOrder : ReadModel → ReadModel → Type 0
AreInOneOrder m w =
    (a b c d first second : ℕ) → HasNumber m a first → HasNumber m b second → HasNumber w c first
    → HasNumber w d second → a < b → c < d

-- the item of that number stands at that index
pub record IsItemOf (m : ReadModel) (number index : ℕ) (x : Item) (r : ResolvedItem) : Type 0 where
  pub has_number : HasNumber m index number
  pub text : slice_get m.items index ≡ Some x
  pub item : slice_get m.resolved index ≡ Some r

-- ---- what an item uses, as other items see it

abbrev pub bodies_of : Role → List Body
bodies_of (roles.Group recursive bodies) = bodies.items
bodies_of (roles.Check c) = []
bodies_of roles.Silent = []

-- the name at that position of an item, as it is spelt
abbrev pub seen_at : Option ResolvedItem → ℕ → Option (List ℕ)
seen_at None position = None
seen_at (Some r) position = option_map (λ b. b.name) (slice_get (bodies_of r.role) position)

-- a name of another item, by the number of its item
abbrev pub seen_input : ReadModel → Input → Option ℕ × Option (List ℕ)
seen_input m i = (slice_get m.numbers i.item, seen_at (slice_get m.resolved i.item) i.position)

-- a function, by the number of its item, with its text
abbrev pub seen_function : ReadModel → ℕ → Option ℕ × Option BareItem
seen_function m f = (slice_get m.numbers f, option_map bare_item (slice_get m.items f))

-- two items use the same names and apply the same functions, in the same order
pub record UseTheSame (m w : ReadModel) (r q : ResolvedItem) : Type 0 where
  pub inputs : map (seen_input m) r.inputs.items ≡ map (seen_input w) q.inputs.items
  pub functions : map (seen_function m) r.functions.items ≡ map (seen_function w) q.functions.items

-- ---- laws

-- the input has a number and a spelling
pub record IsSeenInput (m : ReadModel) (i : Input) : Type 0 where
  pub number : ℕ
  pub name : List ℕ
  pub seen : seen_input m i ≡ (Some number, Some name)

-- the function has a number and a text
pub record IsSeenFunction (m : ReadModel) (f : ℕ) : Type 0 where
  pub number : ℕ
  pub text : BareItem
  pub seen : seen_function m f ≡ (Some number, Some text)

-- all that an item uses is seen so
abbrev pub UsesAreSeen : Type 0
UsesAreSeen =
    (ps : List Predefined) (m : ReadModel) (number k : ℕ) (x : Item) (r : ResolvedItem)
    → IsReadModel (outer_namings ps) m → IsItemOf m number k x r
    → Each (IsSeenInput m) r.inputs.items × Each (IsSeenFunction m) r.functions.items

-- an item of one number and one text that uses the same in two models of one order does the same in
-- both, whatever the kinds of the names that it uses are in either
abbrev pub ItemsAreReadAgain : Type 0
ItemsAreReadAgain =
    (ps : List Predefined) (m w : ReadModel) (number k l : ℕ) (x y : Item) (r q : ResolvedItem)
    → IsReadModel (outer_namings ps) m → IsReadModel (outer_namings ps) w → AreInOneOrder m w
    → IsItemOf m number k x r → IsItemOf w number l y q → SayTheSame x y → UseTheSame m w r q
    → role_shape (role_content r.role) ≡ role_shape (role_content q.role)
