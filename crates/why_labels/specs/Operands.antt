-- Which names an expression is a union of.
use Rattle.std.specs.Prelude.{ℕ, ◌≡◌, ◌++◌, List, [], ◌∷◌, Bool, true, false, Option, Some, None, nat_lt, ◌<◌, length, slice_get, slice_index_or, IsTrue, option_and_then}
use Rattle.std.specs.Option.{option_map}
use Rattle.std.specs.List.{filter_map}
use Rattle.binding_kinds.specs.declared.scope.Input.{Input}
use Rattle.binding_graph.specs.declared.resolved.Blend.TheVariants as blends
use Rattle.binding_graph.specs.declared.resolved.Body.{Body}
use Rattle.binding_graph.specs.declared.resolved.Code.{Code}
use Rattle.binding_graph.specs.declared.resolved.ResolvedItem.{ResolvedItem}
use Rattle.binding_graph.specs.declared.resolved.Role.{Role}
use Rattle.binding_graph.specs.declared.resolved.Role.TheVariants as roles
use Rattle.binding_graph.specs.declared.resolved.Source.{Source}
use Rattle.binding_graph.specs.declared.resolved.Source.TheVariants as sources
use Rattle.binding_graph.specs.declared.resolved.Step.{Step}
use Rattle.binding_graph.specs.Trees.{RelTree, RelName, BlendRelations, rel_code}
use Rattle.why_labels.specs.declared.unions.ModelName.{ModelName}
use Rattle.why_labels.specs.declared.unions.ModelName.TheVariants as names

-- the names that are operands of the unions that the expression is made of, from left to right:
-- their pairs are its pairs
abbrev pub union_names : RelTree → List Source
union_names (RelName source) = source ∷ []
union_names (BlendRelations blends.Union e f) = union_names e ++ union_names f
union_names e = []

-- the expression of these steps is a union of these names, and of what is no name
abbrev pub IsUnionOf : List Step → List Source → Type 0
IsUnionOf steps sources = (t : RelTree) → steps ≡ rel_code t [] → sources ≡ union_names t

-- the name that stands there, in an item of this index which uses these names of other items
abbrev pub name_of : ℕ → List Input → Source → Option ModelName
name_of item inputs (sources.Predefined name) = Some (names.Predefined name)
name_of item inputs (sources.Input index) = option_map names.Bound (slice_get inputs index)
name_of item inputs (sources.Own position) =
    Some (names.Bound (record { item = item; position = position }))

-- the language or an item before this one binds the name
abbrev pub is_earlier : ℕ → ModelName → Bool
is_earlier item (names.Predefined name) = true
is_earlier item (names.Bound input) = nat_lt input.item item

abbrev pub kept_if : Bool → ModelName → Option ModelName
kept_if true name = Some name
kept_if false name = None

abbrev pub earlier_name : ℕ → List Input → Source → Option ModelName
earlier_name item inputs source =
    option_and_then (λ name. kept_if (is_earlier item name) name) (name_of item inputs source)

-- the expression of an item is a union of these names of the language and of earlier items
abbrev pub AreOperands : ℕ → List Input → Code → List ModelName → Type 0
AreOperands item inputs code operands =
    (sources : List Source) × IsUnionOf code.steps.items sources
    × (operands ≡ filter_map (earlier_name item inputs) sources)

-- what a name of a group that is not recursive stands for
abbrev pub body_in : Role → ℕ → Option Body
body_in (roles.Group false bodies) position = slice_get bodies.items position
body_in (roles.Group true bodies) position = None
body_in (roles.Check check) position = None
body_in roles.Silent position = None

abbrev pub AreOperandsOfBody : ℕ → List Input → Option Body → List ModelName → Type 0
AreOperandsOfBody item inputs None operands = operands ≡ []
AreOperandsOfBody item inputs (Some body) operands = AreOperands item inputs body.code operands

abbrev pub AreOperandsIn : ℕ → ℕ → Option ResolvedItem → List ModelName → Type 0
AreOperandsIn item position None operands = operands ≡ []
AreOperandsIn item position (Some r) operands =
    AreOperandsOfBody item r.inputs.items (body_in r.role position) operands

-- what a name stands for is a union of these names; a name of the language and one of a recursive
-- group is made of none
abbrev pub AreOperandsOf : List ResolvedItem → ModelName → List ModelName → Type 0
AreOperandsOf items (names.Predefined name) operands = operands ≡ []
AreOperandsOf items (names.Bound input) operands =
    AreOperandsIn input.item input.position (slice_get items input.item) operands

-- the language or items before this one bind the names
abbrev pub AreEarlier : ℕ → List ModelName → Type 0
AreEarlier item operands =
    (j : ℕ) → j < length operands → (d : ModelName)
    → IsTrue (is_earlier item (slice_index_or operands j d))
