-- Which names stand in what a name is bound to, be it a union of them or not.
use Rattle.std.specs.Prelude.{ℕ, List, [], Option, Some, None, slice_get}
use Rattle.std.specs.List.{filter_map}
use Rattle.binding_kinds.specs.declared.scope.Input.{Input}
use Rattle.binding_graph.specs.declared.resolved.Body.{Body}
use Rattle.binding_graph.specs.declared.resolved.Code.{Code}
use Rattle.binding_graph.specs.declared.resolved.ResolvedItem.{ResolvedItem}
use Rattle.binding_graph.specs.declared.resolved.Role.{Role}
use Rattle.binding_graph.specs.declared.resolved.Role.TheVariants as roles
use Rattle.binding_graph.specs.declared.resolved.Source.{Source}
use Rattle.binding_graph.specs.declared.resolved.Step.{Step}
use Rattle.binding_graph.specs.declared.resolved.Step.TheVariants as steps
use Rattle.why_labels.specs.declared.unions.ModelName.{ModelName}
use Rattle.why_labels.specs.Operands.{earlier_name}

-- the name of a relation that the step stands for
abbrev pub relation_in : Step → Option Source
relation_in (steps.PushRelation source) = Some source
relation_in step = None

-- the names of relations in an expression of an item, from left to right: those of the language and
-- of earlier items
abbrev pub names_in : ℕ → List Input → Code → List ModelName
names_in item inputs code =
    filter_map (earlier_name item inputs) (filter_map relation_in code.steps.items)

-- what a group binds at a position
abbrev pub body_at : Role → ℕ → Option Body
body_at (roles.Group recursive bodies) position = slice_get bodies.items position
body_at (roles.Check check) position = None
body_at roles.Silent position = None

abbrev pub names_in_body : ℕ → List Input → Option Body → List ModelName
names_in_body item inputs None = []
names_in_body item inputs (Some body) = names_in item inputs body.code

abbrev pub names_in_item : Input → Option ResolvedItem → List ModelName
names_in_item input None = []
names_in_item input (Some r) =
    names_in_body input.item r.inputs.items (body_at r.role input.position)

-- the names in what a name is bound to
abbrev pub names_inside : List ResolvedItem → Input → List ModelName
names_inside items input = names_in_item input (slice_get items input.item)
