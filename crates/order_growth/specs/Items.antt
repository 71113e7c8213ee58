-- A resolved item as plain data.
use Rattle.std.specs.Prelude.{ℕ, List}
use Rattle.binding_kinds.specs.declared.scope.Input.{Input}
pub use Rattle.binding_graph.specs.Contents.{
  CodeContent,
  BodyContent,
  RoleContent,
  Group,
  Check,
  Silent,
  code_content,
  body_content,
  role_content,
}
use Rattle.binding_graph.specs.declared.resolved.ResolvedItem.{ResolvedItem}

-- what an item does, the names of other items that it uses, and the functions that it applies
pub record ItemContent : Type 0 where
  pub role : RoleContent
  pub inputs : List Input
  pub functions : List ℕ

abbrev pub item_content : ResolvedItem → ItemContent
item_content r =
    record { role = role_content r.role; inputs = r.inputs.items; functions = r.functions.items }
