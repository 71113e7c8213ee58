-- What an item does, and the names that it has had, as plain data. Read it after Naming.
use Rattle.std.specs.Prelude.{ℕ, List, [], Option, Some, None}
use Rattle.std.specs.Arc.{arc_value}
pub use Rattle.binding_graph.specs.Contents.{
  CodeContent,
  BodyContent,
  RoleContent,
  Group,
  Check,
  Silent,
  code_content,
  body_content,
  role_content,
}
pub use Rattle.bench_items.specs.Naming.{SeenName, role_at, item_outputs}
use Rattle.binding_graph.specs.declared.resolved.Resolved.{Resolved}
use Rattle.bench_items.specs.declared.items.SharedItem.{SharedItem}

-- the model that it is an item of, and its index there
abbrev pub shared_model : SharedItem → Resolved
shared_model s = arc_value s.resolved

abbrev pub shared_index : SharedItem → ℕ
shared_index s = s.index

-- what an item of a model does
abbrev pub shared_role : SharedItem → RoleContent
shared_role s = role_at (arc_value s.resolved).items.items s.index

-- its history: the names that it has had, in the order in which they came
abbrev pub shared_history : SharedItem → List SeenName
shared_history s = (arc_value s.history).items

-- the numbers by which its outputs go
abbrev pub shared_outputs : SharedItem → List ℕ
shared_outputs s = item_outputs (shared_role s) (shared_history s)

-- the history of an item of which it was never known what it does is empty
abbrev pub held_history : Option SharedItem → List SeenName
held_history None = []
held_history (Some s) = shared_history s
